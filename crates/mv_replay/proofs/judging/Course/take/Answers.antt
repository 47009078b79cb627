-- What is wrong stays so; else the judge says of the entry what it is.
use Rattle.std.proofs.Common.{sym, ◌∙◌}
use Rattle.std.proofs.lemmas.Bool.{false≢true}
use Rattle.mv_replay.proofs.Courses.{course_still, right_so, right_on, wrong_by_number, wrong_by_entry}
use Rattle.mv_replay.proofs.judging.Course.take.Goals as goal

pub returns-in-Some-clause-course : goal.returns-in-Some-clause-course
returns-in-Some-clause-course c = λ v copied es ns h before now at.
    let old = c.args.self.now in
    course_still v copied old.config es ns c.args.told c.args.entry.now old.wrong c.in-Some.field-0 old.judge old.copy c.in-Some.is h
    before now

pub next-requires-clause-judged : goal.next-requires-clause-judged
next-requires-clause-judged c =
    let old = c.args.self.now in
    let w = c.requires.few in
    (w.2, (right_so w.0 w.1 c.args.self.now.config w.2 w.3 old.wrong old.judge old.copy c.in_default.is w.4).judged, w.5)

pub returns-then-is_told-clause-course : goal.returns-then-is_told-clause-course
returns-then-is_told-clause-course c = λ v copied es ns h before now at.
    let old = c.args.self.now in
    let config = c.args.self.now.config in
    let right = right_so v copied config es ns old.wrong old.judge old.copy c.in_default.is h in
    let next = c.in-Some-next.ensures es right.judged in
    right_on c.copy_line.result v copied config es ns c.args.told c.args.entry.now c.in-Some-next.number old.wrong old.judge c.next.new.self
    old.copy c.copy_line.new.copy c.in_default.is right before now next (c.is_told.ensures.0 c.if-is_told.true)
    (c.copy_line.ensures copied config es right.copy_is next.number)

pub returns-else-is_told-clause-course : goal.returns-else-is_told-clause-course
returns-else-is_told-clause-course c = λ v copied es ns h before now at.
    let old = c.args.self.now in
    let config = c.args.self.now.config in
    let right = right_so v copied config es ns old.wrong old.judge old.copy c.in_default.is h in
    wrong_by_number v copied config es ns c.args.told c.args.entry.now c.in-Some-next.number c.args.line old.judge c.next.new.self
    old.copy right before now at (c.in-Some-next.ensures es right.judged)
    (λ same. false≢true (sym c.if-is_told.false ∙ c.is_told.ensures.1 same))

pub returns-in-None-clause-course : goal.returns-in-None-clause-course
returns-in-None-clause-course c = λ v copied es ns h before now at.
    let old = c.args.self.now in
    let config = c.args.self.now.config in
    let e = c.args.entry.now in
    let right = right_so v copied config es ns old.wrong old.judge old.copy c.in_default.is h in
    wrong_by_entry v copied config es ns c.args.told e c.args.line old.judge old.copy right before now at
    (c.in-None.ensures es right.judged)
