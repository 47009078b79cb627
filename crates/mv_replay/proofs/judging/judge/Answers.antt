-- The course is one entry further with each that is read.
use Rattle.std.proofs.Common.{ℕ, ◌∷◌, ◌++◌, [], List, Option, refl, sym, subst}
use Rattle.mv_machine.specs.declared.entry.Entry.{Entry}
use Rattle.mv_config.specs.Setup.{Setup}
use Rattle.mv_entrytext.specs.Lines.{with_call}
use Rattle.mv_entrytext.specs.Reader.{IsReadTo, IsNextOf}
use Rattle.mv_replay.specs.Course.{is_copied, IsCourse}
use Rattle.mv_replay.proofs.judging.judge.Goals as goal

pub take-requires-clause-place : goal.take-requires-clause-place
take-requires-clause-place c =
    let w = c.entries.invariant in
    (subst (λ (o : Option (Option ℕ × Entry)). IsNextOf w.0 c.args.bytes.now c.entries.course.config w.1 w.2 o c.next.new.self)
    c.in-Some.is (c.in_ok-call.ensures.read w.0 c.args.bytes.now c.entries.course.config w.1 w.2 w.3)).ranges.0.place

pub entries-preserved : goal.entries-preserved
entries-preserved c =
    let bytes = c.args.bytes.now in
    let config = c.entries.course.config in
    let w = c.entries.invariant in
    let es : List Entry = w.1 ++ c.in-Some.entry ∷ [] in
    let ns : List ℕ = with_call c.in-Some.call w.2 in
    let new = c.take.new.self in
    let next =
    subst (λ (o : Option (Option ℕ × Entry)). IsNextOf w.0 bytes config w.1 w.2 o c.next.new.self) c.in-Some.is
    (c.in_ok-call.ensures.read w.0 bytes config w.1 w.2 w.3) in
    let course =
    c.in_ok-take-in-Some.ensures.course w.0 (is_copied c.args.command w.0) w.1 w.2 w.4 w.3.calls next.read.calls
    (c.line-line.ensures w.0 bytes config w.1 w.2 w.3) in (
      w.0,
      es,
      ns,
      subst (λ (s : Setup). IsReadTo w.0 bytes s es ns c.next.new.self) (sym c.take.ensures.config) next.read,
      subst (λ (s : Setup). IsCourse w.0 (is_copied c.args.command w.0) s es ns new.wrong new.judge new.copy) (sym c.take.ensures.config)
          course,
    )

pub returns-in-None : goal.returns-in-None
returns-in-None c =
    let bytes = c.args.bytes.now in
    let config = c.entries.course.config in
    let w = c.entries.invariant in
    let whole =
    subst (λ (o : Option (Option ℕ × Entry)). IsNextOf w.0 bytes config w.1 w.2 o c.next.new.self) c.in-None.is
    (c.in_ok-call.ensures.read w.0 bytes config w.1 w.2 w.3) in
    c.end.ensures c.args.command w.0 bytes config w.1 w.2 w.4 whole.journal whole.text (c.count.ensures w.0 bytes config w.1 w.2 whole.read)
    refl
