-- A copy has its last line, and the text is a legal journal.
use Rattle.std.proofs.Common.{ℕ, ◌∙◌, Option, subst}
use Rattle.mv_operationtext.specs.declared.version.Version.TheVariants.{Two}
use Rattle.mv_replay.specs.Course.{IsCourse, is_copied}
use Rattle.mv_replay.proofs.Courses.{right_so, made_now, none_made, ends_right, ends_wrong}
use Rattle.mv_replay.proofs.judging.Course.end.Goals as goal

pub returns-in_ok-text-in-Some-copy : goal.returns-in_ok-text-in-Some-copy
returns-in_ok-text-in-Some-copy c = λ command v bytes setup es ns h journal text number config.
    let x = c.args.self in
    let copied = is_copied command v in
    let right = right_so v copied setup es ns x.wrong x.judge x.copy c.in_default.is h in
    let text_made = c.in_ok-text-in-Some-copy in
    ends_right command v bytes setup es ns _ x.copy right journal text number config
    (made_now copied setup es c.from.result x.copy c.in-Some-copy.writer text_made.text.items c.in-Some-copy.is right.copy_is
    (c.from.ensures ∙ number)
    (λ lines w. text_made.ensures Two setup lines w))

pub returns-in-None : goal.returns-in-None
returns-in-None c = λ command v bytes setup es ns h journal text number config.
    let x = c.args.self in
    let copied = is_copied command v in
    let right = right_so v copied setup es ns x.wrong x.judge x.copy c.in_default.is h in
    ends_right command v bytes setup es ns _ x.copy right journal text number config
    (none_made copied setup es x.copy c.in-None.is right.copy_is)

pub returns-in-Some : goal.returns-in-Some
returns-in-Some c = λ command v bytes setup es ns h journal text number config.
    let x = c.args.self in
    ends_wrong v bytes setup es ns c.in-Some.line journal text
    (subst (λ (o : Option ℕ). IsCourse v (is_copied command v) setup es ns o x.judge x.copy) c.in-Some.is h)
