use Rattle.std.proofs.Common.{◌≡◌, Some, refl, sym, ap, ◌∙◌, subst}
use Rattle.mv_calls.specs.Keeping.{kept_of}
use Rattle.mv_calls.specs.Program.{Wrong}
use Rattle.mv_calls.specs.Waits.{wait_refusal}
use Rattle.mv_wait.specs.Answers.{wait_refused}
use Rattle.mv_wait.proofs.Parts.{still_of}
use Rattle.mv_wait.proofs.Runs.{same_then}
use Rattle.mv_polled.specs.declared.turn.Stage.TheVariants.{New}
use Rattle.mv_polled.specs.WaitCall.{wait_face}
use Rattle.mv_polled.specs.Waiting.{WaitFace}
use Rattle.mv_polled.proofs.Waits.{wait_begins, refused_at_once, turn_since}
use Rattle.mv_polled.proofs.waiting.WaitCall.poll.Goals as goal

pub returns-in-Over-begin_wait-clause-turn : goal.returns-in-Over-begin_wait-clause-turn
returns-in-Over-begin_wait-clause-turn g c = λ t0 at.
    let s = c.args.station.now.config in
    let t = c.args.task.now in
    let u = c.begin_wait.new.task in
    let new : c.args.self.now.stage ≡ New = sym (ap (λ (f : WaitFace). f.stage) c.self.view_is) ∙ c.in-New.is in
    let over = c.in-Over-begin_wait in
    let why = wait_refused over.refusal in
    let refusal = subst (λ (f : WaitFace). wait_refusal s f.count f.ecbs (kept_of t.number t.log) ≡ Some why) c.self.view_is
    (subst (λ xs. wait_refusal s c.self.inside.count xs (kept_of t.number t.log) ≡ Some why) c.deref.ensures.value
    over.ensures.begun.0) in
    refused_at_once s c.args.self.now c.refuse.new.self over.refusal t0 t u at new c.refuse.ensures refusal over.ensures.begun.1

pub go_on-requires-clause-task : goal.go_on-requires-clause-task
go_on-requires-clause-task g c =
    still_of c.args.station.now c.args.station.now c.args.task.now c.begin_wait.new.task (c.in_default.ensures.begun.arms Wrong).went.same
    c.requires.task refl

pub go_on-requires-clause-waiting : goal.go_on-requires-clause-waiting
go_on-requires-clause-waiting g c =
    let s = c.args.station.now.config in
    let t = c.args.task.now in
    let u = c.begin_wait.new.task in
    let new : c.args.self.now.stage ≡ New = sym (ap (λ (f : WaitFace). f.stage) c.self.view_is) ∙ c.in-New.is in
    let at = c.requires.stage in (
      at.0,
      wait_begins s c.args.self.now (wait_face c.self.inside) c.deref.result.now at.0 t u at.1 new c.self.view_is
          c.deref.ensures.value c.in_default.ensures.begun,
    )

pub returns-in_default-clause-task : goal.returns-in_default-clause-task
returns-in_default-clause-task g c =
    same_then c.args.task.now c.begin_wait.new.task c.go_on.new.task (c.in_default.ensures.begun.arms Wrong).went.same c.go_on.ensures.task

pub returns-in_default-clause-turn : goal.returns-in_default-clause-turn
returns-in_default-clause-turn g c = λ t0 at.
    let s = c.args.station.now.config in
    let t = c.args.task.now in
    let u = c.begin_wait.new.task in
    let new : c.args.self.now.stage ≡ New = sym (ap (λ (f : WaitFace). f.stage) c.self.view_is) ∙ c.in-New.is in
    let met = (c.in_default.ensures.begun.arms Wrong).went.met in
    turn_since s c.go_on.new.self met.0 t0 t u c.go_on.new.task c.go_on.result met.1
    (c.go_on.ensures.turn t0
    (wait_begins s c.args.self.now (wait_face c.self.inside) c.deref.result.now t0 t u at new c.self.view_is c.deref.ensures.value
    c.in_default.ensures.begun))
