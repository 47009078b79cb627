use Rattle.std.proofs.Common.{◌≡◌, Some, Ok, Err, refl, sym, ap, subst, arith}
use Rattle.mv_calls.specs.Pauses.{try_release}
use Rattle.mv_calls.specs.Services as service
use Rattle.mv_element.specs.Element.{reset}
use Rattle.mv_machine.specs.declared.entry.Object.TheVariants.{Element}
use Rattle.mv_machine.specs.declared.packing.WordState.TheVariants as state
use Rattle.mv_machine.proofs.Words.{packed_unpacks}
use Rattle.mv_pause.specs.Releasing.{HasNoPause, IsTried}
use Rattle.mv_wait.specs.Run.{IsServed}
use Rattle.mv_script.specs.declared.answer.Answer.TheVariants as answer
use Rattle.mv_scriptline.specs.declared.call.Call.TheVariants as call
use Rattle.mv_runscript.specs.Served.{MakesService}
use Rattle.mv_runscript.proofs.Makes.{plain_makes, missed_makes}
use Rattle.mv_runscript.proofs.Served.{served_with}
use Rattle.mv_runscript.proofs.trying.try_release_token.Goals as goal

pub try_release-requires-clause-unpaused : goal.try_release-requires-clause-unpaused
try_release-requires-clause-unpaused c =
    let token = c.args.token in
    let place = c.args.place in
    let low = c.requires.generation in
    subst (HasNoPause token.element) (sym c.reset_at-reset.ensures) (record {
      place = place;
      state = reset token.generation;
      unpacks = packed_unpacks (Element token.element) place (state.Element (reset token.generation)) (omega arith, omega arith);
      phase = λ is. absurd (cc is);
    })

pub returns-in-Ok-Early : goal.returns-in-Ok-Early
returns-in-Ok-Early c table tokens =
    let config = c.args.station.now.config in
    let token = c.args.token in
    let code = c.args.code in
    let t = c.args.task.now in
    let u = c.try_release.new.task in
    plain_makes (call.TryRelease token c.args.place code) refl refl refl
    (subst (λ w. MakesService config (service.TryRelease token w code) answer.Early t u) c.reset_at-reset.ensures
    (served_with refl
    (subst (λ r. IsServed 1 (try_release token c.reset_at-reset.result code) (λ a. a ≡ Ok r) t u) c.in-Ok-Early.field-0-is
    c.in-Ok-Early.ensures.served)))

pub returns-in-Err-Moved : goal.returns-in-Err-Moved
returns-in-Err-Moved c table tokens =
    let token = c.args.token in
    missed_makes {moved = record { 0 = c.in-Err-Moved.word }} (ap (λ w. Some (Element token.element, w)) (sym c.reset_at-reset.ensures))
    c.requires.task.rest
    (subst (λ e. IsTried token c.reset_at-reset.result c.args.code c.args.task.now (Err e) c.try_release.new.task)
    c.in-Err-Moved.field-0-is c.in-Err-Moved.ensures.causes)
