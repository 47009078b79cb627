use Rattle.std.proofs.Common.{[], ◌∷◌, List, refl, ap, ◌∙◌, subst}
use Rattle.std.proofs.lemmas.Result.{err_from_is_err_and}
use Rattle.mv_calls.specs.Program.{Done}
use Rattle.mv_calls.specs.declared.outcomes.WaitSlot.{WaitSlot}
use Rattle.mv_calls.specs.declared.outcomes.WaitSlot.TheVariants.{Complete}
use Rattle.mv_wait.proofs.OneBlock.{found_code, slot_is, waited_made}
use Rattle.mv_work.specs.declared.need.Need.TheVariants as need
use Rattle.mv_work.specs.Needs.{Slots, need_call}
use Rattle.mv_work.specs.Ran.{Ran}
use Rattle.mv_work.proofs.Meeting.{met}
use Rattle.mv_work.proofs.Runs.{served_few}
use Rattle.mv_polledspool.proofs.meeting.await_block.Goals as goal

pub returns-in-Complete-clause-turn : goal.returns-in-Complete-clause-turn
returns-in-Complete-clause-turn g c e t does =
    let config = c.args.station.now.config in
    let u = c.poll.new.task in
    let call = c.poll.ensures.call in
    let waited = rw c.in_ok-waited-in-Ready.was at c.in-Ready.ensures.turn t does.2 in
    let served = rw (call.0 ∙ does.0, call.1 ∙ does.1) at waited.served in
    let accepted = rw (call.0 ∙ does.0, call.1 ∙ does.1) at waited.causes.0 in
    let found = waited_made config e _ t u served accepted in
    let slots = slot_is c.poll.new.self.slots served.answer found.0 served.is found.1 in
    let code = found_code c.slots.result.now found.0 c.in-Complete.code (Complete 0) (c.slots.ensures ∙ slots) c.in-Complete.is in (
      tt,
      subst (λ (xs : List WaitSlot). Ran (need_call config (need.Block e)) (Done (Slots xs)) t u)
          (slots ∙ ap (λ n. Complete n ∷ []) code) (met _ served refl),
      served_few served,
    )

pub returns-in_err-waited-in-Ready-clause-turn : goal.returns-in_err-waited-in-Ready-clause-turn
returns-in_err-waited-in-Ready-clause-turn g c e t does =
    let call = c.poll.ensures.call in
    let waited = rw c.in_err-waited-in-Ready.was at c.in-Ready.ensures.turn t does.2 in
    let p = err_from_is_err_and c.from_residual.result c.from_residual.ensures.1 in
    rw p.1 (met _ (rw (call.0 ∙ does.0, call.1 ∙ does.1) at waited.served) refl)
