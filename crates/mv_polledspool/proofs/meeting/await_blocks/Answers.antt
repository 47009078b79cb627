use Rattle.std.proofs.Common.{ℕ, List, length, refl, sym, ap, ◌∙◌, subst, arith}
use Rattle.std.proofs.lemmas.Result.{err_from_is_err_and}
use Rattle.mv_calls.specs.Program.{Done}
use Rattle.mv_work.specs.declared.need.Need.TheVariants as need
use Rattle.mv_work.specs.Needs.{Slots, need_call}
use Rattle.mv_work.specs.Ran.{Ran}
use Rattle.mv_calls.specs.declared.outcomes.WaitSlot.{WaitSlot}
use Rattle.mv_work.proofs.Meeting.{met}
use Rattle.mv_work.proofs.Runs.{served_few}
use Rattle.mv_polledspool.proofs.meeting.await_blocks.Goals as goal

pub unreachable-requires : goal.unreachable-requires
unreachable-requires g c =
    let stage = c.requires.stage in
    let waited = rw c.in_ok-waited-in-Ready.was at c.in-Ready.ensures.turn stage.0 stage.1 in
    let size = ap (λ (xs : List WaitSlot). length xs) c.slots.ensures ∙ waited.causes.2
    ∙ ap (λ (xs : List ℕ). length xs) c.poll.ensures.call.1 in
    let few = c.requires.few in
    let full = c.in_default.ensures in
    omega arith

pub returns-in-Ok-clause-turn : goal.returns-in-Ok-clause-turn
returns-in-Ok-clause-turn g c b t does =
    let config = c.args.station.now.config in
    let u = c.poll.new.task in
    let call = c.poll.ensures.call in
    let waited = rw c.in_ok-waited-in-Ready.was at c.in-Ready.ensures.turn t does.3 in
    let es = call.1 ∙ does.1 in
    let slots = c.slots.ensures in
    let size = ap (λ (xs : List WaitSlot). length xs) slots ∙ waited.causes.2 ∙ ap (λ (xs : List ℕ). length xs) es in
    let found = c.in-Ok.ensures.0 in
    let served = rw (call.0 ∙ does.0, es) at waited.served in (
      ap (λ (xs : List WaitSlot). length xs) found ∙ size,
      subst (λ (xs : List WaitSlot). Ran (need_call config (need.Blocks b)) (Done (Slots xs)) t u)
          (sym slots ∙ sym found) (met _ served refl),
      served_few served,
    )

pub returns-in_err-waited-in-Ready-clause-turn : goal.returns-in_err-waited-in-Ready-clause-turn
returns-in_err-waited-in-Ready-clause-turn g c b t does =
    let call = c.poll.ensures.call in
    let waited = rw c.in_err-waited-in-Ready.was at c.in-Ready.ensures.turn t does.3 in
    let p = err_from_is_err_and c.from_residual.result c.from_residual.ensures.1 in
    rw p.1 (met _ (rw (call.0 ∙ does.0, call.1 ∙ does.1) at waited.served) refl)
