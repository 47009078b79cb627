use Rattle.std.proofs.Common.{◌≡◌, refl, subst, arith}
use Rattle.mv_latch.specs.declared.operation.LatchOp.TheVariants.{Purge}
use Rattle.mv_machine.specs.declared.entry.Object.TheVariants.{Latches}
use Rattle.mv_machine.specs.declared.entry.Op.TheVariants as op_on
use Rattle.mv_board.specs.Faces.{Happened}
use Rattle.mv_latchset.specs.Replies.{purge_reply}
use Rattle.mv_latchset.proofs.Admits.{may_purge}
use Rattle.mv_latchset.proofs.Answering.{fair_wakes, says_purged}
use Rattle.mv_latchset.proofs.Releases.{costs_one, left_for_wakes, purge_served}
use Rattle.mv_latchset.proofs.Resting.{purge_rests}
use Rattle.mv_wait.proofs.Parts.{still_of}
use Rattle.mv_latchset.proofs.purging.purge.Goals as goal

pub event-reply-requires-clause-left : goal.event-reply-requires-clause-left
event-reply-requires-clause-left g c = let one = costs_one c.args.station.now.config in let left = c.requires.task.left in omega arith

pub event-reply-requires-clause-admitted : goal.event-reply-requires-clause-admitted
event-reply-requires-clause-admitted g c lt =
    may_purge c.args.station.now.config c.args.task.now.number c.args.requestor c.args.task.now.log lt

pub purged_in-purged-requires : goal.purged_in-purged-requires
purged_in-purged-requires g c = says_purged c.args.station.now.config c.args.task.now c.event-reply.new.task c.args.requestor
    c.event-reply.result c.event-reply.ensures.event c.event-reply.ensures.possible

pub post_wakes-requires-clause-task : goal.post_wakes-requires-clause-task
post_wakes-requires-clause-task g c =
    let s = c.args.station.now in
    let t = c.args.task.now in
    let v = c.event-reply.new.task in
    let event = c.event-reply.ensures.event in record {
      board = still_of s s t v event.1.same c.requires.task.board refl;
      rest = purge_rests t v c.args.requestor (purge_reply c.purged_in-purged.result)
          (subst (λ r. Happened t Latches (op_on.Latch (Purge c.args.requestor)) r v) c.purged_in-purged.ensures event)
          c.requires.task.rest;
      left = left_for_wakes s.config v.wakes t.left v.left
          (fair_wakes s.config t v (Purge c.args.requestor) c.event-reply.result event c.event-reply.ensures.possible)
          c.requires.task.left c.event-reply.ensures.few event.1.left;
    }

pub post_wakes-requires-clause-fair : goal.post_wakes-requires-clause-fair
post_wakes-requires-clause-fair g c = (fair_wakes c.args.station.now.config c.args.task.now c.event-reply.new.task
    (Purge c.args.requestor) c.event-reply.result c.event-reply.ensures.event c.event-reply.ensures.possible).each

pub returns : goal.returns
returns g c =
    let s = c.args.station.now.config in
    let t = c.args.task.now in
    let v = c.event-reply.new.task in
    let p = c.purged_in-purged.result in
    let fair = fair_wakes s t v (Purge c.args.requestor) c.event-reply.result c.event-reply.ensures.event
    c.event-reply.ensures.possible in
    let few = c.event-reply.ensures.few in
    let left = c.requires.task.left in record {
      served = purge_served s c.args.requestor (λ a. a ≡ p) t v c.post_wakes.new.task p.removed p.granted
          (subst (λ r. Happened t Latches (op_on.Latch (Purge c.args.requestor)) r v) c.purged_in-purged.ensures
          c.event-reply.ensures.event)
          c.post_wakes.ensures.posted (fair.cost (omega arith)) c.requires.task.rest c.post_wakes.ensures.rest refl;
    }
