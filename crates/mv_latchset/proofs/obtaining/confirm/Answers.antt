use Rattle.std.proofs.Common.{subst}
use Rattle.mv_latch.specs.declared.operation.LatchOp.TheVariants.{Confirm}
use Rattle.mv_machine.specs.declared.entry.Object.TheVariants.{Latches}
use Rattle.mv_machine.specs.declared.entry.Op.TheVariants as op_on
use Rattle.mv_board.specs.Faces.{Happened}
use Rattle.mv_latchset.proofs.Answering.{latch_answers, settled_as}
use Rattle.mv_latchset.proofs.obtaining.confirm.Goals as goal

pub returns : goal.returns
returns g c =
    let t = c.args.task.now in
    let u = c.event-reply.new.task in
    let confirm = Confirm c.args.latch c.args.id in
    let a = latch_answers c.args.station.now.config t u confirm c.event-reply.result c.event-reply.ensures.event
    c.event-reply.ensures.possible in
    subst (λ r. Happened t Latches (op_on.Latch confirm) r u)
    (settled_as a.0 c.args.latch c.args.id c.event-reply.result c.granted_in.result a.1 c.granted_in.ensures)
    c.event-reply.ensures.event
