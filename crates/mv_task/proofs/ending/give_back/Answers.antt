use Rattle.std.proofs.Common.{sym, ◌∙◌, subst}
use Rattle.mv_element.specs.declared.operation.ElementOp.TheVariants.{Close}
use Rattle.mv_element.specs.declared.operation.ElementReply.TheVariants.{Closed}
use Rattle.mv_machine.specs.declared.entry.Object.TheVariants.{Element}
use Rattle.mv_machine.specs.declared.entry.Op.TheVariants as op_on
use Rattle.mv_machine.specs.declared.entry.Reply.TheVariants as reply_of
use Rattle.mv_board.specs.Faces.{Happened}
use Rattle.mv_task.proofs.Closings.{closes_used, own_token, others_stay}
use Rattle.mv_task.proofs.ending.give_back.Goals as goal

pub unreachable-requires : goal.unreachable-requires
unreachable-requires g c =
    let n = c.args.element in
    c.in_default.not-Ok tt
    (c.deallocate.ensures.current
    (own_token c.args.station.now.config c.args.task.now (record { element = n; generation = c.generation.result }) c.requires.own)
    (record { used = sym c.in_use.ensures ∙ c.if-not-in_use.false; generation = sym c.generation.ensures.kept }))

pub returns-clause-closed : goal.returns-clause-closed
returns-clause-closed g c =
    let n = c.args.element in
    let t = c.args.task.now in
    let u = c.deallocate.new.task in
    closes_used n t u (sym c.in_use.ensures ∙ c.if-not-in_use.false)
    (subst (λ i. Happened t (Element n) (op_on.Element (Close i)) (reply_of.Element Closed) u) c.generation.ensures.kept
    c.in-Ok.ensures.causes.1)

pub returns-clause-others : goal.returns-clause-others
returns-clause-others g c =
    others_stay c.args.element c.generation.result c.args.task.now c.deallocate.new.task c.in-Ok.ensures.causes.1
