-- Two more owners, and in the end those of the idle blocks.
use Rattle.mv_plan.proofs.Words.{◌+◌, ◌*◌, ap, ◌∙◌, arith}
use Rattle.std.proofs.Common.{vec_len}
use Rattle.mv_plan.proofs.code.{front_owners, owners_more, owners_all}
use Rattle.mv_plan.proofs.spool_setup.owners_of.Goals as goal

pub loop-preserved : goal.loop-preserved
loop-preserved c =
    owners_more c.args.jobs c.writer-writer.result c.loop.counter c.loop.owners.items c.push.new.self.items
    c.push-in-loop.new.self.items c.in_ok-push.ensures.items c.in_ok-push-2.ensures.items c.loop.invariant

pub returns : goal.returns
returns c =
    owners_all c.args.jobs c.args.initiators c.loop.counter (4 * c.args.jobs + c.args.initiators) (vec_len c.loop.owners)
    c.loop.owners.items c.resize-2.new.self.items
    c.in_ok-resize-2.ensures.items (omega arith) (omega arith) (omega arith)
    (c.loop.invariant ∙ ap (λ w. front_owners c.args.jobs w c.loop.counter) c.writer-writer.ensures)
