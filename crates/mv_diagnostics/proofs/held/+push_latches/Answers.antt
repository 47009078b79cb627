-- One latch, and the others.
use Rattle.std.proofs.Common.{arith}
use Rattle.std.proofs.lemmas.Result.{on_ok_weaker}
use Rattle.mv_diagnostics.proofs.HeldLatches.{latches_more}
use Rattle.mv_diagnostics.proofs.held.+push_latches.Goals as goal

pub returns : goal.returns
returns t c =
    on_ok_weaker c.push_latches.result
    (latches_more c.args.name.now c.args.steps.now c.args.out.now.items c.push_latch.new.out.items c.push_latches.new.out.items c.args.from
    c.held.result (omega arith) c.held.ensures c.in_ok-push_latch.ensures) c.push_latches.ensures
