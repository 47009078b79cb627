use Rattle.std.proofs.Common.{arith}
use Rattle.mv_work.proofs.Steps.{kept_with, still_kept}
use Rattle.mv_work.proofs.spool.Spool.on_granted.Goals as goal

pub run_on-requires-clause-running : goal.run_on-requires-clause-running
run_on-requires-clause-running g c =
    let was = c.requires.running in
    let r = c.args.running in
    record { at = was.at; next = was.next; kept = still_kept r.latch c.args.token (omega arith) c.requires.token.1 was.kept }

pub returns-clause-comes : goal.returns-clause-comes
returns-clause-comes g c =
    let r = c.args.running in rw (kept_with r.requests r.latch c.args.token (omega arith)) at c.run_on.ensures.comes
