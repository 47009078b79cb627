use Rattle.std.proofs.Common.{length, arith}
use Rattle.mv_plan.specs.SpoolSetup.{idle, scheduler}
use Rattle.mv_plan.proofs.deck.Setup.{idle_part}
use Rattle.mv_work.proofs.Spools.{block_own, idle_cost}
use Rattle.mv_work.proofs.spool.Spool.idle.Goals as goal

pub returns-clause-own : goal.returns-clause-own
returns-clause-own g c =
    let s = c.args.self.now in
    rw (c.idle.ensures, c.jobs.ensures.jobs) (block_own c.jobs.ensures.spool scheduler (idle (length s.jobs) c.args.index) (omega arith)
    (idle_part (length s.jobs) s.initiators c.args.index (omega arith)) (λ j lt q. omega arith))

pub returns-clause-cost : goal.returns-clause-cost
returns-clause-cost g c = idle_cost c.jobs.ensures.spool c.idle.result (omega arith) (omega arith)
