use Rattle.std.proofs.Common.{length, arith}
use Rattle.mv_plan.specs.SpoolSetup.{scheduler}
use Rattle.mv_plan.proofs.deck.Setup.{first_part}
use Rattle.mv_work.proofs.Spools.{block_own, entered_cost}
use Rattle.mv_work.proofs.spool.Spool.entered.Goals as goal

pub returns-clause-own : goal.returns-clause-own
returns-clause-own g c =
    let s = c.args.self.now in
    rw c.entered.ensures (block_own c.jobs.ensures.spool scheduler c.args.job (omega arith)
    (first_part (length s.jobs) s.initiators c.args.job (omega arith)) (λ j lt q. omega arith))

pub returns-clause-cost : goal.returns-clause-cost
returns-clause-cost g c = rw c.entered.ensures (entered_cost c.jobs.ensures.spool c.args.job c.requires)
