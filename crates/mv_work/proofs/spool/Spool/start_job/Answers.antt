use Rattle.std.proofs.Common.{None, replicate}
use Rattle.mv_deck.specs.Operand.{volume_count}
use Rattle.mv_work.specs.declared.stage.Running.{Running}
use Rattle.mv_work.proofs.Rounds.{job_skipped, job_begun}
use Rattle.mv_work.proofs.Steps.{no_requests}
use Rattle.mv_work.proofs.Waits.{comes_as}
use Rattle.mv_work.proofs.spool.Spool.start_job.Goals as goal

pub returns-then-named-clause-comes : goal.returns-then-named-clause-comes
returns-then-named-clause-comes g c =
    let r : Running = record {
      round = c.args.round;
      job = c.args.named.job;
      step = 0;
      latch = 0;
      requests = replicate volume_count None;
    } in
    let comes = rw (c.requires.none, c.new-running.ensures) at c.end_job.ensures.comes in
    comes_as (job_skipped c.args.self.now c.args.me.now r c.args.named.skipped c.if-named.true) comes

pub returns-clause-comes : goal.returns-clause-comes
returns-clause-comes g c =
    let r : Running = record {
      round = c.args.round;
      job = c.args.named.job;
      step = 0;
      latch = 0;
      requests = replicate volume_count None;
    } in
    let comes = rw (c.requires.none, c.new-running.ensures, no_requests) at c.run_on.ensures.comes in
    comes_as (job_begun c.args.self.now c.args.me.now r c.args.named.skipped c.if-named.false) comes
