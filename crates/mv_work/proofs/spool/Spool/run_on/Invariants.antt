use Rattle.std.proofs.Common.{◌+◌, ◌≡◌, drop}
use Rattle.mv_plan.specs.Jobs.{job_at}
use Rattle.mv_work.specs.Initiating.{IsAtJob, rounds_due, steps_events, steps_from, steps_marks}
use Rattle.mv_work.specs.Ran.{Leads}
use Rattle.mv_work.specs.Steps.{requests_of}
use Rattle.mv_wait.specs.Run.{MayCall}
use Rattle.mv_work.proofs.spool.Spool.run_on.Given as goal

abbrev pub invariant-loop-place : goal.invariant-loop-place
invariant-loop-place g l = record {
  task : MayCall l.self.board (steps_events (drop l.place (job_at l.self.jobs l.fn.running.job).steps) + 4
      + rounds_due l.self l.me (l.fn.running.round.number + 1)) l.task;
  at : IsAtJob l.self l.me l.fn.running.round.number l.fn.running.job
      (steps_marks (drop l.place (job_at l.self.jobs l.fn.running.job).steps));
  leads : Leads (steps_from l.self l.fn.me l.fn.running l.fn.running.step (requests_of l.fn.running.requests))
      (steps_from l.self l.me l.fn.running l.place (requests_of l.fn.running.requests)) l.fn.task l.task;
  same : l.me.index ≡ l.fn.me.index;
}
