use Rattle.std.proofs.Common.{◌≤◌, ◌+◌, ◌-◌, [], length}
use Rattle.std.specs.List.{range_with_len}
use Rattle.mv_board.specs.Faces.{IsOf}
use Rattle.mv_calls.specs.Posts.{post}
use Rattle.mv_calls.specs.Program.{for_each, finished}
use Rattle.mv_calls.specs.Rest.{IsAtRest}
use Rattle.mv_plan.specs.SpoolSetup.{entered}
use Rattle.mv_plan.specs.SpoolTasks.{reading}
use Rattle.mv_work.specs.Ran.{Leads}
use Rattle.mv_work.proofs.spool.Spool.read.Given as goal

abbrev pub invariant-loop-job : goal.invariant-loop-job
invariant-loop-job g l = record {
  board : IsOf l.self.board l.task;
  quiet : IsAtRest l.task.log;
  left : length l.self.jobs ≤ l.task.left + l.job;
  leads : Leads (reading l.self.board.config (length l.self.jobs))
      (for_each (range_with_len l.job (length l.self.jobs - l.job)) (λ j. post l.self.board.config (entered j) 0) (finished []))
      l.initial.task l.task;
}
