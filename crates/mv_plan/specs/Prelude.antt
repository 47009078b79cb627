-- The words of clauses, from one place: the spool's configuration, and the programs of its tasks.
pub use Rattle.mv_plan.specs.Jobs.{job_at}
pub use Rattle.mv_plan.specs.SpoolRun.{IsRun}
pub use Rattle.mv_plan.specs.SpoolSetup.{done, end_for_writer, entered, idle, initiator, jobs_limit, scheduler, writer}
pub use Rattle.mv_plan.specs.SpoolTasks.{ends_awaited, hand_over, initiating, job_named}
