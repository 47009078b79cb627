-- One more exit.
use Rattle.mv_plan.proofs.Words.{[], ◌∷◌, ap, ◌∙◌, end_for_scheduler}
use Rattle.mv_plan.proofs.code.{exits_more}
use Rattle.mv_plan.proofs.spool_setup.exits_of.Goals as goal

pub loop-job-preserved : goal.loop-job-preserved
loop-job-preserved c =
    let n = c.args.jobs in
    let job = c.loop-job.job in
    exits_more n job c.loop-job.exits.items c.push.new.self.items _ c.in_ok-push.ensures.items c.loop-job.invariant
    c.done.ensures (c.in_ok-from_slice.ensures.items ∙ ap (λ e. e ∷ c.end_for_writer.result ∷ []) c.end_for_scheduler.ensures
    ∙ ap (λ e. end_for_scheduler n job ∷ e ∷ []) c.end_for_writer.ensures)
