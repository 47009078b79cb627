use Rattle.std.proofs.Common.{◌≡◌}
use Rattle.mv_task.proofs.Ends.{job_served}
use Rattle.mv_task.proofs.ending.end_of_job.Goals as goal

pub returns : goal.returns
returns g c = record {
  served = job_served c.args.station.now.config c.args.requestor c.args.ecb c.args.code (λ a. a ≡ c.purge-purged.result)
      (λ a. a ≡ c.post.result) c.args.task.now c.purge-purged.new.task c.post.new.task c.purge-purged.ensures.served
      c.post.ensures.served;
}
