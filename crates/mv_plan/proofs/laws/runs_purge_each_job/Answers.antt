-- The law is are_purged_once of results.CountsAlone.
use Rattle.mv_plan.proofs.deck.Planned.{planned}
use Rattle.mv_plan.proofs.results.CountsAlone.{are_purged_once}
use Rattle.mv_plan.proofs.laws.runs_purge_each_job.Goals as goal

pub returns : goal.returns
returns c = λ deck initiators es some sound run. are_purged_once deck initiators some (planned deck initiators sound) es run
