use Rattle.std.proofs.Common.{arith}
use Rattle.mv_deck.specs.Load.{load_text}
use Rattle.mv_deck.proofs.Sounds.{sound}
use Rattle.mv_deck.proofs.LoadJobs.{count_of_jobs, load_is_light}
use Rattle.mv_deck.proofs.LoadBytes.{load_bytes}
use Rattle.mv_deck.proofs.Loads.{no_fault, stated_jobs}
use Rattle.mv_deck.proofs.laws.loads_can_be_run.Goals as goal

pub returns-clause-jobs : goal.returns-clause-jobs
returns-clause-jobs c = stated_jobs

pub returns-clause-count : goal.returns-clause-count
returns-clause-count c = count_of_jobs

pub returns-clause-fault : goal.returns-clause-fault
returns-clause-fault c = no_fault

pub returns-clause-sound : goal.returns-clause-sound
returns-clause-sound c = λ n initiators some few le. sound (load_text n) initiators (no_fault n initiators some few le)

pub returns-clause-weight : goal.returns-clause-weight
returns-clause-weight c = λ n initiators few le. omega (arith, load_is_light initiators n le (omega arith))

pub returns-clause-bytes : goal.returns-clause-bytes
returns-clause-bytes c = load_bytes
