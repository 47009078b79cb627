use Rattle.std.proofs.Common.{◌≡◌, ◌+◌, drop, map, sum_by}
use Rattle.mv_deck.specs.Deck.{job_data}
use Rattle.mv_work.specs.Initiating.{job_marks}
use Rattle.mv_work.proofs.initiator.marks_of_jobs.Given as goal

abbrev pub invariant-loop-k : goal.invariant-loop-k
invariant-loop-k l = l.marks + sum_by job_marks (drop l.k (map job_data l.jobs)) ≡ sum_by job_marks (map job_data l.jobs)
