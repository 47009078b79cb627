-- The parts counted, and those of the jobs that are left.
use Rattle.mv_plan.proofs.Words.{◌≡◌, ◌+◌, map, job_data}
use Rattle.std.proofs.Common.{drop}
use Rattle.mv_deck.specs.Weight.{after_parts}
use Rattle.mv_plan.proofs.spool_setup.after_parts.Given as goal

abbrev pub invariant-loop-job : goal.invariant-loop-job
invariant-loop-job l = l.parts + after_parts (map job_data (drop l.job-index l.jobs)) ≡ after_parts (map job_data l.jobs)
