-- The exits of the jobs so far.
use Rattle.mv_plan.proofs.Words.{◌≡◌, map, range_with_len, exit_of, end_exit}
use Rattle.mv_plan.proofs.spool_setup.exits_of.Given as goal

abbrev pub invariant-loop-job : goal.invariant-loop-job
invariant-loop-job l = map exit_of l.exits.items ≡ map (end_exit l.jobs) (range_with_len 0 l.job)
