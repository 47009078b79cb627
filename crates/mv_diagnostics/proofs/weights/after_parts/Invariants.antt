-- The parts counted, and those of the jobs that are left.
use Rattle.std.proofs.Common.{◌≡◌, ◌+◌, drop, map}
use Rattle.mv_deck.specs.Deck.{job_data}
use Rattle.mv_deck.specs.Weight.{after_parts}
use Rattle.mv_diagnostics.proofs.weights.after_parts.Given as goal

abbrev pub invariant-loop-job : goal.invariant-loop-job
invariant-loop-job l = l.parts + after_parts (map job_data (drop l.job-index l.jobs)) ≡ after_parts (map job_data l.jobs)
