-- The events counted, and those of the jobs that are left.
use Rattle.std.proofs.Common.{◌≡◌, ◌+◌, drop, map}
use Rattle.mv_deck.specs.Deck.{job_data}
use Rattle.mv_deck.specs.Weight.{all_events}
use Rattle.mv_diagnostics.proofs.weights.all_events.Given as goal

abbrev pub invariant-loop-job : goal.invariant-loop-job
invariant-loop-job l = l.events + all_events (map job_data (drop l.job-index l.jobs)) ≡ all_events (map job_data l.jobs)
