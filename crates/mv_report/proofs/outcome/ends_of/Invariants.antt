use Rattle.std.proofs.Common.{◌≡◌, map, drop}
use Rattle.mv_deck.specs.Deck.{job_data}
use Rattle.mv_report.specs.Outcome.{ends_from, ends}
use Rattle.mv_report.proofs.outcome.ends_of.Given as goal

-- the ends so far, and those of the jobs that are left
abbrev pub invariant-loop-job : goal.invariant-loop-job
invariant-loop-job l =
    ends_from l.codes.items (map job_data (drop l.job-index l.job-items)) ≡ ends (map job_data l.job-items)
