use Rattle.std.proofs.Common.{◌≡◌, ◌++◌, take, drop}
use Rattle.mv_report.specs.Outcome.{before_end}
use Rattle.mv_report.proofs.outcome.steps_with.Given as goal

-- all steps so far are done
abbrev pub invariant-loop-count : goal.invariant-loop-count
invariant-loop-count l = take l.count l.steps ++ before_end (drop l.count l.steps) ≡ before_end l.steps
