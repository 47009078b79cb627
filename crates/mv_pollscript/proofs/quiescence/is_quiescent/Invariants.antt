use Rattle.std.proofs.Common.{◌≡◌, ℕ, ◌<◌, false}
use Rattle.mv_machine.specs.State.{system_of}
use Rattle.mv_pollscript.specs.Standing.{can_go_on, standing_in}
use Rattle.mv_pollscript.proofs.quiescence.is_quiescent.Given as goal

abbrev pub invariant-loop-task : goal.invariant-loop-task
invariant-loop-task l =
    (k : ℕ) → k < l.task → can_go_on (standing_in (system_of l.run.state) l.script.tasks.items l.run.answers.items k) ≡ false
