-- The tasks before this one, and this one.
use Rattle.std.proofs.Common.{◌≡◌, ℕ, false, below_more, sym, ◌∙◌}
use Rattle.mv_machine.specs.State.{system_of}
use Rattle.mv_pollscript.specs.Standing.{can_go_on, standing_in}
use Rattle.mv_pollscript.proofs.quiescence.is_quiescent.Goals as goal

pub loop-task-preserved : goal.loop-task-preserved
loop-task-preserved c =
    let run = c.args.run.now in
    below_more (λ (k : ℕ). can_go_on (standing_in (system_of run.state) c.args.script.now.tasks.items run.answers.items k) ≡ false)
    c.loop-task.task c.loop-task.invariant (sym c.can_go_on.ensures ∙ c.if-can_go_on.false)
