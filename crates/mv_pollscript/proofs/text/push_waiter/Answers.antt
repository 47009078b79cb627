-- The number of the task, and that of its call.
use Rattle.std.proofs.Common.{ℕ, List, ◌++◌, append_assoc, ap, ◌∙◌}
use Rattle.std.specs.Prelude.{decimal}
use Rattle.mv_pollscript.specs.Text.{waiter_text}
use Rattle.mv_pollscript.specs.declared.sentences.TheConstants.{TASK, WAITS}
use Rattle.mv_pollscript.proofs.text.push_waiter.Goals as goal

pub returns : goal.returns
unfolding waiter_text
returns c =
    let at = c.args.at in
    c.in_ok-push_number-2.ensures
    ∙ ap (λ (xs : List ℕ). xs ++ (WAITS.now ++ decimal at.call)) (rw c.from.ensures at c.in_ok-push_number.ensures)
    ∙ append_assoc c.args.out.now.items (TASK.now ++ decimal at.task) (WAITS.now ++ decimal at.call)
