-- Tasks are gone through one by one.
use Rattle.std.proofs.Common.{◌≡◌, ℕ, suc, ◌+◌, ◌-◌, ◌<◌, ◌≤◌, List, [], ◌++◌, append_assoc, ap, sym, ◌∙◌, arith}
use Rattle.mv_machine.specs.declared.entry.Entry.{Entry}
use Rattle.mv_explain.specs.ByTask.{by_task_text, one_task_text}

-- behind the last
pub by_task_end : (es : List Entry) (from tasks : ℕ) → tasks ≤ from → by_task_text es from (tasks - from) ≡ []
by_task_end es from tasks above =
    let none : tasks - from ≡ 0 = omega arith in
    ap (λ (count : ℕ). by_task_text es from count) none

-- one, and the others
pub by_task_step : (es : List Entry) (from tasks : ℕ) → from < tasks
    → by_task_text es from (tasks - from) ≡ one_task_text es from ++ by_task_text es (from + 1) (tasks - (from + 1))
by_task_step es from tasks within =
    let more : tasks - from ≡ suc (tasks - (from + 1)) = omega arith in
    ap (λ (count : ℕ). by_task_text es from count) more

-- what was said of one task, and of the others, is said of all
pub by_task_more : (es : List Entry) (out mid new : List ℕ) (from tasks : ℕ) → from < tasks → mid ≡ out ++ one_task_text es from
    → new ≡ mid ++ by_task_text es (from + 1) (tasks - (from + 1)) → new ≡ out ++ by_task_text es from (tasks - from)
by_task_more es out mid new from tasks within one others =
    let rest : List ℕ = by_task_text es (from + 1) (tasks - (from + 1)) in
    others ∙ ap (λ (x : List ℕ). x ++ rest) one ∙ append_assoc out (one_task_text es from) rest
    ∙ ap (λ (x : List ℕ). out ++ x) (sym (by_task_step es from tasks within))
