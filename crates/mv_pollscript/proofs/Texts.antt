-- Tasks are gone through one by one.
use Rattle.std.proofs.Common.{◌≡◌, ℕ, suc, ◌+◌, ◌-◌, ◌<◌, ◌≤◌, List, [], ◌++◌, append_assoc, length, ap, sym, ◌∙◌, arith}
use Rattle.mv_config.specs.Setup.{Setup}
use Rattle.mv_machine.specs.System.{System}
use Rattle.mv_pollscript.specs.Text.{task_text, tasks_text}
use Rattle.mv_script.specs.declared.answer.Answer.{Answer}
use Rattle.mv_scriptline.specs.declared.call.Call.{Call}

-- behind the last
pub tasks_end : (c : Setup) (s : System) (lists : List (List Call)) (answers : List (List Answer)) (from : ℕ) → length lists ≤ from
    → tasks_text c s lists answers from (length lists - from) ≡ []
tasks_end c s lists answers from above =
    let none : length lists - from ≡ 0 = omega arith in ap (λ (count : ℕ). tasks_text c s lists answers from count) none

-- one, and the others
pub tasks_step : (c : Setup) (s : System) (lists : List (List Call)) (answers : List (List Answer)) (from : ℕ) → from < length lists
    → tasks_text c s lists answers from (length lists - from)
    ≡ task_text c s lists answers from ++ tasks_text c s lists answers (from + 1) (length lists - (from + 1))
tasks_step c s lists answers from within =
    let more : length lists - from ≡ suc (length lists - (from + 1)) = omega arith in
    ap (λ (count : ℕ). tasks_text c s lists answers from count) more

-- what was said of one task, and of the others, is said of all
pub tasks_more : (c : Setup) (s : System) (lists : List (List Call)) (answers : List (List Answer)) (out mid new : List ℕ) (from : ℕ)
    → from < length lists → mid ≡ out ++ task_text c s lists answers from
    → new ≡ mid ++ tasks_text c s lists answers (from + 1) (length lists - (from + 1))
    → new ≡ out ++ tasks_text c s lists answers from (length lists - from)
tasks_more c s lists answers out mid new from within one others =
    let rest : List ℕ = tasks_text c s lists answers (from + 1) (length lists - (from + 1)) in
    others ∙ ap (λ (x : List ℕ). x ++ rest) one ∙ append_assoc out (task_text c s lists answers from) rest
    ∙ ap (λ (x : List ℕ). out ++ x) (sym (tasks_step c s lists answers from within))
