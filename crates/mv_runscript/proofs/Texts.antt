-- One more line, and the lines of one more task.
use Rattle.std.proofs.Common.{◌≡◌, ℕ, suc, ◌+◌, List, [], ◌∷◌, ◌++◌, length, sym, ap, ◌∙◌, arith, append_assoc}
use Rattle.std.proofs.lemmas.List.{append-nil}
use Rattle.mv_script.specs.declared.answer.Answer.{Answer}
use Rattle.mv_script.specs.AnswerText.{answer_line, task_lines, lines_from}

pub lines_more : (task call : ℕ) (answers : List Answer) (a : Answer)
    → task_lines task call (answers ++ a ∷ []) ≡ task_lines task call answers ++ answer_line task (call + length answers) a
lines_more task call [] a =
    append-nil (answer_line task call a) ∙ ap (λ n. answer_line task n a) (let e : call ≡ call + 0 = omega arith in e)
lines_more task call (b ∷ answers) a =
    ap (λ r. answer_line task call b ++ r) (lines_more task (call + 1) answers a)
    ∙ sym (append_assoc (answer_line task call b) (task_lines task (call + 1) answers) (answer_line task (call + 1 + length answers) a))
    ∙ ap (λ n. (answer_line task call b ++ task_lines task (call + 1) answers) ++ answer_line task n a)
    (let e : call + 1 + length answers ≡ call + suc (length answers) = omega arith in e)

pub tasks_more : (task : ℕ) (lists : List (List Answer)) (answers : List Answer)
    → lines_from task (lists ++ answers ∷ []) ≡ lines_from task lists ++ task_lines (task + length lists) 1 answers
tasks_more task [] answers =
    append-nil (task_lines task 1 answers) ∙ ap (λ n. task_lines n 1 answers) (let e : task ≡ task + 0 = omega arith in e)
tasks_more task (list ∷ lists) answers =
    ap (λ r. task_lines task 1 list ++ r) (tasks_more (task + 1) lists answers)
    ∙ sym (append_assoc (task_lines task 1 list) (lines_from (task + 1) lists) (task_lines (task + 1 + length lists) 1 answers))
    ∙ ap (λ n. (task_lines task 1 list ++ lines_from (task + 1) lists) ++ task_lines n 1 answers)
    (let e : task + 1 + length lists ≡ task + suc (length lists) = omega arith in e)
