-- One text of answers means one list of them.
use Rattle.std.proofs.Common.{◌≡◌, ℕ, zero, suc, ◌+◌, ◌<◌, ◌≤◌, ◌^◌, List, [], ◌∷◌, ◌++◌, length, get_or, decimal, refl, sym, ap, ◌∙◌}
use Rattle.std.proofs.Common.{arith, append_assoc}
use Rattle.std.specs.Prelude.{All}
use Rattle.std.proofs.lemmas.List.{ext_get_or}
use Rattle.std.proofs.lemmas.List.Elements.{All-nil, All-head, All-tail}
use Rattle.std.proofs.lemmas.Option.{some_pair_parts}
use Rattle.mv_script.specs.declared.answer.Answer.{Answer}
use Rattle.mv_script.specs.AnswerText.{answer_text, answer_line, task_lines, lines_from, answers_text, IsNumber, IsInRange, AreInRange}
use Rattle.mv_script.proofs.AnswersBack.{read, again}
use Rattle.mv_script.proofs.NumbersBack.{same_number, some_digit}

-- a line, and what stands behind it
line_shown : (task call : ℕ) (a : Answer) (rest : List ℕ)
    → answer_line task call a ++ rest ≡ decimal task ++ 32 ∷ (decimal call ++ 32 ∷ (answer_text a ++ 10 ∷ rest))
line_shown task call a rest = simp append_assoc

-- one line means one task, one call and one answer, and the same behind it
same_line : (t u i j : ℕ) (a b : Answer) (r s : List ℕ) → IsNumber t → IsNumber u → IsNumber i → IsNumber j → IsInRange a → IsInRange b
    → answer_line t i a ++ r ≡ answer_line u j b ++ s → (t ≡ u) × (a ≡ b) × (r ≡ s)
same_line t u i j a b r s lt lu li lj ha hb e =
    let tasks = same_number t u (decimal i ++ 32 ∷ (answer_text a ++ 10 ∷ r)) (decimal j ++ 32 ∷ (answer_text b ++ 10 ∷ s)) lt lu
    (sym (line_shown t i a r) ∙ e ∙ line_shown u j b s) in
    let calls = same_number i j (answer_text a ++ 10 ∷ r) (answer_text b ++ 10 ∷ s) li lj tasks.1 in
    let both = some_pair_parts a b r s (sym (again a r ha) ∙ ap read calls.1 ∙ again b s hb) in
    (tasks.0, both.0, both.1)

-- ---- the lines of one task, from a call on

-- no line of this task stands in front of the text
abbrev IsOfOthers : ℕ → List ℕ → Type 0
IsOfOthers task text =
    (call : ℕ) (a : Answer) (rest : List ℕ) → IsNumber task → IsNumber call → IsInRange a → text ≡ answer_line task call a ++ rest → ⊥

task_back : (task call : ℕ) (xs ys : List Answer) (r s : List ℕ) → (0 < length xs → IsNumber task) → (0 < length ys → IsNumber task)
    → call + length xs ≤ 2 ^ 64 → call + length ys ≤ 2 ^ 64 → All IsInRange xs → All IsInRange ys
    → IsOfOthers task r → IsOfOthers task s → task_lines task call xs ++ r ≡ task_lines task call ys ++ s → (xs ≡ ys) × (r ≡ s)
task_back task call [] [] r s ta tb la lb ha hb or os e = (refl, e)
task_back task call [] (b ∷ ys) r s ta tb la lb ha hb or os e =
    absurd (or call b (task_lines task (call + 1) ys ++ s) (tb (omega arith)) (omega arith) (All-head IsInRange b ys hb)
    (e ∙ append_assoc (answer_line task call b) (task_lines task (call + 1) ys) s))
task_back task call (a ∷ xs) [] r s ta tb la lb ha hb or os e =
    absurd (os call a (task_lines task (call + 1) xs ++ r) (ta (omega arith)) (omega arith) (All-head IsInRange a xs ha)
    (sym e ∙ append_assoc (answer_line task call a) (task_lines task (call + 1) xs) r))
task_back task call (a ∷ xs) (b ∷ ys) r s ta tb la lb ha hb or os e =
    let lt : IsNumber task = ta (omega arith) in
    let one = same_line task task call call a b (task_lines task (call + 1) xs ++ r) (task_lines task (call + 1) ys ++ s) lt lt
    (omega arith) (omega arith) (All-head IsInRange a xs ha) (All-head IsInRange b ys hb)
    (sym (append_assoc (answer_line task call a) (task_lines task (call + 1) xs) r) ∙ e
    ∙ append_assoc (answer_line task call b) (task_lines task (call + 1) ys) s) in
    let more = task_back task (call + 1) xs ys r s (λ some. lt) (λ some. lt) (omega arith) (omega arith)
    (All-tail IsInRange a xs ha) (All-tail IsInRange b ys hb) or os one.2 in
    (ap (λ (x : Answer). x ∷ xs) one.1 ∙ ap (λ (zs : List Answer). b ∷ zs) more.0, more.1)

-- ---- the lines of all tasks, from this one on

-- the tasks from this number on and the calls of each are counted, and so are the numbers of their answers
record Fits (task : ℕ) (lists : List (List Answer)) : Type 0 where
  counted : 0 < length lists → task + length lists ≤ 2 ^ 64
  calls : All (λ (answers : List Answer). IsNumber (length answers)) lists
  answers : All (λ (answers : List Answer). All IsInRange answers) lists

-- the list of the first task, and those of the others
abbrev first : List (List Answer) → List Answer
first [] = []
first (list ∷ lists) = list

abbrev others : List (List Answer) → List (List Answer)
others [] = []
others (list ∷ lists) = lists

by_first : (task : ℕ) (lists : List (List Answer))
    → lines_from task lists ≡ task_lines task 1 (first lists) ++ lines_from (task + 1) (others lists)
by_first task [] = refl
by_first task (list ∷ lists) = refl

first_number : (task : ℕ) (lists : List (List Answer)) → Fits task lists → 0 < length (first lists) → IsNumber task
first_number task [] fits some = absurd (omega arith)
first_number task (list ∷ lists) fits some = let n = fits.counted (omega arith) in omega arith

first_calls : (task : ℕ) (lists : List (List Answer)) → Fits task lists → 1 + length (first lists) ≤ 2 ^ 64
first_calls task [] fits = omega arith
first_calls task (list ∷ lists) fits =
    let n = All-head (λ (answers : List Answer). IsNumber (length answers)) list lists fits.calls in
    omega (arith, n)

first_answers : (task : ℕ) (lists : List (List Answer)) → Fits task lists → All IsInRange (first lists)
first_answers task [] fits = All-nil IsInRange
first_answers task (list ∷ lists) fits = All-head (λ (answers : List Answer). All IsInRange answers) list lists fits.answers

others_fit : (task : ℕ) (lists : List (List Answer)) → Fits task lists → Fits (task + 1) (others lists)
others_fit task [] fits = record { counted = λ some. absurd (omega arith); calls = fits.calls; answers = fits.answers }
others_fit task (list ∷ lists) fits = record {
  counted = λ some. (let n = fits.counted (omega arith) in omega arith);
  calls = All-tail (λ (answers : List Answer). IsNumber (length answers)) list lists fits.calls;
  answers = All-tail (λ (answers : List Answer). All IsInRange answers) list lists fits.answers;
}

-- the lines of later tasks are of none before them
later_lines : (task u : ℕ) (lists : List (List Answer)) → Fits u lists → task < u → IsOfOthers task (lines_from u lists)
later_lines task u [] fits lt call a rest lk lc ha e =
    some_digit task (32 ∷ (decimal call ++ 32 ∷ (answer_text a ++ 10 ∷ rest))) lk (sym (e ∙ line_shown task call a rest))
later_lines task u ([] ∷ lists) fits lt call a rest lk lc ha e =
    later_lines task (u + 1) lists (others_fit u ([] ∷ lists) fits) (omega arith) call a rest lk lc ha e
later_lines task u ((b ∷ bs) ∷ lists) fits lt call a rest lk lc ha e =
    let n = fits.counted (omega arith) in
    let one = same_line u task 1 call b a (task_lines u 2 bs ++ lines_from (u + 1) lists) rest (omega arith) lk (omega arith) lc
    (All-head IsInRange b bs (first_answers u ((b ∷ bs) ∷ lists) fits)) ha
    (sym (append_assoc (answer_line u 1 b) (task_lines u 2 bs) (lines_from (u + 1) lists)) ∙ e) in
    omega (arith, one.0)

first_at : (lists : List (List Answer)) → get_or lists zero [] ≡ first lists
first_at [] = refl
first_at (list ∷ lists) = refl

others_at : (k : ℕ) (lists : List (List Answer)) → get_or lists (suc k) [] ≡ get_or (others lists) k []
others_at k [] = refl
others_at k (list ∷ lists) = refl

-- the first list is the same, and so are the texts of the others
firsts_back : (task : ℕ) (xs ys : List (List Answer)) → Fits task xs → Fits task ys → lines_from task xs ≡ lines_from task ys
    → (first xs ≡ first ys) × (lines_from (task + 1) (others xs) ≡ lines_from (task + 1) (others ys))
firsts_back task xs ys fx fy e =
    task_back task 1 (first xs) (first ys) (lines_from (task + 1) (others xs)) (lines_from (task + 1) (others ys))
    (first_number task xs fx) (first_number task ys fy) (first_calls task xs fx) (first_calls task ys fy)
    (first_answers task xs fx) (first_answers task ys fy)
    (later_lines task (task + 1) (others xs) (others_fit task xs fx) (omega arith))
    (later_lines task (task + 1) (others ys) (others_fit task ys fy) (omega arith))
    (sym (by_first task xs) ∙ e ∙ by_first task ys)

tasks_back : (k task : ℕ) (xs ys : List (List Answer)) → Fits task xs → Fits task ys → lines_from task xs ≡ lines_from task ys
    → get_or xs k [] ≡ get_or ys k []
tasks_back zero task xs ys fx fy e = first_at xs ∙ (firsts_back task xs ys fx fy e).0 ∙ sym (first_at ys)
tasks_back (suc k) task xs ys fx fy e =
    others_at k xs
    ∙ tasks_back k (task + 1) (others xs) (others ys) (others_fit task xs fx) (others_fit task ys fy) (firsts_back task xs ys fx fy e).1
    ∙ sym (others_at k ys)

all_fit : (lists : List (List Answer)) → AreInRange lists → Fits 0 lists
all_fit lists h = record { counted = λ some. omega (arith, h.tasks_counted); calls = h.calls_counted; answers = h.answers }

-- ---- the law

pub each_list_back : (xs ys : List (List Answer)) → AreInRange xs → AreInRange ys → answers_text xs ≡ answers_text ys
    → (k : ℕ) → get_or xs k [] ≡ get_or ys k []
each_list_back xs ys hx hy e k = tasks_back k 0 xs ys (all_fit xs hx) (all_fit ys hy) e

pub lists_back : (xs ys : List (List Answer)) → AreInRange xs → AreInRange ys → length xs ≡ length ys
    → answers_text xs ≡ answers_text ys → xs ≡ ys
lists_back xs ys hx hy n e = ext_get_or [] xs ys n (λ k lt. each_list_back xs ys hx hy e k)
