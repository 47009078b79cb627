-- The tasks that came back, and the answers that the server found.
use Rattle.std.proofs.Common.{◌≡◌, ℕ, zero, suc, ◌+◌, ◌-◌, ◌<◌, ◌≤◌, List, [], ◌∷◌, ◌++◌, Vec, Global, length, map, get_or, ◌⊎◌, inl, inr}
use Rattle.std.proofs.Common.{refl, sym, ap, ◌∙◌, subst, arith}
use Rattle.std.proofs.lemmas.List.{get_or-map, length-map, same_lists}
use Rattle.std.proofs.Math.ListN.{get_or-append}
use Rattle.std.proofs.Math.Nat.{eq-or-lt_of_le}
use Rattle.std.proofs.Math.Seq.{get_or-append_seam}
use Rattle.std.specs.List.{AllByRecursion}
use Rattle.mv_attach.proofs.Back.{log_in, last_room, no_task}
use Rattle.mv_wait.specs.Prelude.{BoardFace, CallerFace, AreInOrder, IsIn, Entry, Legal, of, Setup}
use Rattle.mv_attach.specs.Entries.{Finds}
use Rattle.mv_server.specs.Pool.{workers, pool_setup, days_in, answer_at}
use Rattle.mv_server.specs.Right.{AreRight, HasDone, IsWorkersPost}
use Rattle.mv_server.proofs.Answers.{found_is_answer}

-- what stands in a list does not go by the default
get_or_any : (xs : List ℕ) (i a b : ℕ) → i < length xs → get_or xs i a ≡ get_or xs i b
get_or_any [] i a b lt = absurd (omega arith)
get_or_any (x ∷ xs) zero a b lt = refl
get_or_any (x ∷ xs) (suc i) a b lt = get_or_any xs i a b (omega arith)

-- so what the server found are the answers, and workers posted them
pub answers_are : (c : Setup) (requests answers : List ℕ) (es : List Entry) (log : List Entry) → c ≡ pool_setup (length requests)
    → Legal c es → ((j : ℕ) → j < workers + 1 → AreRight requests j (of j es)) → of workers es ≡ log → length answers ≡ length requests
    → ((r : ℕ) → r < length requests → Finds log (workers + r) (get_or answers r 0))
    → (answers ≡ map days_in requests) × ((r : ℕ) → r < length requests → IsWorkersPost es (workers + r) (get_or answers r 0))
answers_are c requests answers es log is legal each own count finds = (
  same_lists answers (map days_in requests) (count ∙ sym (length-map requests days_in)) (λ r d lt. one r d lt),
  λ r low. (found r low).1,
) where
  found : (r : ℕ) → r < length requests
      → (get_or answers r 0 ≡ answer_at requests (workers + r)) × IsWorkersPost es (workers + r) (get_or answers r 0)
  found r low =
      found_is_answer requests c es workers (workers + r) (get_or answers r 0) legal
      (λ j lt. each j (subst (λ (s : Setup). j < s.callers) is lt))
      (subst (λ xs. Finds xs (workers + r) (get_or answers r 0)) (sym own) (finds r low)) (omega arith)

  one : (r : ℕ) (d : ℕ) → r < length answers → get_or answers r d ≡ get_or (map days_in requests) r d
  one r d lt =
      let low : r < length requests = omega arith in
      get_or_any answers r d 0 lt ∙ (found r low).0
      ∙ ap (λ k. days_in (get_or requests k 0)) (let e : workers + r - workers ≡ r = omega arith in e)
      ∙ sym (get_or-map days_in requests r 0 d low)

-- so it is where the tasks came back with their rooms, and the last room is the server's
pub closed_answers : (b : BoardFace) (requests : List ℕ) (es : List Entry) (tasks : List CallerFace) (rooms rest : List (Vec ℕ Global))
    (answers : Vec ℕ Global) → b.config ≡ pool_setup (length requests) → Legal b.config es → AreInOrder b 0 tasks
    → length tasks ≡ workers + 1 → AllByRecursion (IsIn b.config es) tasks → rooms ≡ rest ++ answers ∷ [] → length rooms ≡ workers + 1
    → ((k : ℕ) (s : Vec ℕ Global) (t : CallerFace) → k < workers + 1 → HasDone b requests k (get_or tasks k t) (get_or rooms k s).items)
    → (answers.items ≡ map days_in requests)
    × ((r : ℕ) → r < length requests → IsWorkersPost es (workers + r) (get_or answers.items r 0))
closed_answers b requests es tasks rooms rest answers config legal order all within is count done =
    let no = no_task b in
    let last : get_or rooms workers answers ≡ answers = last_room rooms rest answers workers is count in
    let server : HasDone b requests workers (get_or tasks workers no) answers.items =
    subst (λ (r : Vec ℕ Global). HasDone b requests workers (get_or tasks workers no) r.items) last
    (done workers answers no (omega arith)) in
    answers_are b.config requests answers.items es (get_or tasks workers no).log config legal
    (λ j lt.
    let back = (done j answers no lt).back in
    subst (AreRight requests j) (sym (log_in b b.config es j tasks no order within (omega arith)))
    (subst (λ k. AreRight requests k (get_or tasks j no).log) back.number back.ready.right))
    (log_in b b.config es workers tasks no order within (omega arith)) (server.count refl) (server.finds refl)

-- ---- one more answer

pub found_more : (log : List Entry) (answers more : List ℕ) (a n : ℕ) → length answers ≡ n → more ≡ answers ++ a ∷ []
    → ((r : ℕ) → r < n → Finds log (workers + r) (get_or answers r 0)) → Finds log (workers + n) a
    → (r : ℕ) → r < n + 1 → Finds log (workers + r) (get_or more r 0)
found_more log answers more a n size is finds last r lt = by_number (eq-or-lt_of_le (let le : r ≤ n = omega arith in le)) where
  by_number : (r ≡ n) ⊎ (r < n) → Finds log (workers + r) (get_or more r 0)
  by_number (inl same) =
      subst (λ k. Finds log (workers + k) (get_or more k 0)) (sym same)
      (subst (λ code. Finds log (workers + n) code)
      (sym (ap (λ xs. get_or xs n 0) is ∙ ap (λ k. get_or (answers ++ a ∷ []) k 0) (sym size) ∙ get_or-append_seam answers a [] 0)) last)
  by_number (inr low) =
      subst (λ code. Finds log (workers + r) code)
      (sym (ap (λ xs. get_or xs r 0) is ∙ get_or-append answers (a ∷ []) 0 r (let lt : r < length answers = omega arith in lt)))
      (finds r low)
