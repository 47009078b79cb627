-- The picks of a merge, by how many entries of each log are merged.
use Rattle.std.proofs.Common.{◌≡◌, ℕ, zero, suc, ◌+◌, ◌<◌, ◌≤◌, ◌≢◌, List, [], ◌∷◌, ◌++◌, length, get_or, set, take, drop, replicate}
use Rattle.std.proofs.Common.{slice_get, Some, None, sym, refl, ap, ◌∙◌, arith, eq-eqb, ne_eqb, append_assoc}
use Rattle.std.proofs.lemmas.List.{take_more, drop_more, drop_all, set_split}
use mathlib.Core.Logic.{dite}
use native.Mathlib.Decide.{ℕ_discrete}
use Rattle.mv_machine.specs.declared.entry.Entry.{Entry}
use Rattle.mv_machine.specs.Merge.{Places, Pick, risen, behind, pick, followed, merge_from, entry_count}
use Rattle.mv_machine.specs.Room.{lefts}

-- ---- what is left of the logs
pub lefts_length : (ms : List ℕ) (logs : List (List Entry)) → length ms ≡ length logs → length (lefts ms logs) ≡ length logs
lefts_length [] [] e = refl
lefts_length [] (l ∷ ls) e = absurd (omega arith)
lefts_length (m ∷ ms) [] e = absurd (omega arith)
lefts_length (m ∷ ms) (l ∷ ls) e = ap suc (lefts_length ms ls (omega arith))

pub lefts_at : (ms : List ℕ) (logs : List (List Entry)) (k : ℕ) → length ms ≡ length logs → k < length logs
    → get_or (lefts ms logs) k [] ≡ drop (get_or ms k 0) (get_or logs k [])
lefts_at [] [] k e l = absurd (omega arith)
lefts_at [] (x ∷ xs) k e l = absurd (omega arith)
lefts_at (m ∷ ms) [] k e l = absurd (omega arith)
lefts_at (m ∷ ms) (x ∷ xs) zero e l = refl
lefts_at (m ∷ ms) (x ∷ xs) (suc k) e l = lefts_at ms xs k (omega arith) (omega arith)

pub lefts_set : (ms : List ℕ) (logs : List (List Entry)) (k n : ℕ) → length ms ≡ length logs → k < length logs
    → lefts (set ms k n) logs ≡ set (lefts ms logs) k (drop n (get_or logs k []))
lefts_set [] [] k n e l = absurd (omega arith)
lefts_set [] (x ∷ xs) k n e l = absurd (omega arith)
lefts_set (m ∷ ms) [] k n e l = absurd (omega arith)
lefts_set (m ∷ ms) (x ∷ xs) zero n e l = refl
lefts_set (m ∷ ms) (x ∷ xs) (suc k) n e l = ap (λ y. drop m x ∷ y) (lefts_set ms xs k n (omega arith) (omega arith))

pub lefts_zero : (logs : List (List Entry)) → lefts (replicate (length logs) 0) logs ≡ logs
lefts_zero [] = refl
lefts_zero (l ∷ ls) = ap (λ y. l ∷ y) (lefts_zero ls)

-- a log that is merged to its end, and one that is not
left_none : (log : List Entry) (n : ℕ) → slice_get log n ≡ None → drop n log ≡ []
left_none [] zero e = refl
left_none [] (suc n) e = refl
left_none (x ∷ xs) zero e = cc
left_none (x ∷ xs) (suc n) e = left_none xs n e

left_some : (log : List Entry) (n : ℕ) (e : Entry) → slice_get log n ≡ Some e → drop n log ≡ e ∷ drop (n + 1) log
left_some log n e q = at_once log n e q ∙ ap (λ j. e ∷ drop j log) (let next : suc n ≡ n + 1 = omega arith in next)
  where
    at_once : (log : List Entry) (n : ℕ) (e : Entry) → slice_get log n ≡ Some e → drop n log ≡ e ∷ drop (suc n) log
    at_once [] n e q = cc
    at_once (x ∷ xs) zero e q = let same : x ≡ e = cc in ap (λ y. y ∷ xs) same
    at_once (x ∷ xs) (suc n) e q = at_once xs n e q

-- ---- logs that were passed over stay before what is picked behind them
abbrev pub passed : List (List Entry) → Pick → Pick
passed [] r = r
passed (l ∷ ls) r = behind l (passed ls r)

passed_snoc : (ls : List (List Entry)) (l : List Entry) (r : Pick) → passed (ls ++ l ∷ []) r ≡ passed ls (behind l r)
passed_snoc [] l r = refl
passed_snoc (y ∷ ys) l r = ap (behind y) (passed_snoc ys l r)

passed_none : (ls : List (List Entry)) → passed ls None ≡ None
passed_none [] = refl
passed_none (y ∷ ys) = ap (behind y) (passed_none ys)

passed_some : (ls : List (List Entry)) (e : Entry) (rest : List (List Entry)) → passed ls (Some (e, rest)) ≡ Some (e, ls ++ rest)
passed_some [] e rest = refl
passed_some (y ∷ ys) e rest = ap (behind y) (passed_some ys e rest)

-- no log before k is ready
abbrev pub NoneBefore : Places → List ℕ → List (List Entry) → ℕ → Type 0
NoneBefore p ms logs k = passed (take k (lefts ms logs)) (pick p (drop k (lefts ms logs))) ≡ pick p (lefts ms logs)

-- one more log is passed over
pass : (p : Places) (ls : List (List Entry)) (k : ℕ) → k < length ls
    → pick p (drop k ls) ≡ behind (get_or ls k []) (pick p (drop (k + 1) ls))
    → passed (take k ls) (pick p (drop k ls)) ≡ pick p ls → passed (take (k + 1) ls) (pick p (drop (k + 1) ls)) ≡ pick p ls
pass p ls k l e h =
    ap (λ y. passed y (pick p (drop (k + 1) ls))) (take_more ls k [] l)
    ∙ passed_snoc (take k ls) (get_or ls k []) (pick p (drop (k + 1) ls))
    ∙ ap (passed (take k ls)) (sym e)
    ∙ h

-- the pick from log k on, where this is what is left of it
from_here : (p : Places) (ls : List (List Entry)) (k : ℕ) (left : List Entry) → k < length ls → get_or ls k [] ≡ left
    → pick p (drop k ls) ≡ pick p (left ∷ drop (k + 1) ls)
from_here p ls k left l e = ap (pick p) (drop_more ls k [] l) ∙ ap (λ y. pick p (y ∷ drop (k + 1) ls)) e

-- log k is not ready: it is merged to its end, or its next entry has another place
pub past_end : (p : Places) (ms : List ℕ) (logs : List (List Entry)) (k : ℕ) → length ms ≡ length logs → k < length logs
    → slice_get (get_or logs k []) (get_or ms k 0) ≡ None → NoneBefore p ms logs k → NoneBefore p ms logs (k + 1)
past_end p ms logs k same inside none h =
    let n = lefts_length ms logs same in
    let l : k < length (lefts ms logs) = omega arith in
    let empty : get_or (lefts ms logs) k [] ≡ [] = lefts_at ms logs k same inside ∙ left_none (get_or logs k []) (get_or ms k 0) none in
    let rest = drop (k + 1) (lefts ms logs) in
    pass p (lefts ms logs) k l (from_here p (lefts ms logs) k [] l empty ∙ ap (λ y. behind y (pick p rest)) (sym empty)) h

pub past_other : (p : Places) (ms : List ℕ) (logs : List (List Entry)) (k : ℕ) (e : Entry) → length ms ≡ length logs → k < length logs
    → slice_get (get_or logs k []) (get_or ms k 0) ≡ Some e → e.place ≢ p e.object → NoneBefore p ms logs k → NoneBefore p ms logs (k + 1)
past_other p ms logs k e same inside some other h =
    let n = lefts_length ms logs same in
    let l : k < length (lefts ms logs) = omega arith in
    let later = drop (get_or ms k 0 + 1) (get_or logs k []) in
    let left : get_or (lefts ms logs) k [] ≡ e ∷ later =
    lefts_at ms logs k same inside ∙ left_some (get_or logs k []) (get_or ms k 0) e some in
    let rest = drop (k + 1) (lefts ms logs) in
    let stays : pick p ((e ∷ later) ∷ rest) ≡ behind (e ∷ later) (pick p rest) = rw (ne_eqb e.place (p e.object) other) in
    pass p (lefts ms logs) k l (from_here p (lefts ms logs) k (e ∷ later) l left ∙ stays ∙ ap (λ y. behind y (pick p rest)) (sym left)) h

-- the last log was passed over
pub at_end : (p : Places) (ms : List ℕ) (logs : List (List Entry)) (k : ℕ) → length ms ≡ length logs → length logs ≤ k
    → NoneBefore p ms logs k
    → pick p (lefts ms logs) ≡ None
at_end p ms logs k same e h =
    let n = lefts_length ms logs same in
    let over : drop k (lefts ms logs) ≡ [] = drop_all k (lefts ms logs) (omega arith) in
    sym h ∙ ap (λ y. passed (take k (lefts ms logs)) (pick p y)) over ∙ passed_none (take k (lefts ms logs))

-- log k is ready
pub picks_here : (p : Places) (ms : List ℕ) (logs : List (List Entry)) (k : ℕ) (e : Entry) → length ms ≡ length logs → k < length logs
    → slice_get (get_or logs k []) (get_or ms k 0) ≡ Some e → e.place ≡ p e.object → NoneBefore p ms logs k
    → pick p (lefts ms logs) ≡ Some (e, lefts (set ms k (get_or ms k 0 + 1)) logs)
picks_here p ms logs k e same inside some place h =
    let ls = lefts ms logs in
    let n = lefts_length ms logs same in
    let l : k < length ls = omega arith in
    let later = drop (get_or ms k 0 + 1) (get_or logs k []) in
    let left : get_or ls k [] ≡ e ∷ later = lefts_at ms logs k same inside ∙ left_some (get_or logs k []) (get_or ms k 0) e some in
    let rest = drop (k + 1) ls in
    let gives : pick p ((e ∷ later) ∷ rest) ≡ Some (e, later ∷ rest) = rw (eq-eqb e.place (p e.object) place) in
    let next : k + 1 ≡ suc k = omega arith in
    let cut : take k ls ++ later ∷ rest ≡ set ls k later = ap (λ j. take k ls ++ later ∷ drop j ls) next ∙ sym (set_split ls k later l) in
    sym h
    ∙ ap (passed (take k ls)) (from_here p ls k (e ∷ later) l left ∙ gives)
    ∙ passed_some (take k ls) e (later ∷ rest)
    ∙ ap (λ (y : List (List Entry)). Some (e, y)) (cut ∙ sym (lefts_set ms logs k (get_or ms k 0 + 1) same inside))

-- ---- a pick takes one entry
behind_some : (l : List Entry) (r : Pick) (e : Entry) (rest : List (List Entry)) → behind l r ≡ Some (e, rest)
    → (others : List (List Entry)) × (r ≡ Some (e, others)) × (rest ≡ l ∷ others)
behind_some l None e rest h = cc
behind_some l (Some t) e rest h =
    let both : ◌≡◌ {A = Entry × List (List Entry)} (t.0, l ∷ t.1) (e, rest) = cc in
    let first : t.0 ≡ e = ap (λ (z : Entry × List (List Entry)). z.0) both in
    (t.1, ap (λ (x : Entry). Some (x, t.1)) first, ap (λ (z : Entry × List (List Entry)). z.1) (sym both))

pub pick_takes : (p : Places) (ls : List (List Entry)) (e : Entry) (rest : List (List Entry)) → pick p ls ≡ Some (e, rest)
    → entry_count ls ≡ suc (entry_count rest)
pick_takes p [] e rest h = cc
pick_takes p ([] ∷ ls) e rest h =
    let t = behind_some [] (pick p ls) e rest h in
    let fewer = pick_takes p ls e t.0 t.1 in
    let is = ap entry_count t.2 in
    omega arith
pick_takes p ((x ∷ xs) ∷ ls) e rest h = dite (ℕ_discrete x.place (p x.object))
    (λ m. let some : Some (x, xs ∷ ls) ≡ Some (e, rest) = (rw (eq-eqb x.place (p x.object) m) at h) in
    let both : ◌≡◌ {A = Entry × List (List Entry)} (x, xs ∷ ls) (e, rest) = cc in
    let is : entry_count (xs ∷ ls) ≡ entry_count rest = ap (λ (z : Entry × List (List Entry)). entry_count z.1) both in
    omega arith)
    (λ m. let t = behind_some (x ∷ xs) (pick p ls) e rest (rw (ne_eqb x.place (p x.object) m) at h) in
    let fewer = pick_takes p ls e t.0 t.1 in
    let is = ap entry_count t.2 in
    omega arith)

-- so the merge of the logs is that entry before the merge of what it leaves
pub gives_one : (p : Places) (ls : List (List Entry)) (e : Entry) (rest : List (List Entry)) → pick p ls ≡ Some (e, rest)
    → merge_from (entry_count ls) p ls ≡ e ∷ merge_from (entry_count rest) (risen p e.object) rest
gives_one p ls e rest h =
    ap (λ n. merge_from n p ls) (pick_takes p ls e rest h)
    ∙ ap (followed (λ x others. merge_from (entry_count rest) (risen p x.object) others)) h

pub gives_none : (n : ℕ) (p : Places) (ls : List (List Entry)) → pick p ls ≡ None → merge_from n p ls ≡ []
gives_none zero p ls e = refl
gives_none (suc n) p ls e = ap (followed (λ x others. merge_from n (risen p x.object) others)) e

-- one pick: what is merged and what is left stay the whole
pub pick_taken : (p q : Places) (ls rest : List (List Entry)) (e : Entry) (journal all : List Entry) → pick p ls ≡ Some (e, rest)
    → q ≡ risen p e.object → journal ++ merge_from (entry_count ls) p ls ≡ all
    → (journal ++ e ∷ []) ++ merge_from (entry_count rest) q rest ≡ all
pick_taken p q ls rest e journal all picks rises h =
    append_assoc journal (e ∷ []) (merge_from (entry_count rest) q rest)
    ∙ ap (λ z. journal ++ e ∷ merge_from (entry_count rest) z rest) rises
    ∙ ap (λ z. journal ++ z) (sym (gives_one p ls e rest picks))
    ∙ h
