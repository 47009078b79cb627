-- Lists of different numbers.
use Rattle.std.proofs.Common.{◌≡◌, ℕ, ◌<◌, ◌≤◌, ◌==◌, Bool, true, false, List, [], ◌∷◌, ◌++◌, length, refl, sym, subst}
use Rattle.std.specs.List.{AllByRecursion, IsDistinct, list_any}
use Rattle.std.proofs.lemmas.Bool.{eqb-true, false≢true, ne_eqb}
use Rattle.std.proofs.lemmas.Map.Steps.{length-le_from_distinct_below}
use Rattle.mv_machine.proofs.Lists.{all_map, all_push}
use Rattle.mv_calls.specs.Waits.{AreDistinct}

-- a number that differs from all of a list is not found in it
pub none_found : (js : List ℕ) (j : ℕ) → AllByRecursion (λ m. m ≡ j → ⊥) js → list_any (λ m. m == j) js ≡ false
none_found [] j w = refl
none_found (m ∷ js) j w = rw (ne_eqb m j w.0) (none_found js j w.1)

-- with one more that differs from all
pub distinct_pushed : (js : List ℕ) (j : ℕ) → AreDistinct js → AllByRecursion (λ m. m ≡ j → ⊥) js → AreDistinct (js ++ j ∷ [])
distinct_pushed [] j d n = (tt, tt)
distinct_pushed (m ∷ js) j d n = (all_push (λ x. x ≡ m → ⊥) js j d.0 (λ e. n.0 (sym e)), distinct_pushed js j d.1 n.1)

are_distinct : (js : List ℕ) → AreDistinct js → IsDistinct (λ a b. a == b) js
unfolding IsDistinct
are_distinct [] w = tt
are_distinct (j ∷ js) w = (all_map (λ m n. ne_eqb j m (λ e. n (sym e))) js w.0, are_distinct js w.1)

one_below : (n q : ℕ) (js : List ℕ) → AllByRecursion (λ j. j < n) js → list_any (λ j. q == j) js ≡ true → q < n
one_below n q [] w e = absurd (false≢true e)
one_below n q (j ∷ js) w e = go (q == j) refl (λ t. one_below n q js w.1 t) where
  go : (b : Bool) → (q == j) ≡ b → (list_any (λ j. q == j) js ≡ true → q < n) → q < n
  go true t rest = subst (λ k. k < n) (sym (eqb-true q j t)) w.0
  go false t rest = rest (rw t at e)

-- different numbers below n are at most n
pub few : (n : ℕ) (js : List ℕ) → AllByRecursion (λ j. j < n) js → AreDistinct js → length js ≤ n
few n js below d = length-le_from_distinct_below js n (are_distinct js d) (λ q e. one_below n q js below e)
