-- The parts of a history by its callers, and what holds of the history by its parts.
use Rattle.std.specs.Prelude.{◌≡◌, ℕ, zero, suc, ◌<◌, ◌≤◌, List, [], ◌∷◌, length, take, drop, slice_index, Some}
use Rattle.std.specs.List.{AllByRecursion}
use Rattle.mv_latch.specs.declared.operation.Wake.{Wake}
use Rattle.mv_machine.specs.declared.entry.Entry.{Entry}
use Rattle.mv_machine.specs.declared.entry.Object.{Object}
use Rattle.mv_machine.specs.declared.packing.WordState.{WordState}
use Rattle.mv_machine.specs.Legal.{Legal, after, of, «at»}
use Rattle.mv_machine.specs.Packing.{unpack, state_at}
use Rattle.mv_config.specs.Setup.{Setup}
use Rattle.mv_machine.specs.Told.{told}

-- the parts of n callers, from caller k on
abbrev pub parts_from : ℕ → ℕ → List Entry → List (List Entry)
parts_from k zero es = []
parts_from k (suc n) es = of k es ∷ parts_from (suc k) n es

-- the part of each of n callers, in the order of the callers
abbrev pub parts : ℕ → List Entry → List (List Entry)
parts n es = parts_from 0 n es

-- no caller has more entries than its budget
abbrev pub KeepsBudgets : Setup → List Entry → Type 0
KeepsBudgets c es = (k : ℕ) → k < c.callers → length (of k es) ≤ slice_index c.budgets k

-- a caller's log and the wakes that it was shown may be its part of a legal history within the budgets
pub record IsPossible (c : Setup) (k : ℕ) (log : List Entry) (shown : List (List Wake)) : Type 0 where
  pub history : List Entry
  pub legal : Legal c history
  pub budgets : KeepsBudgets c history
  pub logged : of k history ≡ log
  pub told : told c k history ≡ shown

-- each of these entries that is on the object has a place below p
abbrev pub IsBelow : Object → ℕ → List Entry → Type 0
IsBelow o p es = AllByRecursion (λ e. e.object ≡ o → e.place < p) es

-- each of these entries that is on the object has a place of at least p
abbrev pub IsFrom : Object → ℕ → List Entry → Type 0
IsFrom o p es = AllByRecursion (λ e. e.object ≡ o → p ≤ e.place) es

-- The object had this word at some moment of the history: after those of the caller's first n entries that are on the object,
-- and before those of its other entries that are on it.
pub record Had (c : Setup) (es : List Entry) (k n : ℕ) (o : Object) (w : ℕ) : Type 0 where
  pub place : ℕ
  pub state : WordState
  pub unpacks : unpack o w ≡ Some (place, state)
  pub reached : place ≤ length («at» o es)
  pub was : state_at (after c (take place («at» o es))) o ≡ Some state
  pub made : n ≤ length (of k es)
  pub behind : IsBelow o place (take n (of k es))
  pub ahead : IsFrom o place (drop n (of k es))
