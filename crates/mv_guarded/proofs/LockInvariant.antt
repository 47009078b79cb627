-- An invariant of a history that a task may break while it holds a latch, and restores before another task holds it. For programs whose
-- sections write several volumes.
use Rattle.std.proofs.Common.{◌≡◌, ℕ, ◌<◌, List, [], ◌∷◌, ◌++◌, ◌⊎◌, inl, inr, refl, sym, subst}
use Rattle.std.proofs.lemmas.Bool.{cases_eq}
use Rattle.mv_latch.specs.declared.request.Mode.TheVariants.{Exclusive}
use Rattle.mv_machine.specs.declared.entry.Entry.{Entry}
use Rattle.mv_machine.specs.declared.entry.Object.{Object}
use Rattle.mv_machine.specs.declared.entry.Op.{Op}
use Rattle.mv_machine.specs.Legal.{Legal, of}
use Rattle.mv_config.specs.Setup.{Setup}
use Rattle.mv_machine.proofs.Histories.{by_last}
use Rattle.mv_machine.proofs.Places.{of_longer_mine, of_longer_other}
use Rattle.mv_guarded.specs.Guarded.{HoldsLatch, Keeps, IsGuarding, GuardsVolume}
use Rattle.mv_guarded.proofs.Reading.{same_holder}
use Rattle.mv_guarded.proofs.Rules.{caller_exists, entry_keeps, keeps_at, keeps_so_far, keeps_weaker}
use Rattle.mv_guarded.proofs.Volumes.{at_each_moment}

-- A task is even by its log if it has restored the invariant. `Mine own before` is the invariant after the entries `before`, as the task with
-- the log `own` has left it.

-- Caller k's next entry is one of a holder of the latch, which keeps the invariant as it has left it; or it leaves the caller even, and the
-- invariant of each caller as it is.
abbrev pub IsStep : (List Entry → Type 0) → (List Entry → List Entry → Type 0) → ℕ → ℕ → List Entry → List Entry → Entry → Type 0
IsStep Even Mine latch k own before e =
    (HoldsLatch latch Exclusive k own × (Mine own before → Mine (own ++ e ∷ []) (before ++ e ∷ [])))
    ⊎ (Even own × Even (own ++ e ∷ []) × ((log : List Entry) → Mine log before → Mine log (before ++ e ∷ [])))

-- the invariant holds as one of the callers has left it, and all others are even
pub record IsKept (c : Setup) (Even : List Entry → Type 0) (Mine : List Entry → List Entry → Type 0) (before : List Entry) : Type 0 where
  pub caller : ℕ
  pub exists : caller < c.callers
  pub others : (j : ℕ) → j < c.callers → (j ≡ caller → ⊥) → Even (of j before)
  pub mine : Mine (of caller before) before

module _ (c : Setup) (es : List Entry) (latch n : ℕ) (rule : ℕ → List Entry → Object → Op → Type 0) (Even : List Entry → Type 0)
    (Mine : List Entry → List Entry → Type 0) (legal : Legal c es) (keeps : (k : ℕ) → k < c.callers → Keeps rule k [] (of k es))
    (guards : (k : ℕ) (log : List Entry) (o : Object) (op : Op) → rule k log o op → IsGuarding latch n k log o op) (even_first : Even [])
    (after_entry : (k : ℕ) (log : List Entry) (e : Entry) → rule k log e.object e.op
    → Even (log ++ e ∷ []) ⊎ HoldsLatch latch Exclusive k (log ++ e ∷ []))
    (swap : (own other before : List Entry) → Even own → Even other → Mine own before → Mine other before)
    (step : (before : List Entry) (e : Entry) (later : List Entry) → es ≡ before ++ e ∷ later
    → rule e.caller (of e.caller before) e.object e.op → IsStep Even Mine latch e.caller (of e.caller before) before e) where
  guarded : GuardsVolume c es latch n
  guarded = record { legal = legal; guards = λ k lt. keeps_weaker rule k (IsGuarding latch n) (guards k) [] (of k es) (keeps k lt) }

  -- a caller is even, or holds the latch
  even_or_holds : (k : ℕ) (log : List Entry) → Keeps rule k [] log → Even log ⊎ HoldsLatch latch Exclusive k log
  even_or_holds k = by_last (λ log. Keeps rule k [] log → Even log ⊎ HoldsLatch latch Exclusive k log) (λ all. inl even_first)
      (λ xs e ih all. after_entry k xs e (keeps_at rule k [] xs e [] all))

  -- beside a holder
  even_beside : (before later : List Entry) (j k : ℕ) → es ≡ before ++ later → j < c.callers → (j ≡ k → ⊥)
      → HoldsLatch latch Exclusive k (of k before) → Even (of j before)
  even_beside before later j k is lt other h = elim (even_or_holds j (of j before) (keeps_so_far rule c es keeps before later is j lt)) [
    | inl even ↦ even
    | inr beside ↦ absurd (other (same_holder c es before later latch n j k Exclusive guarded is beside h))
  ]

  -- a holder finds the invariant as it has left it
  moved_to : (before : List Entry) (e : Entry) (later : List Entry) → es ≡ before ++ e ∷ later
      → HoldsLatch latch Exclusive e.caller (of e.caller before) → IsKept c Even Mine before → Mine (of e.caller before) before
  moved_to before e later is h now = elim (cases_eq now.caller e.caller) [
    | inl same ↦ subst (λ k. Mine (of k before) before) same now.mine
    | inr other ↦ swap (of now.caller before) (of e.caller before) before
        (even_beside before (e ∷ later) now.caller e.caller is now.exists other h)
        (now.others e.caller (caller_exists c es before e later legal is) (λ same. other (sym same))) now.mine
  ]

  kept_next : (before : List Entry) (e : Entry) (later : List Entry) → es ≡ before ++ e ∷ later → IsKept c Even Mine before
      → IsKept c Even Mine (before ++ e ∷ [])
  kept_next before e later is now = elim (step before e later is (entry_keeps rule c es legal keeps before e later is)) [
    | inl held ↦ record {
      caller = e.caller;
      exists = caller_exists c es before e later legal is;
      others = λ j lt other. subst Even (sym (of_longer_other j before e (λ mine. other (sym mine))))
          (even_beside before (e ∷ later) j e.caller is lt other held.0);
      mine = subst (λ own. Mine own (before ++ e ∷ [])) (sym (of_longer_mine e.caller before e refl))
          (held.1 (moved_to before e later is held.0 now));
    }
    | inr calm ↦ record {
      caller = now.caller;
      exists = now.exists;
      others = λ j lt other. elim (cases_eq e.caller j) [
        | inl mine ↦ subst Even (sym (of_longer_mine j before e mine)) (subst (λ k. Even (of k before ++ e ∷ [])) mine calm.1)
        | inr off ↦ subst Even (sym (of_longer_other j before e off)) (now.others j lt other)
      ];
      mine = elim (cases_eq e.caller now.caller) [
        | inl mine ↦ subst (λ own. Mine own (before ++ e ∷ [])) (sym (of_longer_mine now.caller before e mine))
            (swap (of now.caller before) (of now.caller before ++ e ∷ []) (before ++ e ∷ [])
            (subst (λ k. Even (of k before)) mine calm.0) (subst (λ k. Even (of k before ++ e ∷ [])) mine calm.1)
            (calm.2 (of now.caller before) now.mine))
        | inr off ↦ subst (λ own. Mine own (before ++ e ∷ [])) (sym (of_longer_other now.caller before e off))
            (calm.2 (of now.caller before) now.mine)
      ];
    }
  ]

  -- an invariant of no entries, of a task that has made none, holds at each moment
  pub kept_at_each_moment : 0 < c.callers → Mine [] [] → (before later : List Entry) → es ≡ before ++ later → IsKept c Even Mine before
  kept_at_each_moment some first =
      at_each_moment c es legal n (λ before x. IsKept c Even Mine before) kept_next
      (record { caller = 0; exists = some; others = λ j lt other. even_first; mine = first })
