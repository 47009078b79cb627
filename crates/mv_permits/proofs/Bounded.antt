-- At each moment the volume has the number of the permits that are out, and that is at most all of them. Used by share.
use Rattle.std.proofs.Common.{◌≡◌, ℕ, zero, suc, ◌+◌, ◌<◌, ◌≤◌, Bool, true, false, not, List, [], ◌∷◌, ◌++◌, ◌⊎◌, inl, inr, refl, sym, ap}
use Rattle.std.proofs.Common.{◌∙◌, subst, arith, if◌then◌else◌}
use Rattle.std.proofs.lemmas.Bool.{cases_eq, eq-eqb, false≢true}
use Rattle.std.proofs.lemmas.List.{append-nil}
use Rattle.mv_wait.specs.Prelude.latch_op.{Purge}
use Rattle.mv_wait.specs.Prelude.{Entry, Object, Volume, Op, Legal, of, Setup, is_write}
use Rattle.mv_wait.specs.Prelude.op_on
use Rattle.mv_wait.specs.Prelude.volume_op.{Write}
use Rattle.mv_wait.proofs.Objects.{of-append}
use Rattle.mv_wait.proofs.Places.{of_mine, of_other}
use Rattle.mv_guarded.specs.Guarded.{Keeps, IsGuarding, GuardsVolume, value, value_with}
use Rattle.mv_guarded.proofs.Reading.{value_read}
use Rattle.mv_guarded.proofs.Rules.{keeps_weaker, caller_exists, entry_keeps}
use Rattle.mv_guarded.proofs.Volumes.{unwritten, at_each_moment}
use Rattle.mv_permits.specs.Setup.{permits}
use Rattle.mv_permits.specs.Permits.{permit_with, has_permit, Moves, IsMove, IsAllowed, one, at_work, IsBounded, IsCounted}
use Rattle.mv_permits.proofs.Logs.{permit-append}

-- an operation writes a volume, or leaves permits and volumes as they are
abbrev IsKind : Object → Op → Type 0
IsKind o op = ((n : ℕ) × (x : ℕ) × (o ≡ Volume n) × (op ≡ op_on.Volume (Write x)))
    ⊎ (((has : Bool) → permit_with has o op ≡ has) × (o ≡ Volume 0 → is_write op ≡ true → ⊥))

kind_of : (o : Object) (op : Op) → IsKind o op
kind_of (Volume n) (op_on.Volume (Write x)) = inl (n, x, refl, refl)
kind_of (Volume n) op = inr ((λ has. refl), (λ at is. absurd (false≢true is)))
kind_of o op = inr ((λ has. refl), (λ at is. absurd (cc at)))

guards : (k : ℕ) (log : List Entry) (o : Object) (op : Op) → IsAllowed k log o op → IsGuarding 0 0 k log o op
guards k log o (op_on.Latch (Purge requestor)) may = may
guards k log (Volume n) (op_on.Volume (Write x)) may = λ at. may.holds
guards k log o (op_on.Volume (Write x)) may = λ at. absurd (cc at)
guards k log o op may = tt

move_by : (k n x : ℕ) (log : List Entry) (o : Object) (op : Op) → IsAllowed k log o op → o ≡ Volume n → op ≡ op_on.Volume (Write x)
    → IsMove k n x log
move_by k n x log o op may at is = subst (λ p. IsAllowed k log (Volume n) p) is (subst (λ p. IsAllowed k log p op) at may)

-- ---- who has a permit

permit_mine : (k : ℕ) (es : List Entry) (e : Entry) → e.caller ≡ k
    → has_permit (of k (es ++ e ∷ [])) ≡ permit_with (has_permit (of k es)) e.object e.op
permit_mine k es e mine =
    ap has_permit (of-append k es (e ∷ []) ∙ ap (λ xs. of k es ++ xs) (of_mine k e [] mine)) ∙ permit-append false (of k es) (e ∷ [])

permit_other : (k : ℕ) (es : List Entry) (e : Entry) → (e.caller ≡ k → ⊥) → has_permit (of k (es ++ e ∷ [])) ≡ has_permit (of k es)
permit_other k es e other =
    ap has_permit (of-append k es (e ∷ []) ∙ ap (λ xs. of k es ++ xs) (of_other k e [] other) ∙ append-nil (of k es))

permit_calm : (k : ℕ) (es : List Entry) (e : Entry) → ((has : Bool) → permit_with has e.object e.op ≡ has)
    → has_permit (of k (es ++ e ∷ [])) ≡ has_permit (of k es)
permit_calm k es e calm = elim (cases_eq e.caller k) [
  | inl mine ↦ permit_mine k es e mine ∙ calm (has_permit (of k es))
  | inr other ↦ permit_other k es e other
]

-- four numbers of which all but one stay
sum_by : (k : ℕ) → k < 4 → (w v : ℕ → ℕ) → ((j : ℕ) → (k ≡ j → ⊥) → w j ≡ v j)
    → w 0 + w 1 + w 2 + w 3 + v k ≡ v 0 + v 1 + v 2 + v 3 + w k
sum_by zero lt w v same =
    let a = same 1 (λ q. absurd (omega arith)) in
    let b = same 2 (λ q. absurd (omega arith)) in
    let d = same 3 (λ q. absurd (omega arith)) in omega arith
sum_by (suc zero) lt w v same =
    let a = same 0 (λ q. absurd (omega arith)) in
    let b = same 2 (λ q. absurd (omega arith)) in
    let d = same 3 (λ q. absurd (omega arith)) in omega arith
sum_by (suc (suc zero)) lt w v same =
    let a = same 0 (λ q. absurd (omega arith)) in
    let b = same 1 (λ q. absurd (omega arith)) in
    let d = same 3 (λ q. absurd (omega arith)) in omega arith
sum_by (suc (suc (suc zero))) lt w v same =
    let a = same 0 (λ q. absurd (omega arith)) in
    let b = same 1 (λ q. absurd (omega arith)) in
    let d = same 2 (λ q. absurd (omega arith)) in omega arith
sum_by (suc (suc (suc (suc k)))) lt w v same = absurd (omega arith)

flips : (has : Bool) (old new : ℕ) → Moves has old new → new + one has ≡ old + one (not has)
flips false old new m = let is = m.1 in omega arith
flips true old new m = omega arith

fits : (has : Bool) (old new : ℕ) → Moves has old new → old ≤ permits → new ≤ permits
fits false old new m le = let low = m.0 in let is = m.1 in omega arith
fits true old new m le = omega arith

module _ (c : Setup) (es : List Entry) (legal : Legal c es) (four : c.callers ≡ 4)
    (allowed : (k : ℕ) → k < c.callers → Keeps IsAllowed k [] (of k es)) where
  guarding : GuardsVolume c es 0 0
  guarding = record {
    legal = legal;
    guards = λ k lt. keeps_weaker IsAllowed k (IsGuarding 0 0) (guards k) [] (of k es) (allowed k lt);
  }

  -- ---- at each moment

  record Holds (front : List Entry) (x : ℕ) : Type 0 where
    number : x ≡ at_work front
    bounded : at_work front ≤ permits

  after_write : (front : List Entry) (e : Entry) (later : List Entry) (n x : ℕ) → es ≡ front ++ e ∷ later → e.object ≡ Volume n
      → e.op ≡ op_on.Volume (Write x) → Holds front (value c front 0)
      → Holds (front ++ e ∷ []) (value_with 0 (value c front 0) e.object e.op)
  after_write front e later n x is at writes h =
      let k = e.caller in
      let m = move_by k n x (of k front) e.object e.op (entry_keeps IsAllowed c es legal allowed front e later is) at writes in
      let has = has_permit (of k front) in
      let was : value c front 0 ≡ m.old = value_read c es front (e ∷ later) 0 0 k m.old guarding is m.read in
      let now : value_with 0 (value c front 0) e.object e.op ≡ x =
      rw (at, writes) (ap (λ b. if b then x else value c front 0) (eq-eqb n 0 m.here)) in
      let w : ℕ → ℕ = λ j. one (has_permit (of j (front ++ e ∷ []))) in
      let v : ℕ → ℕ = λ j. one (has_permit (of j front)) in
      let mine : w k ≡ one (not has) = ap one (permit_mine k front e refl ∙ rw (at, writes) refl) in
      let sum : w 0 + w 1 + w 2 + w 3 + v k ≡ v 0 + v 1 + v 2 + v 3 + w k =
      sum_by k (let lt = caller_exists c es front e later legal is in omega arith) w v
      (λ j other. ap one (permit_other j front e other)) in
      let flip : x + one has ≡ m.old + one (not has) = flips has m.old x m.moves in
      let number = h.number in
      let bounded = h.bounded in
      let work : at_work (front ++ e ∷ []) ≡ x = omega arith in
      let fit : x ≤ permits = fits has m.old x m.moves (let old : m.old ≡ at_work front = sym was ∙ number in omega arith) in record {
        number = now ∙ sym work;
        bounded = omega arith;
      }

  after_calm : (front : List Entry) (e : Entry) → ((has : Bool) → permit_with has e.object e.op ≡ has)
      → (e.object ≡ Volume 0 → is_write e.op ≡ true → ⊥) → Holds front (value c front 0)
      → Holds (front ++ e ∷ []) (value_with 0 (value c front 0) e.object e.op)
  after_calm front e calm none h =
      let a = ap one (permit_calm 0 front e calm) in
      let b = ap one (permit_calm 1 front e calm) in
      let d = ap one (permit_calm 2 front e calm) in
      let f = ap one (permit_calm 3 front e calm) in
      let same : at_work (front ++ e ∷ []) ≡ at_work front = omega arith in record {
        number = unwritten 0 (value c front 0) e.object e.op none ∙ h.number ∙ sym same;
        bounded = subst (λ n. n ≤ permits) (sym same) h.bounded;
      }

  step : (front : List Entry) (e : Entry) (later : List Entry) → es ≡ front ++ e ∷ later → Holds front (value c front 0)
      → Holds (front ++ e ∷ []) (value_with 0 (value c front 0) e.object e.op)
  step front e later is h = elim (kind_of e.object e.op) [
    | inl w ↦ after_write front e later w.0 w.1 is w.2 w.3 h
    | inr calm ↦ after_calm front e calm.0 calm.1 h
  ]

  holds : (before later : List Entry) → es ≡ before ++ later → Holds before (value c before 0)
  holds = at_each_moment c es legal 0 Holds step (record { number = refl; bounded = omega arith })

  pub bounded : IsBounded es
  bounded before later is = (holds before later is).bounded

  pub counted : IsCounted c es
  counted before later is = (holds before later is).number
