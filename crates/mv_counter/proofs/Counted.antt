-- At each moment the volume has the number of the additions so far.
use Rattle.std.proofs.Common.{◌≡◌, ℕ, ◌+◌, ◌%◌, ◌^◌, ◌<◌, List, [], ◌∷◌, ◌++◌, length, filter, refl, sym, ap, ◌∙◌, arith}
use Rattle.std.proofs.Math.Nat.{mod-add-mod}
use Rattle.std.proofs.lemmas.Bool.{false≢true}
use Rattle.std.proofs.lemmas.List.{length-append}
use Rattle.std.proofs.lemmas.List.Elements.{filter-append}
use Rattle.mv_wait.specs.Prelude.latch_op.{Purge}
use Rattle.mv_wait.specs.Prelude.{Entry, Object, Op, Reply, Legal, of, Setup, is_write}
use Rattle.mv_wait.specs.Prelude.op_on
use Rattle.mv_wait.specs.Prelude.volume_op.{Write}
use Rattle.mv_wait.proofs.EntryRuns.{entry_of}
use Rattle.mv_guarded.specs.Guarded.{Keeps, IsGuarding, GuardsVolume, value, value_with}
use Rattle.mv_guarded.proofs.Quiet.{IsCalm}
use Rattle.mv_guarded.proofs.Reading.{value_read}
use Rattle.mv_guarded.proofs.Rules.{entry_keeps, keeps_weaker}
use Rattle.mv_guarded.proofs.Volumes.{at_each_moment, unwritten}
use Rattle.mv_counter.specs.Counter.{additions, IsCounted, IsAllowed}

-- the rule allows calm entries at any time, and it guards the volume
pub calm_allowed : (k : ℕ) (log : List Entry) (o : Object) (op : Op) → IsCalm o op → IsAllowed k log o op
calm_allowed k log o (op_on.Latch (Purge requestor)) calm = absurd calm
calm_allowed k log o (op_on.Volume (Write x)) calm = absurd calm
calm_allowed k log o op calm = tt

guards : (k : ℕ) (log : List Entry) (o : Object) (op : Op) → IsAllowed k log o op → IsGuarding 0 0 k log o op
guards k log o (op_on.Latch (Purge requestor)) may = may
guards k log o (op_on.Volume (Write x)) may = λ at. may.1.holds
guards k log o op may = tt

added : (before : List Entry) (e : Entry) → additions (before ++ e ∷ []) ≡ additions before + length (filter (λ x. is_write x.op) (e ∷ []))
added before e =
    ap length (filter-append (λ (x : Entry). is_write x.op) before (e ∷ []))
    ∙ length-append (filter (λ (x : Entry). is_write x.op) before) (filter (λ (x : Entry). is_write x.op) (e ∷ []))

plus_none : (n : ℕ) → n ≡ n + 0
plus_none n = omega arith

module _ (c : Setup) (es : List Entry) (legal : Legal c es) (allowed : (k : ℕ) → k < c.callers → Keeps IsAllowed k [] (of k es)) where
  guarding : GuardsVolume c es 0 0
  guarding = record {
    legal = legal;
    guards = λ k lt. keeps_weaker IsAllowed k (IsGuarding 0 0) (guards k) [] (of k es) (allowed k lt);
  }

  -- after one entry more
  step : (before later : List Entry) (k p : ℕ) (r : Reply) (o : Object) (op : Op) → IsAllowed k (of k before) o op
      → es ≡ before ++ entry_of k o p op r ∷ later → value c before 0 ≡ additions before % 2 ^ 32
      → value_with 0 (value c before 0) o op ≡ additions (before ++ entry_of k o p op r ∷ []) % 2 ^ 32
  step before later k p r o (op_on.Latch (Purge requestor)) may is now = absurd may
  step before later k p r o (op_on.Volume (Write x)) may is now =
      let e = entry_of k o p (op_on.Volume (Write x)) r in
      let old : value c before 0 ≡ may.1.old = value_read c es before (e ∷ later) 0 0 k may.1.old guarding is may.1.read in
      ap (λ at. value_with 0 (value c before 0) at (op_on.Volume (Write x))) may.0 ∙ may.1.more ∙ ap (λ m. (m + 1) % 2 ^ 32) (sym old ∙ now)
      ∙ mod-add-mod (additions before) (2 ^ 32) 1 ∙ ap (λ m. m % 2 ^ 32) (sym (added before e))
  step before later k p r o op may is now =
      unwritten 0 (value c before 0) o op (λ at write. false≢true write) ∙ now
      ∙ ap (λ m. m % 2 ^ 32) (plus_none (additions before) ∙ sym (added before (entry_of k o p op r)))

  pub is_counted : IsCounted c es
  is_counted = at_each_moment c es legal 0 (λ before x. x ≡ additions before % 2 ^ 32)
      (λ before e later is now. step before later e.caller e.place e.reply e.object e.op
      (entry_keeps IsAllowed c es legal allowed before e later is) is now) refl
