-- What a caller's entries say of it, along a legal list.
use Rattle.std.proofs.Common.{◌≡◌, ℕ, Bool, true, false, cond, List, [], ◌∷◌, inl, inr, refl}
use Rattle.std.proofs.lemmas.Bool.{cases_eq, eq-eqb, ne_eqb}
use Rattle.mv_machine.specs.declared.entry.Entry.{Entry}
use Rattle.mv_machine.specs.Legal.{IsNext, next, after_from, LegalFrom, Legal, after, of}
use Rattle.mv_config.specs.Setup.{Setup}
use Rattle.mv_machine.specs.System.{System, opening}
use Rattle.mv_calls.specs.Keeping.{Kept, kept_after, kept_from, kept_of, nothing_kept}
use Rattle.mv_calls.specs.Rest.{OpenWaits, no_waits, waits_after, waits_from}

-- a choice of one value
pub either_same : {A : Type 0} (b : Bool) (a : A) → cond b a a ≡ a
either_same true a = refl
either_same false a = refl

-- what its own entries keep to step by step, and other callers' leave, holds after the list
module _ (c : Setup) (k : ℕ) (P : System → OpenWaits → Kept → Type 0)
    (mine : (s : System) (e : Entry) (w : OpenWaits) (kept : Kept) → e.caller ≡ k → IsNext c s e → P s w kept
    → P (next s e) (waits_after w e.object e.op e.reply) (kept_after kept e.object e.op e.reply))
    (others : (s : System) (e : Entry) (w : OpenWaits) (kept : Kept) → (e.caller ≡ k → ⊥) → IsNext c s e → P s w kept
    → P (next s e) w kept) where
  known_from : (s : System) (es : List Entry) (w : OpenWaits) (kept : Kept) → LegalFrom c s es → P s w kept
      → P (after_from s es) (waits_from w (of k es)) (kept_from kept (of k es))
  known_from s [] w kept l h = h
  known_from s (e ∷ es) w kept l h = elim (cases_eq e.caller k) [
    | inl own ↦
        rw (eq-eqb e.caller k own)
        (known_from (next s e) es (waits_after w e.object e.op e.reply) (kept_after kept e.object e.op e.reply) l.1
        (mine s e w kept own l.0 h))
    | inr other ↦ rw (ne_eqb e.caller k other) (known_from (next s e) es w kept l.1 (others s e w kept other l.0 h))
  ]

  pub known : (es : List Entry) → Legal c es → P (opening c) no_waits (nothing_kept k)
      → P (after c es) (waits_from no_waits (of k es)) (kept_of k (of k es))
  known es l h = known_from (opening c) es no_waits (nothing_kept k) l h
