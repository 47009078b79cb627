-- What a caller hears in a history, event by event: the entries of its own, each on the latch set with the wakes that it is
-- told.
use Rattle.std.proofs.Common.{◌≡◌, ℕ, ◌==◌, List, [], ◌∷◌, ◌++◌, if◌then◌else◌, inl, inr, refl, sym, ap, ◌∙◌}
use Rattle.std.proofs.lemmas.Bool.{cases_eq, eq-eqb, ne_eqb}
use Rattle.mv_latch.specs.declared.operation.Wake.{Wake}
use Rattle.mv_machine.specs.declared.entry.Entry.{Entry}
use Rattle.mv_machine.specs.declared.entry.Object.{Object}
use Rattle.mv_machine.specs.declared.entry.Object.TheVariants.{Latches}
use Rattle.mv_machine.specs.declared.entry.Op.{Op}
use Rattle.mv_machine.specs.declared.entry.Op.TheVariants as op_on
use Rattle.mv_machine.specs.Legal.{next, of}
use Rattle.mv_machine.specs.System.{System}
use Rattle.mv_machine.specs.Told.{told_at, told_from}
use Rattle.mv_machine.proofs.Longer.{told_other}
use Rattle.mv_machine.proofs.Places.{of_mine, of_other}
use Rattle.mv_calls.specs.Program.{Heard, noted, wakes_now, wakes_then}
pub use Rattle.mv_calls.specs.Numbers.{wakes_at}

-- what its caller hears of an event
abbrev pub hearing : System → Entry → Heard
hearing s e = record { entry = e; wakes = wakes_at s e.caller e.object e.op }

-- what a caller hears from here on
abbrev pub heard_from : System → ℕ → List Entry → List Heard
heard_from s k [] = []
heard_from s k (e ∷ es) = if e.caller == k then hearing s e ∷ heard_from (next s e) k es else heard_from (next s e) k es

-- of what is told with an own event and later, the next are the event's wakes, and the rest is told later
own_told : (s : System) (me k : ℕ) (o : Object) (op : Op) (told : List (List Wake)) → k ≡ me
    → (wakes_now o op (told_at s me k o op ++ told) ≡ wakes_at s k o op) × (wakes_then o op (told_at s me k o op ++ told) ≡ told)
own_told s me k Latches (op_on.Latch op) told own = rw (eq-eqb k me own) (refl, refl)
own_told s me k o op told own = (refl, refl)

-- what it hears with an entry of its own in front
pub heard_own : (s : System) (k : ℕ) (e : Entry) (es : List Entry) → e.caller ≡ k
    → heard_from s k (e ∷ es) ≡ hearing s e ∷ heard_from (next s e) k es
heard_own s k e es own = rw (eq-eqb e.caller k own) refl

-- and with one of another
pub heard_other : (s : System) (k : ℕ) (e : Entry) (es : List Entry) → (e.caller ≡ k → ⊥)
    → heard_from s k (e ∷ es) ≡ heard_from (next s e) k es
heard_other s k e es other = rw (ne_eqb e.caller k other) refl

-- a caller's entries with what it is told are what it hears
pub noted_is : (s : System) (k : ℕ) (es : List Entry) → noted (of k es) (told_from s k es) ≡ heard_from s k es
noted_is s k [] = refl
noted_is s k (e ∷ es) =
    elim (cases_eq e.caller k) [
      | inl own ↦ ap (λ xs. noted xs (told_from s k (e ∷ es))) (of_mine k e es own)
          ∙ ap (λ ws. record { entry = e; wakes = ws } ∷ noted (of k es) (wakes_then e.object e.op (told_from s k (e ∷ es))))
          (own_told s k e.caller e.object e.op (told_from (next s e) k es) own).0
          ∙ ap (λ t. hearing s e ∷ noted (of k es) t) (own_told s k e.caller e.object e.op (told_from (next s e) k es) own).1
          ∙ ap (λ hs. hearing s e ∷ hs) (noted_is (next s e) k es)
          ∙ sym (heard_own s k e es own)
      | inr other ↦ ap (λ xs. noted xs (told_from s k (e ∷ es))) (of_other k e es other)
          ∙ ap (λ t. noted (of k es) (t ++ told_from (next s e) k es)) (told_other s k e.caller e.object e.op other)
          ∙ noted_is (next s e) k es
          ∙ sym (heard_other s k e es other)
    ]
