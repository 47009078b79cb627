-- Two states are one where their fields are, and each is the one of its phase, its generation and its code.
use Rattle.std.proofs.Common.{◌≡◌, ℕ, ap, refl, sym}
use Rattle.std.proofs.lemmas.Bool.{eqb-true}
use mathlib.Core.Bool.{Bool-set}
use Rattle.mv_element.specs.Code.{IsKeptCode}
use Rattle.mv_element.specs.declared.element.ElementState.{ElementState}
use Rattle.mv_element.specs.declared.element.Phase.{Phase}
use Rattle.mv_element.specs.declared.element.Phase.TheVariants.{Free, Reset, Prereleased, Paused, Released}
use Rattle.mv_element.specs.Element.{in_phase}

fields_of : (s : ElementState) (g : ℕ) (p : Phase) (d : ℕ) → g ≡ s.generation → p ≡ s.phase → d ≡ s.code → (k : IsKeptCode p d)
    → record { generation = g; phase = p; code = d; kept = k } ≡ s
fields_of s g p d eg ep ed =
    rw (eg, ep, ed)
    (λ k. ap (λ (z : IsKeptCode s.phase s.code). let t : ElementState = record
    { generation = s.generation; phase = s.phase; code = s.code; kept = z } in t) (Bool-set _ _ k s.kept))

pub same_state : (s t : ElementState) → s.generation ≡ t.generation → s.phase ≡ t.phase → s.code ≡ t.code → s ≡ t
same_state s t eg ep ed = fields_of t s.generation s.phase s.code eg ep ed s.kept

pub state_by_phase : (s : ElementState) → in_phase s.phase s.generation s.code ≡ s
state_by_phase s = go s.phase refl s.kept where
  go : (p : Phase) → s.phase ≡ p → IsKeptCode p s.code → in_phase p s.generation s.code ≡ s
  go Free e k = same_state _ s refl (sym e) (sym (eqb-true s.code 0 k))
  go Reset e k = same_state _ s refl (sym e) (sym (eqb-true s.code 0 k))
  go Prereleased e k = same_state _ s refl (sym e) refl
  go Paused e k = same_state _ s refl (sym e) (sym (eqb-true s.code 0 k))
  go Released e k = same_state _ s refl (sym e) refl
