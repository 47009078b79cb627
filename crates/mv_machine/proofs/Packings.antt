-- A word that stands for a place and a state is their packing.
use Rattle.std.proofs.Common.{◌≡◌, ℕ, ◌+◌, ◌*◌, ◌/◌, ◌%◌, ◌^◌, Option, Some, None, option_map, refl, sym, ap, ◌∙◌, arith}
use Rattle.mv_element.specs.declared.element.ElementState.{ElementState}
use Rattle.mv_machine.specs.declared.entry.Object.{Object}
use Rattle.mv_machine.specs.declared.entry.Object.TheVariants.{Ecb, Element, Volume, Latches}
use Rattle.mv_machine.specs.declared.packing.WordState.{WordState}
use Rattle.mv_machine.specs.declared.packing.WordState.TheVariants as state
use Rattle.mv_machine.specs.Packing.{pack, phase_number, state_bits, state_in, element_in, unpack}

fullword_back : (bits : ℕ) (s : WordState) → state_in (Ecb 0) bits ≡ Some s → state_bits s ≡ bits
fullword_back bits s e = grind arith

fields_back : (g p d : ℕ) (s : ElementState) → element_in g p d ≡ Some s
    → s.generation * 2 ^ 27 + phase_number s.phase * 2 ^ 24 + s.code ≡ g * 2 ^ 27 + p * 2 ^ 24 + d
fields_back g p d s e = grind arith

element_bits_back : (bits : ℕ) (found : Option ElementState) (s : WordState)
    → element_in (bits / 2 ^ 27) (bits / 2 ^ 24 % 2 ^ 3) (bits % 2 ^ 24) ≡ found
    → option_map (λ t. state.Element t) found ≡ Some s → state_bits s ≡ bits
element_bits_back bits None s is e = absurd (cc e)
element_bits_back bits (Some t) s is e =
    let h : t.generation * 2 ^ 27 + phase_number t.phase * 2 ^ 24 + t.code ≡ bits / 2 ^ 27 * 2 ^ 27 + bits / 2 ^ 24 % 2 ^ 3 * 2 ^ 24 + bits
    % 2 ^ 24 = fields_back _ _ _ t is in
    let same : state.Element t ≡ s = cc e in
    rw (← same) (omega arith)

bits_back : (o : Object) (bits : ℕ) (s : WordState) → state_in o bits ≡ Some s → state_bits s ≡ bits
bits_back (Ecb n) bits s e = fullword_back bits s e
bits_back (Element n) bits s e = element_bits_back bits _ s refl e
bits_back (Volume n) bits s e = grind arith
bits_back Latches bits s e = absurd (cc e)

word_parts : (o : Object) (w place : ℕ) (s : WordState) (found : Option WordState) → state_in o (w % 2 ^ 45) ≡ found
    → option_map {U = ℕ × WordState} (λ t. (w / 2 ^ 45, t)) found ≡ Some (place, s) → pack place s ≡ w
word_parts o w place s None is e = absurd (cc e)
word_parts o w place s (Some t) is e =
    let pair : ◌≡◌ {A = ℕ × WordState} (w / 2 ^ 45, t) (place, s) = cc e in
    let p : w / 2 ^ 45 ≡ place = ap (λ (z : ℕ × WordState). z.0) pair in
    let b : state_bits s ≡ w % 2 ^ 45 = sym (ap (λ (z : ℕ × WordState). state_bits z.1) pair) ∙ bits_back o (w % 2 ^ 45) t is in
    omega arith

pub packs_back : (o : Object) (w place : ℕ) (s : WordState) → unpack o w ≡ Some (place, s) → pack place s ≡ w
packs_back o w place s e = word_parts o w place s _ refl e
