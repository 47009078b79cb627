-- The words of the states that a legal list leads to, and what a word stands for.
use Rattle.std.proofs.Common.{◌≡◌, ℕ, ◌/◌, ◌%◌, ◌^◌, ◌<◌, ◌≤◌, ◌==◌, true, List, [], ◌∷◌, length, Some, option_map, IfSome, inl, inr}
use Rattle.std.proofs.Common.{refl, sym, ap, ◌∙◌, subst, arith}
use Rattle.std.proofs.lemmas.Bool.{cases_eq, false≢true, eqb-true, eq-eqb}
use Rattle.mv_ecb.specs.Table.{ecb_step}
use Rattle.mv_ecb.specs.Word.{EcbState, Zero, Waiting, Extended, Complete, word_of}
use Rattle.mv_ecb.specs.declared.operation.EcbOp.{EcbOp}
use Rattle.mv_element.specs.Code.{IsKeptCode}
use Rattle.mv_element.specs.Element.{generation_limit, free, reset, prereleased, paused, released}
use Rattle.mv_element.specs.Table.{release_limit, element_step}
use Rattle.mv_element.specs.declared.element.ElementState.{ElementState}
use Rattle.mv_element.specs.declared.element.Phase.{Phase}
use Rattle.mv_element.specs.declared.element.Phase.TheVariants.{Free, Reset, Prereleased, Paused, Released}
use Rattle.mv_element.specs.declared.operation.ElementOp.{ElementOp}
use Rattle.mv_element.proofs.States.{same_state}
use Rattle.mv_config.specs.Limits.{events_limit, highest_generation}
use Rattle.mv_machine.specs.declared.entry.Entry.{Entry}
use Rattle.mv_machine.specs.declared.entry.Object.{Object}
use Rattle.mv_machine.specs.declared.entry.Object.TheVariants.{Ecb, Element, Volume, Latches}
use Rattle.mv_machine.specs.declared.entry.Op.{Op}
use Rattle.mv_machine.specs.declared.entry.Op.TheVariants as op_on
use Rattle.mv_machine.specs.declared.entry.VolumeOp.{VolumeOp}
use Rattle.mv_machine.specs.declared.packing.WordState.{WordState}
use Rattle.mv_machine.specs.declared.packing.WordState.TheVariants as state
use Rattle.mv_machine.specs.Elements.{only_if}
use Rattle.mv_machine.specs.Legal.{Legal, LegalFrom, after, after_from, next}
use Rattle.mv_machine.specs.Packing.{HasFields, IsBlock, IsStateOf, pack, phase_number, state_bits, state_in, element_in, unpack}
use Rattle.mv_machine.specs.Packing.{state_at, word_at}
use Rattle.mv_config.specs.Setup.{Setup}
use Rattle.mv_machine.specs.System.{System, opening, admitted, ecb_admitted, element_admitted, volume_admitted, volume_step, moved}
use Rattle.mv_machine.specs.System.{place_of}
use Rattle.mv_machine.proofs.Budgets.{places_fit, no_high_generation}

-- ---- the numbers of the states that can be reached

block_next : (c : Setup) (k n : ℕ) (op : EcbOp) (s : EcbState) → ecb_admitted c k n op ≡ true → IsBlock s → IsBlock (ecb_step op s).0
block_next c k n op s a b = grind arith

code_next : (c : Setup) (k n : ℕ) (op : ElementOp) (s : ElementState) → element_admitted c k n op ≡ true → s.code < release_limit
    → (element_step op s).0.code < release_limit
code_next c k n op s a b = grind arith

number_next : (op : VolumeOp) (n : ℕ) → volume_admitted op ≡ true → n < 2 ^ 32 → (volume_step op n).0 < 2 ^ 32
number_next op n a b = grind arith

-- each state's numbers are such as can be packed
pub record HasNumbers (s : System) : Type 0 where
  pub blocks : (n : ℕ) → IsBlock (s.ecb n).state
  pub codes : (n : ℕ) → (s.element n).state.code < release_limit
  pub numbers : (n : ℕ) → (s.volume n).state < 2 ^ 32

numbers_next : (c : Setup) (s : System) (k : ℕ) (o : Object) (op : Op) → admitted c s k o op ≡ true → HasNumbers s
    → HasNumbers (moved s k o op)
numbers_next c s k (Ecb n) (op_on.Ecb op) a h = record {
  blocks = λ m. elim (cases_eq m n) [
    | inl same ↦ (let b : IsBlock (ecb_step op (s.ecb n).state).0 = block_next c k n op (s.ecb n).state (grind arith) (h.blocks n) in
        grind arith)
    | inr other ↦ (let b : IsBlock (s.ecb m).state = h.blocks m in grind arith)
  ];
  codes = h.codes;
  numbers = h.numbers;
}
numbers_next c s k (Element n) (op_on.Element op) a h = record {
  blocks = h.blocks;
  codes = λ m. elim (cases_eq m n) [
    | inl same ↦ (let b : (element_step op (s.element n).state).0.code < release_limit =
        code_next c k n op (s.element n).state (grind arith)
        (h.codes n) in grind arith)
    | inr other ↦ (let b : (s.element m).state.code < release_limit = h.codes m in grind arith)
  ];
  numbers = h.numbers;
}
numbers_next c s k (Volume n) (op_on.Volume op) a h = record {
  blocks = h.blocks;
  codes = h.codes;
  numbers = λ m. elim (cases_eq m n) [
    | inl same ↦ (let b : (volume_step op (s.volume n).state).0 < 2 ^ 32 = number_next op (s.volume n).state (grind arith) (h.numbers n) in
        grind arith)
    | inr other ↦ (let b : (s.volume m).state < 2 ^ 32 = h.numbers m in grind arith)
  ];
}
numbers_next c s k Latches (op_on.Latch op) a h = record { blocks = h.blocks; codes = h.codes; numbers = h.numbers }
numbers_next c s k o op a h = absurd (false≢true a)

numbers_along : (c : Setup) (s : System) (es : List Entry) → LegalFrom c s es → HasNumbers s → HasNumbers (after_from s es)
numbers_along c s [] l h = h
numbers_along c s (e ∷ es) l h = numbers_along c (next s e) es l.1 (numbers_next c s e.caller e.object e.op l.0.admits h)

pub numbers_after : (c : Setup) (es : List Entry) → Legal c es → HasNumbers (after c es)
numbers_after c es l = numbers_along c (opening c) es l record { blocks = λ n. tt; codes = λ n. omega arith; numbers = λ n. omega arith }

-- ---- the bits of a state stand for it

block_back : (n : ℕ) (s : EcbState) → IsBlock s → state_in (Ecb n) (word_of s) ≡ Some (state.Ecb s)
block_back n Zero b = refl
block_back n Waiting b = refl
block_back n (Extended y) b = grind arith
block_back n (Complete d) b = grind arith

-- a phase that keeps no code has code 0
no_code : (d : ℕ) (t : ElementState) → d ≡ 0 → only_if (d == 0) t ≡ Some t
no_code d t e = rw (eq-eqb d 0 e) refl

kept_at : (p : Phase) (s : ElementState) → s.phase ≡ p → IsKeptCode p s.code
kept_at p s e = subst (λ q. IsKeptCode q s.code) e s.kept

element_by_phase : (p : Phase) (s : ElementState) → s.phase ≡ p → element_in s.generation (phase_number p) s.code ≡ Some s
element_by_phase Free s e =
    let k : s.code ≡ 0 = eqb-true s.code 0 (kept_at Free s e) in
    no_code s.code (free s.generation) k ∙ ap (λ z. Some z) (same_state (free s.generation) s refl (sym e) (sym k))
element_by_phase Reset s e =
    let k : s.code ≡ 0 = eqb-true s.code 0 (kept_at Reset s e) in
    no_code s.code (reset s.generation) k ∙ ap (λ z. Some z) (same_state (reset s.generation) s refl (sym e) (sym k))
element_by_phase Prereleased s e = ap (λ z. Some z) (same_state (prereleased s.generation s.code) s refl (sym e) refl)
element_by_phase Paused s e =
    let k : s.code ≡ 0 = eqb-true s.code 0 (kept_at Paused s e) in
    no_code s.code (paused s.generation) k ∙ ap (λ z. Some z) (same_state (paused s.generation) s refl (sym e) (sym k))
element_by_phase Released s e = ap (λ z. Some z) (same_state (released s.generation s.code) s refl (sym e) refl)

phase_small : (p : Phase) → phase_number p < 8
phase_small p = grind arith

element_back : (n : ℕ) (s : ElementState) → s.code < release_limit
    → state_in (Element n) (state_bits (state.Element s)) ≡ Some (state.Element s)
element_back n s d =
    let p : phase_number s.phase < 8 = phase_small s.phase in
    let g : state_bits (state.Element s) / 2 ^ 27 ≡ s.generation = omega arith in
    let f : state_bits (state.Element s) / 2 ^ 24 % 2 ^ 3 ≡ phase_number s.phase = omega arith in
    let x : state_bits (state.Element s) % 2 ^ 24 ≡ s.code = omega arith in
    ap (λ (z : ℕ × ℕ × ℕ). option_map (λ t. state.Element t) (element_in z.0 z.1 z.2)) (λ i. (g i, f i, x i))
    ∙ ap (λ z. option_map (λ t. state.Element t) z) (element_by_phase s.phase s refl)

number_back : (n m : ℕ) → m < 2 ^ 32 → state_in (Volume n) m ≡ Some (state.Volume m)
number_back n m lt = grind arith

-- ---- so a packed word unpacks

unpacked : (o : Object) (place : ℕ) (s : WordState) → state_bits s < 2 ^ 45 → state_in o (state_bits s) ≡ Some s
    → unpack o (pack place s) ≡ Some (place, s)
unpacked o place s lt h =
    let b : pack place s % 2 ^ 45 ≡ state_bits s = omega arith in
    let p : pack place s / 2 ^ 45 ≡ place = omega arith in
    ap (λ q. option_map {U = ℕ × WordState} (λ t. (q, t)) (state_in o (pack place s % 2 ^ 45))) p
    ∙ ap (λ z. option_map {U = ℕ × WordState} (λ t. (place, t)) z) (ap (state_in o) b ∙ h)

block_word : (s : EcbState) → IsBlock s → word_of s < 2 ^ 32
block_word s b = grind arith

-- a packing stands for its place and state
pub packed_unpacks : (o : Object) (place : ℕ) (s : WordState) → IsStateOf o s → unpack o (pack place s) ≡ Some (place, s)
packed_unpacks (Ecb n) place (state.Ecb s) b =
    let w : word_of s < 2 ^ 32 = block_word s b in
    unpacked (Ecb n) place (state.Ecb s) (omega arith) (block_back n s b)
packed_unpacks (Element n) place (state.Element s) b =
    let g : s.generation < generation_limit = b.0 in
    let d : s.code < release_limit = b.1 in
    let p : phase_number s.phase < 8 = phase_small s.phase in
    unpacked (Element n) place (state.Element s) (omega arith) (element_back n s d)
packed_unpacks (Volume n) place (state.Volume m) b =
    let lt : m < 2 ^ 32 = b in
    unpacked (Volume n) place (state.Volume m) (omega arith) (number_back n m lt)
packed_unpacks o place s b = absurd b

pub reached_unpack : (c : Setup) (es : List Entry) (o : Object) → Legal c es → length es ≤ events_limit
    → unpack o (word_at (after c es) o) ≡ option_map (λ s. (place_of (after c es) o, s)) (state_at (after c es) o)
reached_unpack c es (Ecb n) l le = packed_unpacks (Ecb n) _ (state.Ecb ((after c es).ecb n).state) ((numbers_after c es l).blocks n)
reached_unpack c es (Element n) l le =
    let g : ((after c es).element n).state.generation ≤ highest_generation = no_high_generation c es n l le in
    packed_unpacks (Element n) _ (state.Element ((after c es).element n).state) (omega arith, (numbers_after c es l).codes n)
reached_unpack c es (Volume n) l le = packed_unpacks (Volume n) _ (state.Volume ((after c es).volume n).state)
    ((numbers_after c es l).numbers n)
reached_unpack c es Latches l le = refl

pub reached_word : (c : Setup) (es : List Entry) (o : Object) → Legal c es → length es ≤ events_limit → word_at (after c es) o < 2 ^ 64
reached_word c es (Ecb n) l le =
    let w : word_of ((after c es).ecb n).state < 2 ^ 32 = block_word ((after c es).ecb n).state ((numbers_after c es l).blocks n) in
    let p : ((after c es).ecb n).place ≤ events_limit = places_fit c es (Ecb n) l le in omega arith
reached_word c es (Element n) l le =
    let d : ((after c es).element n).state.code < release_limit = (numbers_after c es l).codes n in
    let g : ((after c es).element n).state.generation ≤ highest_generation = no_high_generation c es n l le in
    let f : phase_number ((after c es).element n).state.phase < 8 = phase_small ((after c es).element n).state.phase in
    let p : ((after c es).element n).place ≤ events_limit = places_fit c es (Element n) l le in omega arith
reached_word c es (Volume n) l le =
    let m : ((after c es).volume n).state < 2 ^ 32 = (numbers_after c es l).numbers n in
    let p : ((after c es).volume n).place ≤ events_limit = places_fit c es (Volume n) l le in omega arith
reached_word c es Latches l le = omega arith

pub reached_fields : (c : Setup) (es : List Entry) (o : Object) → Legal c es → length es ≤ events_limit
    → IfSome (state_at (after c es) o) (λ s. HasFields s)
reached_fields c es (Ecb n) l le = tt
reached_fields c es (Element n) l le =
    let d : ((after c es).element n).state.code < release_limit = (numbers_after c es l).codes n in
    let g : ((after c es).element n).state.generation ≤ highest_generation = no_high_generation c es n l le in
    (omega arith, d)
reached_fields c es (Volume n) l le = tt
reached_fields c es Latches l le = tt
