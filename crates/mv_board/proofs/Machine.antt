-- The few facts of the machine that the board's proofs cite.
use Rattle.std.proofs.Common.{◌≡◌, ◌≢◌, ℕ, ◌+◌, ◌*◌, ◌/◌, ◌%◌, ◌^◌, ◌<◌, ◌≤◌, true, List, [], Option, Some, None, option_map}
use Rattle.std.proofs.Common.{refl, sym, ap, ◌∙◌, subst, arith}
use Rattle.std.proofs.lemmas.Bool.{le-leb}
use Rattle.std.proofs.lemmas.Bool.Decides.{nat_tests}
use Rattle.mv_machine.specs.declared.entry.Entry.{Entry}
use Rattle.mv_machine.specs.declared.entry.Object.{Object}
use Rattle.mv_machine.specs.declared.entry.Object.TheVariants.{Ecb, Element, Volume, Latches}
use Rattle.mv_machine.specs.declared.packing.WordState.{WordState}
use Rattle.mv_machine.specs.declared.packing.WordState.TheVariants as state
use Rattle.mv_config.specs.Check.{IsValid, first_limit}
use Rattle.mv_machine.specs.Elements.{FitsItsPlace}
use Rattle.mv_machine.specs.Legal.{Legal, SameAt, after}
use Rattle.mv_machine.specs.Packing.{pack, unpack, state_in, state_at, word_at}
use Rattle.mv_config.specs.Setup.{Setup, element_count}
use Rattle.mv_machine.specs.System.{System, place_of}
use Rattle.mv_machine.proofs.ElementRuns.{generation_fits}
use Rattle.mv_config.proofs.Validity.{no_bad_limit, callers_kept, elements_kept}
use Rattle.mv_board.specs.Words.{HasWord, word_number, word_count, turn_word, object_of, fits}

-- ---- which word is which object's

pub volumes_kept : (c : Setup) → IsValid c → (1 ≤ c.volumes) × (c.volumes ≤ 8)
volumes_kept c v = let f : first_limit c ≡ None = no_bad_limit c v in grind arith

product_within : (a b : ℕ) → a ≤ 16 → b ≤ 16 → a * b ≤ 256
product_within a b p q = grind arith

elements_few : (c : Setup) → IsValid c → element_count c ≤ 256
elements_few c v = let a = callers_kept c v in let b = elements_kept c v in product_within c.callers c.elements_per_caller a.1 b.1

volume_again : (n : ℕ) → n < 8 → object_of n ≡ Volume n
volume_again n lt = grind (arith, nat_tests)

element_again : (n : ℕ) → n < 256 → object_of (8 + n) ≡ Element n
element_again n lt = grind (arith, nat_tests)

ecb_again : (n : ℕ) → object_of (265 + n) ≡ Ecb n
ecb_again n = grind (arith, nat_tests)

pub object_again : (c : Setup) (o : Object) → IsValid c → HasWord c o → object_of (word_number o) ≡ o
object_again c (Ecb n) v has = ecb_again n
object_again c (Element n) v has = let few : element_count c ≤ 256 = elements_few c v in element_again n (omega arith)
object_again c (Volume n) v has = let few = volumes_kept c v in volume_again n (omega arith)
object_again c Latches v has = absurd has

pub one_number : (c : Setup) (o q : Object) → IsValid c → HasWord c o → HasWord c q → word_number o ≡ word_number q → o ≡ q
one_number c o q v has there e = sym (object_again c o v has) ∙ (ap object_of e ∙ object_again c q v there)

pub not_turn : (c : Setup) (o : Object) → IsValid c → HasWord c o → turn_word ≢ word_number o
not_turn c (Ecb n) v has = λ e. absurd (omega arith)
not_turn c (Element n) v has = let few : element_count c ≤ 256 = elements_few c v in λ e. absurd (omega arith)
not_turn c (Volume n) v has = let few = volumes_kept c v in λ e. absurd (omega arith)
not_turn c Latches v has = absurd has

pub in_table : (c : Setup) (o : Object) → IsValid c → HasWord c o → word_number o < word_count c
in_table c (Ecb n) v has = omega arith
in_table c (Element n) v has = let few : element_count c ≤ 256 = elements_few c v in omega arith
in_table c (Volume n) v has = let few = volumes_kept c v in omega arith
in_table c Latches v has = absurd has

pub no_latches : (c : Setup) (o : Object) → HasWord c o → o ≢ Latches
no_latches c (Ecb n) has = λ e. cc
no_latches c (Element n) has = λ e. cc
no_latches c (Volume n) has = λ e. cc
no_latches c Latches has = absurd has

-- ---- the word of an object

pub state_there : (c : Setup) (m : System) (o : Object) → HasWord c o → (x : WordState) × (state_at m o ≡ Some x)
state_there c m (Ecb n) has = (state.Ecb (m.ecb n).state, refl)
state_there c m (Element n) has = (state.Element (m.element n).state, refl)
state_there c m (Volume n) has = (state.Volume (m.volume n).state, refl)
state_there c m Latches has = absurd has

pub word_by_state : (m : System) (o : Object) (x : WordState) → state_at m o ≡ Some x → word_at m o ≡ pack (place_of m o) x
word_by_state m (Ecb n) x e = let y : state.Ecb (m.ecb n).state ≡ x = cc in ap (pack (m.ecb n).place) y
word_by_state m (Element n) x e = let y : state.Element (m.element n).state ≡ x = cc in ap (pack (m.element n).place) y
word_by_state m (Volume n) x e = let y : state.Volume (m.volume n).state ≡ x = cc in ap (pack (m.volume n).place) y
word_by_state m Latches x e = absurd (cc e)

pub same_word : (o : Object) (s t : System) → SameAt o s t → word_at s o ≡ word_at t o
same_word (Ecb n) s t same = ap (λ z. pack z.place (state.Ecb z.state)) same
same_word (Element n) s t same = ap (λ z. pack z.place (state.Element z.state)) same
same_word (Volume n) s t same = ap (λ z. pack z.place (state.Volume z.state)) same
same_word Latches s t same = refl

pub fitting : (c : Setup) (es : List Entry) (o : Object) (x : WordState) → Legal c es → state_at (after c es) o ≡ Some x
    → fits (place_of (after c es) o) x ≡ true
fitting c es (Ecb n) x l e = let y : state.Ecb ((after c es).ecb n).state ≡ x = cc in
    subst (λ z. fits ((after c es).ecb n).place z ≡ true) y refl
fitting c es (Element n) x l e =
    let y : state.Element ((after c es).element n).state ≡ x = cc in
    let f : FitsItsPlace ((after c es).element n) = generation_fits c es n l in
    subst (λ z. fits ((after c es).element n).place z ≡ true) y (le-leb _ _ f)
fitting c es (Volume n) x l e = let y : state.Volume ((after c es).volume n).state ≡ x = cc in
    subst (λ z. fits ((after c es).volume n).place z ≡ true) y refl
fitting c es Latches x l e = absurd (cc e)

pub zero_words : (c : Setup) (o : Object) → word_at (after c []) o ≡ 0
zero_words c (Ecb n) = refl
zero_words c (Element n) = refl
zero_words c (Volume n) = refl
zero_words c Latches = refl

-- the place that a word stands for
place_above : (w q : ℕ) (x : WordState) (found : Option WordState) → option_map {U = ℕ × WordState} (λ s. (w / 2 ^ 45, s)) found ≡ Some
    (q, x) → w / 2 ^ 45 ≡ q
place_above w q x None e = absurd (cc e)
place_above w q x (Some s) e = let t : ◌≡◌ {A = ℕ × WordState} (w / 2 ^ 45, s) (q, x) = cc e in ap (λ (z : ℕ × WordState). z.0) t

pub unpacked_place : (o : Object) (w q : ℕ) (x : WordState) → unpack o w ≡ Some (q, x) → w / 2 ^ 45 ≡ q
unpacked_place o w q x e = place_above w q x (state_in o (w % 2 ^ 45)) e
