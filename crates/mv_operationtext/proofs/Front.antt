-- Whether a text begins with a word, byte by byte.
use Rattle.std.proofs.Common.{◌≡◌, ◌≢◌, ℕ, ◌<◌, Bool, true, false, cond, List, ◌++◌, length, take, drop, get_or, Some, None, refl, sym}
use Rattle.std.proofs.Common.{ap, ◌∙◌, inl, inr}
use Rattle.std.specs.Prelude.{nat_eq}
use Rattle.std.specs.List.{starts_with}
use Rattle.std.proofs.Math.ListN.{get_or-append}
use Rattle.std.proofs.Math.Seq.{take-length}
use Rattle.std.proofs.lemmas.Bool.{cases_Bool}
use Rattle.std.proofs.lemmas.Bool.Decides.{Decides-eqb}
use Rattle.std.proofs.lemmas.List.{take-append-drop, drop_at}
use Rattle.std.proofs.lemmas.Option.{same_Some}
use Rattle.std.proofs.lemmas.Slice.Eq.{starts_is}
use Rattle.mv_operationtext.specs.Reading.{after}

module _ (text word : List ℕ) where
  begins : (starts_with nat_eq text word ≡ true → text ≡ word ++ drop (length word) text)
      × ((rest : List ℕ) → text ≡ word ++ rest → starts_with nat_eq text word ≡ true)
  begins = starts_is Decides-eqb text word (starts_with nat_eq text word) refl

  -- where all of the word stands there, it does
  pub all_same : take (length word) text ≡ word → starts_with nat_eq text word ≡ true
  all_same e =
      begins.1 (drop (length word) text)
      (sym (take-append-drop (length word) text) ∙ ap (λ (x : List ℕ). x ++ drop (length word) text) e)

  -- as it does where so many bytes of both are the same
  pub whole_word : (count : ℕ) → count ≡ length word → take count text ≡ take count word → take (length word) text ≡ word
  whole_word count all same =
      ap (λ (n : ℕ). take n text) (sym all) ∙ same ∙ ap (λ (n : ℕ). take n word) all ∙ take-length word

  -- where a byte is another it does not
  pub one_other : (i : ℕ) → i < length word → get_or text i 0 ≢ get_or word i 0 → starts_with nat_eq text word ≡ false
  one_other i lt other = elim (cases_Bool (starts_with nat_eq text word)) [
    | inl is ↦
        absurd (other (ap (λ (x : List ℕ). get_or x i 0) (begins.0 is) ∙ get_or-append word (drop (length word) text) 0 i lt))
    | inr isnt ↦ isnt
  ]

-- what begins with a word is the word and what stands behind it
pub word_first : (word text rest : List ℕ) → after word text ≡ Some rest → text ≡ word ++ rest
unfolding after
word_first word text rest e = go (starts_with nat_eq text word) refl e where
  go : (b : Bool) → starts_with nat_eq text word ≡ b → cond b (Some (drop (length word) text)) None ≡ Some rest → text ≡ word ++ rest
  go true s h = (begins text word).0 s ∙ ap (λ (x : List ℕ). word ++ x) (same_Some (drop (length word) text) rest h)
  go false s h = absurd cc

-- and the word with something behind it begins with it
pub word_again : (word rest : List ℕ) → after word (word ++ rest) ≡ Some rest
unfolding after
word_again word rest = rw ((begins (word ++ rest) word).1 rest refl, drop_at word rest (length word) refl) refl
