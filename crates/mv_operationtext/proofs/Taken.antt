-- What is read strictly is the text of its value, and what stands behind it.
use Rattle.std.proofs.Common.{◌≡◌, ℕ, ◌≤◌, Bool, true, false, cond, eqb, List, [], ◌++◌, length, take, drop, Option, Some, None}
use Rattle.std.proofs.Common.{decimal, refl, sym, ap, subst, ◌∙◌, arith, append_assoc}
use Rattle.std.specs.Option.{option_map, option_or, option_and_then}
use Rattle.std.proofs.lemmas.Bool.{eqb-true}
use Rattle.std.proofs.lemmas.List.{take-append-drop, append-nil, nil_from_length}
use Rattle.std.proofs.lemmas.Option.{same_Some}
use Rattle.mv_line.specs.Number.{number_of, within}
use Rattle.mv_operationtext.specs.Ranges.{highest_u32, highest_u64}
use Rattle.mv_operationtext.specs.Words.{◌<+>◌}
use Rattle.mv_operationtext.specs.Reading.{Reader, nothing, word, behind, ◌or◌, made, after, parted_at, parted_by, whole, digit_count}
use Rattle.mv_operationtext.specs.Reading.{shown_or_zero, number, any_u32, any_u64}
use Rattle.mv_operationtext.proofs.Digits.{shown_is}
use Rattle.mv_operationtext.proofs.Front.{word_first}
use Rattle.std.specs.Prelude.{codes}

-- a reader takes the text of its value from the front, and its values are fine
abbrev pub Takes : {A : Type 0} → (A → List ℕ) → (A → Type 0) → Reader A → Type 0
Takes {A} show Fine reader = (text rest : List ℕ) (a : A) → reader text ≡ Some (a, rest) → (text ≡ show a ++ rest) × Fine a

-- ---- readers put together

pub takes_nothing : {A : Type 0} (show : A → List ℕ) (Fine : A → Type 0) → Takes show Fine nothing
takes_nothing show Fine text rest a e = absurd cc

mapped : {A B : Type 0} (f : A → B) (o : Option (A × List ℕ)) (b : B) (rest : List ℕ)
    → option_map {U = B × List ℕ} (λ x. (f x.0, x.1)) o ≡ Some (b, rest) → (a : A) × (o ≡ Some (a, rest)) × (f a ≡ b)
mapped f None b rest e = absurd cc
mapped f (Some x) b rest e =
    let same : (f x.0, x.1) ≡ (b, rest) = same_Some (f x.0, x.1) (b, rest) e in
    (x.0, ap (λ (r : List ℕ). Some (x.0, r)) (ap (λ y. y.1) same), ap (λ y. y.0) same)

pub takes_made : {A B : Type 0} (show : B → List ℕ) (Fine : B → Type 0) (f : A → B) (part : A → List ℕ) (Good : A → Type 0)
    (reader : Reader A) → ((a : A) → Good a → part a ≡ show (f a)) → ((a : A) → Good a → Fine (f a)) → Takes part Good reader
    → Takes show Fine (made f reader)
takes_made show Fine f part Good reader is fine takes text rest b e =
    let m = mapped f (reader text) b rest e in
    let t = takes text rest m.0 m.1 in
    subst (λ x. (text ≡ show x ++ rest) × Fine x) m.2 (t.0 ∙ ap (λ (x : List ℕ). x ++ rest) (is m.0 t.1), fine m.0 t.1)

pub bound : {A B : Type 0} (f : A → Option B) (o : Option A) (b : B) → option_and_then f o ≡ Some b
    → (a : A) × (o ≡ Some a) × (f a ≡ Some b)
bound f None b e = absurd cc
bound f (Some a) b e = (a, refl, e)

pub takes_behind : {A : Type 0} (word : List ℕ) (show : A → List ℕ) (Fine : A → Type 0) (reader : Reader A) → Takes show Fine reader
    → Takes (λ a. word ++ show a) Fine (behind word reader)
unfolding behind
takes_behind word show Fine reader takes text rest a e =
    let b = bound reader (after word text) (a, rest) e in
    let t = takes b.0 rest a b.2 in
    (word_first word text b.0 b.1 ∙ ap (λ (x : List ℕ). word ++ x) t.0 ∙ sym (append_assoc word (show a) rest), t.1)

pub takes_parted_at : {A B : Type 0} (word : List ℕ) (first : Reader A) (second : A → Reader B) (show : A → List ℕ) (tell : B → List ℕ)
    (Fine : A → Type 0) (Good : A → B → Type 0) → Takes show Fine first → ((a : A) → Fine a → Takes tell (Good a) (second a))
    → Takes (λ p. show p.0 ++ (word ++ tell p.1)) (λ p. Fine p.0 × Good p.0 p.1) (parted_at word first second)
unfolding parted_at
takes_parted_at {A = A} {B = B} word first second show tell Fine Good one two text rest p e =
    let a =
    bound (λ x. option_map {U = (A × B) × List ℕ} (λ y. ((x.0, y.0), y.1)) (behind word (second x.0) x.1)) (first text) (p, rest) e in
    let x = a.0 in
    let m = mapped (λ y. (x.0, y)) (behind word (second x.0) x.1) p rest a.2 in
    let t = one text x.1 x.0 a.1 in
    let u = takes_behind word tell (Good x.0) (second x.0) (two x.0 t.1) x.1 rest m.0 m.1 in
    subst (λ q. (text ≡ (show q.0 ++ (word ++ tell q.1)) ++ rest) × (Fine q.0 × Good q.0 q.1)) m.2
    (t.0 ∙ ap (λ (y : List ℕ). show x.0 ++ y) u.0 ∙ sym (append_assoc (show x.0) (word ++ tell m.0) rest), (t.1, u.1))

-- with one space between
pub takes_parted : {A B : Type 0} (first : Reader A) (second : A → Reader B) (show : A → List ℕ) (tell : B → List ℕ) (Fine : A → Type 0)
    (Good : A → B → Type 0) → Takes show Fine first → ((a : A) → Fine a → Takes tell (Good a) (second a))
    → Takes (λ p. show p.0 <+> tell p.1) (λ p. Fine p.0 × Good p.0 p.1) (parted_by first second)
takes_parted first second show tell Fine Good one two = takes_parted_at (codes " ") first second show tell Fine Good one two

pub takes_whole : {A : Type 0} (show : A → List ℕ) (Fine : A → Type 0) (reader : Reader A) → Takes show Fine reader
    → (text : List ℕ) (a : A) → whole reader text ≡ Some a → (text ≡ show a) × Fine a
takes_whole {A = A} show Fine reader takes text a e =
    let b = bound (λ x. cond (eqb (length x.1) 0) (Some x.0) None) (reader text) a e in
    go b.0 (eqb (length b.0.1) 0) refl b.1 b.2 where
      go : (x : A × List ℕ) (t : Bool) → eqb (length x.1) 0 ≡ t → reader text ≡ Some x → cond t (Some x.0) None ≡ Some a
          → (text ≡ show a) × Fine a
      go x true s r h =
          let nil : x.1 ≡ [] = nil_from_length x.1 (eqb-true (length x.1) 0 s) in
          let t = takes text x.1 x.0 r in
          subst (λ y. (text ≡ show y) × Fine y) (same_Some x.0 a h)
          (t.0 ∙ ap (λ (r : List ℕ). show x.0 ++ r) nil ∙ append-nil (show x.0), t.1)
      go x false s r h = absurd cc

-- ---- numbers

front_is : (text ds : List ℕ) (n : ℕ) → ds ≡ take (digit_count text) text → decimal n ≡ ds
    → text ≡ decimal n ++ drop (digit_count text) text
front_is text ds n is d =
    sym (take-append-drop (digit_count text) text) ∙ ap (λ (x : List ℕ). x ++ drop (digit_count text) text) (sym is ∙ sym d)

pub takes_number : (low high : ℕ) → high ≤ highest_u64 → Takes decimal (λ n. (low ≤ n) × (n ≤ high)) (number true low high)
unfolding number
takes_number low high wide text rest n e =
    go (eqb (digit_count text) 0) (within low high (number_of (take (digit_count text) text))) refl e where
      go : (b : Bool) (o : Option ℕ) → within low high (number_of (take (digit_count text) text)) ≡ o
          → cond b None (shown_or_zero true (drop (digit_count text) text) o) ≡ Some (n, rest)
          → (text ≡ decimal n ++ rest) × ((low ≤ n) × (n ≤ high))
      go true o z h = absurd cc
      go false None z h = absurd cc
      go false (Some m) z h =
          let same : (m, drop (digit_count text) text) ≡ (n, rest) = same_Some (m, drop (digit_count text) text) (n, rest) h in
          let s = shown_is low high m (take (digit_count text) text) wide z in
          subst (λ x. (text ≡ decimal x.0 ++ x.1) × ((low ≤ x.0) × (x.0 ≤ high))) same (front_is text _ m refl s.0, (s.1, s.2))

pub takes_u32 : Takes decimal (λ n. n ≤ highest_u32) (any_u32 true)
takes_u32 text rest n e = let t = takes_number 0 highest_u32 (omega arith) text rest n e in (t.0, t.1.1)

pub takes_u64 : Takes decimal (λ n. n ≤ highest_u64) (any_u64 true)
takes_u64 text rest n e = let t = takes_number 0 highest_u64 (omega arith) text rest n e in (t.0, t.1.1)

-- ---- the forms of a kind of value, one behind the other

module _ {A : Type 0} (show : A → List ℕ) (Fine : A → Type 0) where
  pub takes_or : (one other : Reader A) → Takes show Fine one → Takes show Fine other → Takes show Fine (one or other)
  takes_or one other here there text rest a e = go (one text) refl e where
    go : (o : Option (A × List ℕ)) → one text ≡ o → option_or o (other text) ≡ Some (a, rest) → (text ≡ show a ++ rest) × Fine a
    go (Some x) s h = here text rest a (s ∙ h)
    go None s h = there text rest a h

  -- a word alone is one value
  pub takes_word : (its : List ℕ) (a : A) → its ≡ show a → Fine a → Takes show Fine (word its a)
  takes_word its a is fine text rest b e = go (after its text) refl e where
    go : (o : Option (List ℕ)) → after its text ≡ o → option_map {U = A × List ℕ} (λ r. (a, r)) o ≡ Some (b, rest)
        → (text ≡ show b ++ rest) × Fine b
    go (Some r) s h =
        let same : (a, r) ≡ (b, rest) = same_Some (a, r) (b, rest) h in
        subst (λ x. (text ≡ show x.0 ++ x.1) × Fine x.0) same (word_first its text r s ∙ ap (λ (w : List ℕ). w ++ r) is, fine)
    go None s h = absurd cc

  -- a word and a part behind it
  pub takes_part : (B : Type 0) (its : List ℕ) (f : B → A) (part : B → List ℕ) (Good : B → Type 0) (reader : Reader B)
      → ((b : B) → its ++ part b ≡ show (f b)) → ((b : B) → Good b → Fine (f b)) → Takes part Good reader
      → Takes show Fine (made f (behind its reader))
  takes_part B its f part Good reader is fine takes =
      takes_made show Fine f (λ b. its ++ part b) Good (behind its reader) (λ b h. is b) fine (takes_behind its part Good reader takes)

  -- a word and a number of four bytes behind it
  pub takes_number_behind : (its : List ℕ) (f : ℕ → A) → ((n : ℕ) → its ++ decimal n ≡ show (f n))
      → ((n : ℕ) → n ≤ highest_u32 → Fine (f n)) → Takes show Fine (made f (behind its (any_u32 true)))
  takes_number_behind its f is fine = takes_part ℕ its f decimal (λ n. n ≤ highest_u32) (any_u32 true) is fine takes_u32

  -- and each of them, or one of the other forms
  pub word_or : (its : List ℕ) (a : A) → its ≡ show a → Fine a → (other : Reader A) → Takes show Fine other
      → Takes show Fine (word its a or other)
  word_or its a is fine other there = takes_or (word its a) other (takes_word its a is fine) there

  pub part_or : (B : Type 0) (its : List ℕ) (f : B → A) (part : B → List ℕ) (Good : B → Type 0) (reader : Reader B)
      → ((b : B) → its ++ part b ≡ show (f b)) → ((b : B) → Good b → Fine (f b)) → Takes part Good reader → (other : Reader A)
      → Takes show Fine other → Takes show Fine (made f (behind its reader) or other)
  part_or B its f part Good reader is fine takes other there =
      takes_or (made f (behind its reader)) other (takes_part B its f part Good reader is fine takes) there

  pub u32_or : (its : List ℕ) (f : ℕ → A) → ((n : ℕ) → its ++ decimal n ≡ show (f n)) → ((n : ℕ) → n ≤ highest_u32 → Fine (f n))
      → (other : Reader A) → Takes show Fine other → Takes show Fine (made f (behind its (any_u32 true)) or other)
  u32_or its f is fine other there = takes_or (made f (behind its (any_u32 true))) other (takes_number_behind its f is fine) there
