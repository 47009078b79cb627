-- Reading the words of a line: into a value, or not, for one of two reasons.
use Rattle.std.specs.Prelude.{ℕ, List, [], ◌∷◌, Option, Some, None, option_map, unwrap_or, Result, Ok, Err}
use Rattle.mv_line.specs.Field.{one_of, two_of}
use Rattle.mv_scriptline.specs.declared.words.Misread.{Misread}
use Rattle.mv_scriptline.specs.declared.words.Misread.TheVariants.{NoForm, BadNumber}

-- the result of reading words as a value
abbrev pub Read : Type 0 → Type 0
Read A = Result A Misread

-- the worse of two reasons: that words fit no form, if one of them is that
abbrev pub worse : Misread → Misread → Misread
worse NoForm other = NoForm
worse BadNumber other = other

-- the worse of the reason so far, if there is one, and one more
abbrev pub worsened : Option Misread → Misread → Misread
worsened None why = why
worsened (Some before) why = worse before why

-- a function of a value, if the value was read
abbrev pub making : {A B : Type 0} → (A → B) → Read A → Read B
making f (Ok a) = Ok (f a)
making f (Err why) = Err why

-- both values, if both were read, otherwise the worse reason
abbrev pub both : {A B : Type 0} → Read A → Read B → Read (A × B)
both (Ok a) (Ok b) = Ok (a, b)
both (Ok a) (Err why) = Err why
both (Err why) (Ok b) = Err why
both (Err why) (Err other) = Err (worse why other)

-- the values of all words, if all were read; otherwise the worst reason
abbrev pub each : {A : Type 0} → (List ℕ → Read A) → List (List ℕ) → Read (List A)
each {A = A} f [] = Ok []
each {A = A} f (word ∷ words) = making (λ (p : A × List A). p.0 ∷ p.1) (both (f word) (each f words))

-- ---- a fixed number of words

-- a value that has no words
abbrev pub none : {A : Type 0} → A → List (List ℕ) → Read A
none a [] = Ok a
none a (word ∷ words) = Err NoForm

-- a value of exactly one word; any other number of words fits no form
abbrev pub one : {A : Type 0} → (List ℕ → Read A) → List (List ℕ) → Read A
one f words = unwrap_or (option_map f (one_of words)) (Err NoForm)

-- a pair of values of exactly two words
abbrev pub two : {A B : Type 0} → (List ℕ → Read A) → (List ℕ → Read B) → List (List ℕ) → Read (A × B)
two f g words = unwrap_or (option_map (λ p. both (f p.0) (g p.1)) (two_of words)) (Err NoForm)

-- the value of the first word, and that of the words after it
abbrev pub led_by : {A B : Type 0} → (List ℕ → Read A) → (List (List ℕ) → Read B) → List (List ℕ) → Read (A × B)
led_by f g [] = Err NoForm
led_by f g (word ∷ words) = both (f word) (g words)

-- the words of a list that has exactly three
abbrev pub three_of : List (List ℕ) → Option (List ℕ × (List ℕ × List ℕ))
three_of [] = None
three_of (first ∷ words) = option_map (λ p. (first, p)) (two_of words)

-- three values of exactly three words
abbrev pub three : {A B C : Type 0} → (List ℕ → Read A) → (List ℕ → Read B) → (List ℕ → Read C) → List (List ℕ)
    → Read (A × (B × C))
three f g h words = unwrap_or (option_map (λ p. both (f p.0) (both (g p.1.0) (h p.1.1))) (three_of words)) (Err NoForm)
