-- What was read has its numbers in their ranges.
use Rattle.std.proofs.Common.{◌≡◌, ℕ, ◌+◌, ◌*◌, ◌<◌, ◌≤◌, Bool, true, false, List, [], ◌∷◌, length, take, drop, Option, Some, None}
use Rattle.std.proofs.Common.{Ok, Err, refl, subst, arith, bytes_eq, if◌then◌else◌}
use Rattle.std.specs.Prelude.{nat_lt, codes}
use Rattle.std.specs.List.{AllByRecursion, position}
use Rattle.mv_ecb.specs.Table.{code_limit}
use Rattle.mv_element.specs.declared.element.Token.{Token}
use Rattle.mv_element.specs.Table.{release_limit}
use Rattle.mv_latch.specs.declared.request.LatchForm.{LatchForm}
use Rattle.mv_latch.specs.declared.request.LatchForm.TheVariants.{Conditional, Waiting, Posted}
use Rattle.mv_latch.specs.declared.request.Mode.{Mode}
use Rattle.mv_line.specs.Byte.{is_within}
use Rattle.mv_line.specs.Field.{fields_of}
use Rattle.mv_line.specs.Line.{begins_with_space}
use Rattle.mv_line.specs.Number.{is_digits, number_of}
use Rattle.mv_config.specs.Limits.{highest_place, highest_generation}
use Rattle.mv_scriptline.specs.declared.call.Call.{Call}
use Rattle.mv_scriptline.specs.declared.call.Call.TheVariants as call
use Rattle.mv_scriptline.specs.Sizes.{SizesFace}
use Rattle.mv_scriptline.specs.declared.statement.Statement.{Statement}
use Rattle.mv_scriptline.specs.declared.statement.Statement.TheVariants as statement
use Rattle.mv_scriptline.specs.declared.words.Misread.TheVariants.{NoForm, BadNumber}
use Rattle.mv_scriptline.specs.Limits.{most_tasks, most_targets, most_waited, highest_count, highest_latch, elements_per_task, volumes}
use Rattle.mv_scriptline.specs.Operand.{passed, number, below, number_of_tasks, task, ecb, element, volume, latch, count, ecb_code}
use Rattle.mv_scriptline.specs.Operand.{release_code, place, any_number, requestor, is_point, parted, token, or_hyphen, mode, conditional}
use Rattle.mv_scriptline.specs.Operand.{event, event_position, event_count, position_count}
use Rattle.mv_script.specs.Sound.{IsEcb, IsElement, IsToken, IfThere, HasEcb, HasGoodNumbers, IsGoodStatement}
use Rattle.mv_scriptline.specs.Statement.{wait, form, obtain, table_call, latch_call, element_call, other_call, call_of, exit, table, stated}
use Rattle.mv_scriptline.specs.Statement.{words_state, text_states}
use Rattle.mv_scriptline.specs.Words.{Read, making, both, each, none, one, two, three, led_by}

-- so it is of what was read, where it was
abbrev pub IfRead : {A : Type 0} → (A → Type 0) → Read A → Type 0
IfRead P (Ok a) = P a
IfRead P (Err why) = Unit {0}

-- ---- the ways to read

-- a choice of two
chosen : {A : Type 0} (P : A → Type 0) (b : Bool) (r s : Read A) → IfRead P r → IfRead P s → IfRead P (if b then r else s)
chosen P true r s h k = h
chosen P false r s h k = k

-- what is made of it
made : {A B : Type 0} (P : B → Type 0) (f : A → B) (r : Read A) → IfRead (λ a. P (f a)) r → IfRead P (making f r)
made P f (Ok a) h = h
made P f (Err why) h = tt

-- less is said
less : {A : Type 0} (P Q : A → Type 0) (r : Read A) → ((a : A) → P a → Q a) → IfRead P r → IfRead Q r
less P Q (Ok a) f h = f a h
less P Q (Err why) f h = tt

-- nothing is said
nothing : {A : Type 0} (r : Read A) → IfRead (λ (a : A). Unit {0}) r
nothing (Ok a) = tt
nothing (Err why) = tt

-- two values
two_values : {A B : Type 0} (P : A → Type 0) (Q : B → Type 0) (r : Read A) (s : Read B) → IfRead P r → IfRead Q s
    → IfRead (λ (p : A × B). P p.0 × Q p.1) (both r s)
two_values P Q (Ok a) (Ok b) h k = (h, k)
two_values P Q (Ok a) (Err why) h k = tt
two_values P Q (Err why) (Ok b) h k = tt
two_values P Q (Err why) (Err other) h k = tt

-- a value for each word
all_values : {A : Type 0} (P : A → Type 0) (f : List ℕ → Read A) → ((word : List ℕ) → IfRead P (f word)) → (words : List (List ℕ))
    → IfRead (λ xs. (length xs ≡ length words) × AllByRecursion P xs) (each f words)
all_values P f h [] = (refl, tt)
all_values {A = A} P f h (word ∷ words) =
    made (λ xs. (length xs ≡ length (word ∷ words)) × AllByRecursion P xs) (λ (p : A × List A). p.0 ∷ p.1) (both (f word) (each f words))
    (less (λ (p : A × List A). P p.0 × ((length p.1 ≡ length words) × AllByRecursion P p.1))
    (λ (p : A × List A). (length (p.0 ∷ p.1) ≡ length (word ∷ words)) × AllByRecursion P (p.0 ∷ p.1)) (both (f word) (each f words))
    (λ p k. (omega (arith, k.1.0), (k.0, k.1.1)))
    (two_values P (λ xs. (length xs ≡ length words) × AllByRecursion P xs) (f word) (each f words) (h word) (all_values P f h words)))

-- a word, and others behind it
led_values : {A B : Type 0} (P : A → Type 0) (Q : B → Type 0) (f : List ℕ → Read A) (g : List (List ℕ) → Read B)
    → ((word : List ℕ) → IfRead P (f word)) → ((words : List (List ℕ)) → IfRead Q (g words)) → (words : List (List ℕ))
    → IfRead (λ (p : A × B). P p.0 × Q p.1) (led_by f g words)
led_values P Q f g h k [] = tt
led_values P Q f g h k (word ∷ words) = two_values P Q (f word) (g words) (h word) (k words)

-- one word
of_one : {A : Type 0} (P : A → Type 0) (f : List ℕ → Read A) → ((word : List ℕ) → IfRead P (f word)) → (words : List (List ℕ))
    → IfRead P (one f words)
of_one P f h [] = tt
of_one P f h (word ∷ []) = h word
of_one P f h (word ∷ other ∷ words) = tt

-- two words
of_two : {A B : Type 0} (P : A → Type 0) (Q : B → Type 0) (f : List ℕ → Read A) (g : List ℕ → Read B)
    → ((word : List ℕ) → IfRead P (f word)) → ((word : List ℕ) → IfRead Q (g word)) → (words : List (List ℕ))
    → IfRead (λ (p : A × B). P p.0 × Q p.1) (two f g words)
of_two P Q f g h k [] = tt
of_two P Q f g h k (v ∷ []) = tt
of_two P Q f g h k (v ∷ w ∷ []) = two_values P Q (f v) (g w) (h v) (k w)
of_two P Q f g h k (v ∷ w ∷ x ∷ words) = tt

-- three words
of_three : {A B C : Type 0} (P : A → Type 0) (Q : B → Type 0) (R : C → Type 0) (f : List ℕ → Read A) (g : List ℕ → Read B)
    (e : List ℕ → Read C) → ((word : List ℕ) → IfRead P (f word)) → ((word : List ℕ) → IfRead Q (g word))
    → ((word : List ℕ) → IfRead R (e word)) → (words : List (List ℕ))
    → IfRead (λ (p : A × (B × C)). P p.0 × (Q p.1.0 × R p.1.1)) (three f g e words)
of_three P Q R f g e h k l [] = tt
of_three P Q R f g e h k l (v ∷ []) = tt
of_three P Q R f g e h k l (v ∷ w ∷ []) = tt
of_three {B = B} {C = C} P Q R f g e h k l (v ∷ w ∷ x ∷ []) =
    two_values P (λ (p : B × C). Q p.0 × R p.1) (f v) (both (g w) (e x)) (h v) (two_values Q R (g w) (e x) (k w) (l x))
of_three P Q R f g e h k l (v ∷ w ∷ x ∷ y ∷ words) = tt

-- ---- operands

-- a number passes its test
number_passes : (p : ℕ → Bool) (word : List ℕ) → IfRead (λ n. p n ≡ true) (number p word)
number_passes p word = go (is_digits word) (number_of word) where
  test : (n : ℕ) (b : Bool) → p n ≡ b → IfRead (λ n. p n ≡ true) (if b then Ok n else Err BadNumber)
  test n true e = e
  test n false e = tt

  go : (b : Bool) (shown : Option ℕ) → IfRead (λ n. p n ≡ true) (if b then passed p shown else Err NoForm)
  go false shown = tt
  go true None = tt
  go true (Some n) = test n (p n) refl

is_below : (n limit : ℕ) → nat_lt n limit ≡ true → n < limit
is_below n limit e = grind arith

-- a number below a limit
below_limit : (limit : ℕ) (word : List ℕ) → IfRead (λ n. n < limit) (below limit word)
below_limit limit word =
    less (λ n. nat_lt n limit ≡ true) (λ n. n < limit) (below limit word) (λ n e. is_below n limit e)
    (number_passes (λ n. nat_lt n limit) word)

-- at most so much
up_to : (most : ℕ) (word : List ℕ) → IfRead (λ n. n ≤ most) (below (most + 1) word)
up_to most word = less (λ n. n < most + 1) (λ n. n ≤ most) (below (most + 1) word) (λ n e. omega (arith, e)) (below_limit (most + 1) word)

some_tasks : (n : ℕ) → is_within 1 most_tasks n ≡ true → (1 ≤ n) × (n ≤ most_tasks)
some_tasks n e = (grind arith, grind arith)

-- one to eight tasks
tasks_good : (word : List ℕ) → IfRead (λ t. (1 ≤ t) × (t ≤ most_tasks)) (number_of_tasks word)
tasks_good word =
    less (λ t. is_within 1 most_tasks t ≡ true) (λ t. (1 ≤ t) × (t ≤ most_tasks)) (number_of_tasks word) some_tasks
    (number_passes (is_within 1 most_tasks) word)

module _ (z : SizesFace) where
  -- a token
  token_good : (word : List ℕ) → IfRead (IsToken z) (token z word)
  token_good word = go (position is_point word) where
    go : (point : Option ℕ) → IfRead (IsToken z) (parted z word point)
    go None = tt
    go (Some point) =
        made (IsToken z) (λ (p : ℕ × ℕ). record { element = p.0; generation = p.1 })
        (both (element z (take point word)) (below highest_generation (drop (point + 1) word)))
        (two_values (IsElement z) (λ g. g < highest_generation) (element z (take point word))
        (below highest_generation (drop (point + 1) word)) (below_limit (elements_per_task * z.tasks) (take point word))
        (below_limit highest_generation (drop (point + 1) word)))

  -- a value or a hyphen
  hyphen_good : {A : Type 0} (P : A → Type 0) (f : List ℕ → Read A) → ((word : List ℕ) → IfRead P (f word)) → (word : List ℕ)
      → IfRead (IfThere P) (or_hyphen f word)
  hyphen_good {A = A} P f h word =
      chosen (IfThere P) (bytes_eq word (codes "-")) (Ok None) (making (λ (a : A). Some a) (f word)) tt
      (made (IfThere P) (λ (a : A). Some a) (f word) (h word))

  -- what becomes of a request
  form_good : (words : List (List ℕ)) → IfRead (HasEcb z) (form z words)
  form_good [] = tt
  form_good (word ∷ []) =
      chosen (HasEcb z) (bytes_eq word (codes "COND")) (Ok Conditional) _ tt
      (chosen (HasEcb z) (bytes_eq word (codes "WAIT")) (Ok Waiting) (Err NoForm) tt tt)
  form_good (word ∷ block ∷ []) =
      chosen (HasEcb z) (bytes_eq word (codes "ECB")) (making (λ e. Posted e) (ecb z block)) (Err NoForm)
      (made (HasEcb z) (λ e. Posted e) (ecb z block) (below_limit z.ecbs block)) tt
  form_good (word ∷ block ∷ other ∷ words) = tt

  -- ---- calls

  abbrev Good : Call → Type 0
  Good c = HasGoodNumbers z c

  few_waited : (n : ℕ) → nat_lt most_waited n ≡ false → n ≤ most_waited
  few_waited n e = grind arith

  wait_good : (words : List (List ℕ)) → IfRead Good (wait z words)
  wait_good [] = tt
  wait_good (n ∷ ecbs) = go (nat_lt most_waited (length ecbs)) refl where
    read : Read Call
    read = making (λ (p : ℕ × List ℕ). call.Wait p.0 p.1) (both (count n) (each (ecb z) ecbs))

    go : (b : Bool) → nat_lt most_waited (length ecbs) ≡ b → IfRead Good (if b then Err NoForm else read)
    go true e = tt
    go false e =
        made Good (λ (p : ℕ × List ℕ). call.Wait p.0 p.1) (both (count n) (each (ecb z) ecbs))
        (less (λ (p : ℕ × List ℕ). (p.0 ≤ highest_count) × ((length p.1 ≡ length ecbs) × AllByRecursion (IsEcb z) p.1))
        (λ (p : ℕ × List ℕ). Good (call.Wait p.0 p.1)) (both (count n) (each (ecb z) ecbs))
        (λ p h. (h.0, (omega (arith, h.1.0, few_waited (length ecbs) e), h.1.1)))
        (two_values (λ m. m ≤ highest_count) (λ xs. (length xs ≡ length ecbs) × AllByRecursion (IsEcb z) xs) (count n)
        (each (ecb z) ecbs) (up_to highest_count n) (all_values (IsEcb z) (ecb z) (λ word. below_limit z.ecbs word) ecbs)))

  obtain_good : (words : List (List ℕ)) → IfRead Good (obtain z words)
  obtain_good words =
      let all = led_by latch (led_by requestor (led_by mode (form z))) in
      made Good (λ (p : ℕ × (ℕ × (Mode × LatchForm))). call.Obtain p.0 p.1.0 p.1.1.0 p.1.1.1) (all words)
      (less (λ (p : ℕ × (ℕ × (Mode × LatchForm))). (p.0 ≤ highest_latch) × (Unit {0} × (Unit {0} × HasEcb z p.1.1.1)))
      (λ (p : ℕ × (ℕ × (Mode × LatchForm))). Good (call.Obtain p.0 p.1.0 p.1.1.0 p.1.1.1)) (all words) (λ p h. (h.0, h.1.1.1))
      (led_values (λ n. n ≤ highest_latch) (λ (p : ℕ × (Mode × LatchForm)). Unit {0} × (Unit {0} × HasEcb z p.1.1)) latch
      (led_by requestor (led_by mode (form z))) (up_to highest_latch)
      (led_values (λ (n : ℕ). Unit {0}) (λ (p : Mode × LatchForm). Unit {0} × HasEcb z p.1) requestor (led_by mode (form z))
      (λ word. nothing (requestor word))
      (led_values (λ (n : Mode). Unit {0}) (HasEcb z) mode (form z) (λ word. nothing (mode word)) form_good)) words))

  table_good : (word : List ℕ) (words : List (List ℕ)) → IfRead Good (table_call z word words)
  table_good word words =
      chosen Good (bytes_eq word (codes "EVPOST")) (making (λ (p : ℕ × ℕ). call.PostEvent p.0 p.1) (two (event z) ecb_code words)) _
      (made Good (λ (p : ℕ × ℕ). call.PostEvent p.0 p.1) (two (event z) ecb_code words)
      (of_two (λ i. i < event_count z.table) (λ n. n < code_limit) (event z) ecb_code
      (λ word. below_limit (event_count z.table) word) (λ word. below_limit code_limit word) words))
      (chosen Good (bytes_eq word (codes "EVNEXT")) (making (λ k. call.NextEvent k) (one (event_position z) words)) (Err NoForm)
      (made Good (λ k. call.NextEvent k) (one (event_position z) words)
      (of_one (λ k. k < position_count z.table) (event_position z) (λ word. below_limit (position_count z.table) word) words))
      tt)

  latch_good : (word : List ℕ) (words : List (List ℕ)) → IfRead Good (latch_call z word words)
  latch_good word words =
      chosen Good (bytes_eq word (codes "OBTAIN")) (obtain z words) _ (obtain_good words)
      (chosen Good (bytes_eq word (codes "CHECK")) (making (λ k. call.Check k) (one any_number words)) _
      (made Good (λ k. call.Check k) (one any_number words) (nothing (one any_number words)))
      (chosen Good (bytes_eq word (codes "FREE")) (making (λ (p : ℕ × Bool). call.Free p.0 p.1) (two any_number conditional words)) _
      (made Good (λ (p : ℕ × Bool). call.Free p.0 p.1) (two any_number conditional words) (nothing (two any_number conditional words)))
      (chosen Good (bytes_eq word (codes "PURGE")) (making (λ r. call.Purge r) (one requestor words)) _
      (made Good (λ r. call.Purge r) (one requestor words) (nothing (one requestor words)))
      (chosen Good (bytes_eq word (codes "EOT"))
      (making (λ (p : ℕ × (Option ℕ × ℕ)). call.EndTask p.0 p.1.0 p.1.1) (three requestor (or_hyphen (ecb z)) ecb_code words)) _
      (made Good (λ (p : ℕ × (Option ℕ × ℕ)). call.EndTask p.0 p.1.0 p.1.1) (three requestor (or_hyphen (ecb z)) ecb_code words)
      (less (λ (p : ℕ × (Option ℕ × ℕ)). Unit {0} × (IfThere (IsEcb z) p.1.0 × (p.1.1 < code_limit)))
      (λ (p : ℕ × (Option ℕ × ℕ)). Good (call.EndTask p.0 p.1.0 p.1.1)) (three requestor (or_hyphen (ecb z)) ecb_code words)
      (λ p h. h.1)
      (of_three (λ (n : ℕ). Unit {0}) (IfThere (IsEcb z)) (λ n. n < code_limit) requestor (or_hyphen (ecb z)) ecb_code
      (λ word. nothing (requestor word)) (λ word. hyphen_good (IsEcb z) (ecb z) (λ word. below_limit z.ecbs word) word)
      (λ word. below_limit code_limit word) words)))
      (table_good word words)))))

  element_good : (word : List ℕ) (words : List (List ℕ)) → IfRead Good (element_call z word words)
  element_good word words =
      chosen Good (bytes_eq word (codes "ALLOC")) (none call.Alloc words) _ (alloc_good words)
      (chosen Good (bytes_eq word (codes "PAUSE")) (making (λ t. call.Pause t) (one (token z) words)) _
      (made Good (λ t. call.Pause t) (one (token z) words) (of_one (IsToken z) (token z) token_good words))
      (chosen Good (bytes_eq word (codes "RELEASE")) (making (λ (p : Token × ℕ). call.Release p.0 p.1) (two (token z) release_code words)) _
      (made Good (λ (p : Token × ℕ). call.Release p.0 p.1) (two (token z) release_code words)
      (of_two (IsToken z) (λ n. n < release_limit) (token z) release_code token_good (λ word. below_limit release_limit word) words))
      (chosen Good (bytes_eq word (codes "TRYRELEASE"))
      (making (λ (p : Token × (ℕ × ℕ)). call.TryRelease p.0 p.1.0 p.1.1) (three (token z) place release_code words)) _
      (made Good (λ (p : Token × (ℕ × ℕ)). call.TryRelease p.0 p.1.0 p.1.1) (three (token z) place release_code words)
      (of_three (IsToken z) (λ n. n ≤ highest_place) (λ n. n < release_limit) (token z) place release_code token_good
      (λ word. up_to highest_place word) (λ word. below_limit release_limit word) words))
      (chosen Good (bytes_eq word (codes "TRANSFER"))
      (making (λ (p : Option Token × (Token × ℕ)). call.Transfer p.0 p.1.0 p.1.1)
      (three (or_hyphen (token z)) (token z) release_code words)) _
      (made Good (λ (p : Option Token × (Token × ℕ)). call.Transfer p.0 p.1.0 p.1.1)
      (three (or_hyphen (token z)) (token z) release_code words)
      (of_three (IfThere (IsToken z)) (IsToken z) (λ n. n < release_limit) (or_hyphen (token z)) (token z) release_code
      (λ word. hyphen_good (IsToken z) (token z) token_good word) token_good (λ word. below_limit release_limit word) words))
      (chosen Good (bytes_eq word (codes "DEALLOC")) (making (λ t. call.Dealloc t) (one (token z) words)) _
      (made Good (λ t. call.Dealloc t) (one (token z) words) (of_one (IsToken z) (token z) token_good words))
      (chosen Good (bytes_eq word (codes "TESTP")) (making (λ n. call.TestElement n) (one (element z) words)) _
      (made Good (λ n. call.TestElement n) (one (element z) words)
      (of_one (IsElement z) (element z) (λ word. below_limit (elements_per_task * z.tasks) word) words))
      (latch_good word words)))))))
    where
      alloc_good : (words : List (List ℕ)) → IfRead Good (none call.Alloc words)
      alloc_good [] = tt
      alloc_good (w ∷ words) = tt

  other_good : (word : List ℕ) (words : List (List ℕ)) → IfRead Good (other_call z word words)
  other_good word words =
      chosen Good (bytes_eq word (codes "POST")) (making (λ (p : ℕ × ℕ). call.Post p.0 p.1) (two (ecb z) ecb_code words)) _
      (made Good (λ (p : ℕ × ℕ). call.Post p.0 p.1) (two (ecb z) ecb_code words)
      (of_two (IsEcb z) (λ n. n < code_limit) (ecb z) ecb_code block (λ word. below_limit code_limit word) words))
      (chosen Good (bytes_eq word (codes "TRYPOST"))
      (making (λ (p : ℕ × (ℕ × ℕ)). call.TryPost p.0 p.1.0 p.1.1) (three (ecb z) place ecb_code words)) _
      (made Good (λ (p : ℕ × (ℕ × ℕ)). call.TryPost p.0 p.1.0 p.1.1) (three (ecb z) place ecb_code words)
      (of_three (IsEcb z) (λ n. n ≤ highest_place) (λ n. n < code_limit) (ecb z) place ecb_code block
      (λ word. up_to highest_place word) (λ word. below_limit code_limit word) words))
      (chosen Good (bytes_eq word (codes "CLEAR")) (making (λ e. call.Clear e) (one (ecb z) words)) _
      (made Good (λ e. call.Clear e) (one (ecb z) words) (of_one (IsEcb z) (ecb z) block words))
      (chosen Good (bytes_eq word (codes "EXTEND")) (making (λ (p : ℕ × ℕ). call.Extend p.0 p.1) (two (ecb z) any_number words)) _
      (made Good (λ (p : ℕ × ℕ). call.Extend p.0 p.1) (two (ecb z) any_number words)
      (less (λ (p : ℕ × ℕ). IsEcb z p.0 × Unit {0}) (λ (p : ℕ × ℕ). Good (call.Extend p.0 p.1)) (two (ecb z) any_number words) (λ p h. h.0)
      (of_two (IsEcb z) (λ (n : ℕ). Unit {0}) (ecb z) any_number block (λ word. nothing (any_number word)) words)))
      (chosen Good (bytes_eq word (codes "TEST")) (making (λ e. call.Test e) (one (ecb z) words)) _
      (made Good (λ e. call.Test e) (one (ecb z) words) (of_one (IsEcb z) (ecb z) block words))
      (chosen Good (bytes_eq word (codes "READ")) (making (λ v. call.Read v) (one volume words)) _
      (made Good (λ v. call.Read v) (one volume words) (of_one (λ n. n < volumes) volume (λ word. below_limit volumes word) words))
      (chosen Good (bytes_eq word (codes "WRITE")) (making (λ (p : ℕ × ℕ). call.Write p.0 p.1) (two volume any_number words)) _
      (made Good (λ (p : ℕ × ℕ). call.Write p.0 p.1) (two volume any_number words)
      (less (λ (p : ℕ × ℕ). (p.0 < volumes) × Unit {0}) (λ (p : ℕ × ℕ). Good (call.Write p.0 p.1)) (two volume any_number words)
      (λ p h. h.0)
      (of_two (λ n. n < volumes) (λ (n : ℕ). Unit {0}) volume any_number (λ word. below_limit volumes word)
      (λ word. nothing (any_number word)) words)))
      (element_good word words)))))))
    where
      block : (word : List ℕ) → IfRead (IsEcb z) (ecb z word)
      block word = below_limit z.ecbs word

  call_good : (word : List ℕ) (words : List (List ℕ)) → IfRead Good (call_of z word words)
  call_good word words =
      chosen Good (bytes_eq word (codes "WAIT")) (wait z words) (other_call z word words) (wait_good words) (other_good word words)

  -- ---- lines

  abbrev GoodLine : Statement → Type 0
  GoodLine s = IsGoodStatement z s

  some_targets : (n : ℕ) → is_within 1 most_targets n ≡ true → (1 ≤ n) × (n ≤ most_targets)
  some_targets n e = (grind arith, grind arith)

  exit_good : (words : List (List ℕ)) → IfRead GoodLine (exit z words)
  exit_good [] = tt
  exit_good (source ∷ targets) = go (is_within 1 most_targets (length targets)) refl where
    read : Read Statement
    read = making (λ (p : ℕ × List ℕ). statement.Exit p.0 p.1) (both (ecb z source) (each (ecb z) targets))

    go : (b : Bool) → is_within 1 most_targets (length targets) ≡ b → IfRead GoodLine (if b then read else Err NoForm)
    go false e = tt
    go true e =
        let few = some_targets (length targets) e in
        made GoodLine (λ (p : ℕ × List ℕ). statement.Exit p.0 p.1) (both (ecb z source) (each (ecb z) targets))
        (less (λ (p : ℕ × List ℕ). IsEcb z p.0 × ((length p.1 ≡ length targets) × AllByRecursion (IsEcb z) p.1))
        (λ (p : ℕ × List ℕ). GoodLine (statement.Exit p.0 p.1)) (both (ecb z source) (each (ecb z) targets))
        (λ p h. (h.0, (omega (arith, few.0, h.1.0), (omega (arith, few.1, h.1.0), h.1.1))))
        (two_values (IsEcb z) (λ xs. (length xs ≡ length targets) × AllByRecursion (IsEcb z) xs) (ecb z source) (each (ecb z) targets)
        (below_limit z.ecbs source) (all_values (IsEcb z) (ecb z) (λ word. below_limit z.ecbs word) targets)))

  -- a line without words of numbers
  plain_good : (s : Statement) → GoodLine s → (words : List (List ℕ)) → IfRead GoodLine (none s words)
  plain_good s h [] = h
  plain_good s h (w ∷ words) = tt

  stated_good : (word : List ℕ) (words : List (List ℕ)) → IfRead GoodLine (stated z word words)
  stated_good word words =
      chosen GoodLine (bytes_eq word (codes "SCRIPT")) (making (λ t. statement.Script t) (one number_of_tasks words)) _
      (made GoodLine (λ t. statement.Script t) (one number_of_tasks words)
      (of_one (λ t. (1 ≤ t) × (t ≤ most_tasks)) number_of_tasks tasks_good words))
      (chosen GoodLine (bytes_eq word (codes "ECB")) (making (λ k. statement.Ecb k) (one (task z) words)) _
      (made GoodLine (λ k. statement.Ecb k) (one (task z) words)
      (of_one (λ k. k < z.tasks) (task z) (λ word. below_limit z.tasks word) words))
      (chosen GoodLine (bytes_eq word (codes "EXIT")) (exit z words) _ (exit_good words)
      (chosen GoodLine (bytes_eq word (codes "TABLE")) (making (λ t. statement.Table t) (table z words)) _
      (made GoodLine (λ t. statement.Table t) (table z words) (nothing (table z words)))
      (chosen GoodLine (bytes_eq word (codes "TASK")) (none statement.Task words) _ (plain_good statement.Task tt words)
      (chosen GoodLine (bytes_eq word (codes "END")) (none statement.End words) _ (plain_good statement.End tt words)
      (made GoodLine (λ c. statement.Call c) (call_of z word words) (call_good word words)))))))

  words_good : (words : List (List ℕ)) → IfRead GoodLine (words_state z words)
  words_good [] = tt
  words_good (word ∷ words) = stated_good word words

  text_good : (text : List ℕ) → IfRead GoodLine (text_states z text)
  text_good text =
      chosen GoodLine (begins_with_space text) (Err NoForm) (words_state z (fields_of text)) tt (words_good (fields_of text))

  -- what a text states is good
  pub read_well : (text : List ℕ) (s : Statement) → text_states z text ≡ Ok s → IsGoodStatement z s
  read_well text s e = subst (λ (r : Read Statement). IfRead GoodLine r) e (text_good text)
