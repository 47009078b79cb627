-- The requests of a slab, one after the other.
use Rattle.std.proofs.Common.{◌≡◌, ℕ, suc, ◌+◌, ◌≤◌, ◌||◌, nat_lt, Bool, true, false, List, [], ◌∷◌, length, filter, cond, count_by}
use Rattle.std.proofs.Common.{Option, Some, None, is_some, refl, sym, ap, ◌∙◌, arith}
use Rattle.std.specs.List.{list_any}
use Rattle.std.proofs.lemmas.Bool.{lt-ltb}
use Rattle.slab.specs.Slab.{entries_from}
use Rattle.mv_machine.specs.Kept.{StandingRequest}
use Rattle.mv_wait.specs.declared.keep.HeldRequest.{HeldRequest}
use Rattle.mv_wait.specs.Keep.{meets, request_of, AreHeld}
use Rattle.mv_wait.proofs.Slots.{cons, any_request, some_requests}

-- how many of these entries meet a test
abbrev pub counted : (StandingRequest → Bool) → List (ℕ × HeldRequest) → ℕ
counted test es = length (filter (λ e. test (request_of e.1)) es)

one_counted : (test : StandingRequest → Bool) (e : ℕ × HeldRequest) (es : List (ℕ × HeldRequest))
    → counted test (e ∷ es) ≡ cond {A = ℕ} (test (request_of e.1)) 1 0 + counted test es
one_counted test e es = go (test (request_of e.1)) where
  go : (b : Bool) → length (cond b (e ∷ filter (λ x. test (request_of x.1)) es) (filter (λ x. test (request_of x.1)) es))
      ≡ cond {A = ℕ} b 1 0 + counted test es
  go true = omega arith
  go false = omega arith

pub entries_count : (test : StandingRequest → Bool) (key : ℕ) (slots : List (Option HeldRequest))
    → counted test (entries_from key slots) ≡ count_by (meets test) slots
entries_count test key [] = refl
entries_count test key (None ∷ slots) = let a = cons test None slots in let r = entries_count test (key + 1) slots in omega arith
entries_count test key (Some v ∷ slots) =
    let a = cons test (Some v) slots in let r = entries_count test (key + 1) slots in
    let o = one_counted test (key, v) (entries_from (key + 1) slots) in omega arith

pub some_count : {A : Type 0} (test : A → Bool) (xs : List A) → list_any test xs ≡ nat_lt 0 (length (filter test xs))
some_count test [] = refl
some_count test (x ∷ xs) = go (test x) (some_count test xs) where
  go : (b : Bool) → list_any test xs ≡ nat_lt 0 (length (filter test xs))
      → (b || list_any test xs) ≡ nat_lt 0 (length (cond b (x ∷ filter test xs) (filter test xs)))
  go true r = sym (lt-ltb 0 (length (x ∷ filter test xs)) (omega arith))
  go false r = r

-- a request that meets a test stands exactly where one is found under the keys
pub any_stands : (test : StandingRequest → Bool) (ts : List StandingRequest) (slots : List (Option HeldRequest)) → AreHeld ts slots
    → list_any (λ (e : ℕ × HeldRequest). test (request_of e.1)) (entries_from 0 slots) ≡ list_any test ts
any_stands test ts slots held =
    some_count (λ (e : ℕ × HeldRequest). test (request_of e.1)) (entries_from 0 slots)
    ∙ (ap (λ n. nat_lt 0 n) (entries_count test 0 slots ∙ held test) ∙ sym (some_count test ts))

pub all_stand : (ts : List StandingRequest) → length (filter (λ t. true) ts) ≡ length ts
all_stand [] = refl
all_stand (t ∷ ts) = ap suc (all_stand ts)

-- as many stand as keys have a request
pub how_many : (ts : List StandingRequest) (slots : List (Option HeldRequest)) → AreHeld ts slots → count_by is_some slots ≡ length ts
how_many ts slots held = any_request slots ∙ (held (λ t. true) ∙ all_stand ts)

pub at_most_all : (test : StandingRequest → Bool) (slots : List (Option HeldRequest))
    → counted test (entries_from 0 slots) ≤ count_by is_some slots
at_most_all test slots = let a = entries_count test 0 slots in let b = any_request slots in let c = some_requests test slots in omega arith
