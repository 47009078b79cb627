-- Requests under the keys of a slab, counted.
use Rattle.std.proofs.Common.{◌≡◌, ◌≢◌, ℕ, zero, suc, ◌+◌, ◌&&◌, not, MutBor, Bool, true, false, List, [], ◌∷◌, ◌++◌, length, filter}
use Rattle.std.proofs.Common.{cond, count_by, get_or, Option, Some, None, is_some, ◌≤◌, refl, sym, ap, ◌∙◌, subst, arith}
use Rattle.std.proofs.lemmas.List.Sums.{sum_by-cons}
use Rattle.slab.specs.Slab.{Slab, Updates, get, CalledAt, RetainsFrom}
use Rattle.mv_machine.specs.Kept.{StandingRequest}
use Rattle.mv_wait.specs.declared.keep.HeldRequest.{HeldRequest}
use Rattle.mv_wait.specs.Keep.{meets, request_of, AreHeld}

module _ (test : StandingRequest → Bool) where
  pub cons : (x : Option HeldRequest) (xs : List (Option HeldRequest))
      → count_by (meets test) (x ∷ xs) ≡ cond (meets test x) 1 0 + count_by (meets test) xs
  cons x xs = sum_by-cons (λ o. cond (meets test o) 1 0) x xs

  -- the same under every key
  same_count : (xs ys : List (Option HeldRequest)) → ((o : ℕ) → get_or ys o None ≡ get_or xs o None)
      → count_by (meets test) ys ≡ count_by (meets test) xs
  same_count [] [] e = refl
  same_count [] (y ∷ ys) e = let a = cons y ys in let rest = same_count [] ys (λ o. e (suc o)) in
      let b = ap (λ z. cond {A = ℕ} (meets test z) 1 0) (e 0) in omega arith
  same_count (x ∷ xs) [] e = let a = cons x xs in let rest = same_count xs [] (λ o. e (suc o)) in
      let b = ap (λ z. cond {A = ℕ} (meets test z) 1 0) (e 0) in omega arith
  same_count (x ∷ xs) (y ∷ ys) e =
      let a = cons x xs in let d = cons y ys in let rest = same_count xs ys (λ o. e (suc o)) in
      let b = ap (λ z. cond {A = ℕ} (meets test z) 1 0) (e 0) in omega arith

  apart : (o key : ℕ) → o ≢ key → suc o ≢ suc key
  apart o key d = λ q. d (let z : o ≡ key = omega arith in z)

  -- one more under a key that had none
  one_more : (xs ys : List (Option HeldRequest)) (key : ℕ) (v : HeldRequest) → get_or xs key None ≡ None → get_or ys key None ≡ Some v
      → ((o : ℕ) → o ≢ key → get_or ys o None ≡ get_or xs o None)
      → count_by (meets test) ys ≡ count_by (meets test) xs + cond (test (request_of v)) 1 0
  one_more xs [] key v was now e = absurd (cc now)
  one_more [] (y ∷ ys) zero v was now e =
      let a = cons y ys in let rest = same_count [] ys (λ o. e (suc o) (λ q. absurd (omega arith))) in
      let b = ap (λ z. cond {A = ℕ} (meets test z) 1 0) now in omega arith
  one_more (x ∷ xs) (y ∷ ys) zero v was now e =
      let a = cons x xs in let d = cons y ys in let rest = same_count xs ys (λ o. e (suc o) (λ q. absurd (omega arith))) in
      let b = ap (λ z. cond {A = ℕ} (meets test z) 1 0) now in let f = ap (λ z. cond {A = ℕ} (meets test z) 1 0) was in omega arith
  one_more [] (y ∷ ys) (suc key) v was now e =
      let a = cons y ys in let rest = one_more [] ys key v refl now (λ o d. e (suc o) (apart o key d)) in
      let b = ap (λ z. cond {A = ℕ} (meets test z) 1 0) (e 0 (λ q. absurd (omega arith))) in omega arith
  one_more (x ∷ xs) (y ∷ ys) (suc key) v was now e =
      let a = cons x xs in let d = cons y ys in let rest = one_more xs ys key v was now (λ o d. e (suc o) (apart o key d)) in
      let b = ap (λ z. cond {A = ℕ} (meets test z) 1 0) (e 0 (λ q. absurd (omega arith))) in omega arith

  last_counts : (ts : List StandingRequest) (r : StandingRequest)
      → length (filter test (ts ++ r ∷ [])) ≡ length (filter test ts) + cond (test r) 1 0
  last_counts [] r = go (test r) where
    go : (b : Bool) → length (cond b (r ∷ []) []) ≡ 0 + cond b 1 0
    go true = refl
    go false = refl
  last_counts (t ∷ ts) r = go (test t) (last_counts ts r) where
    go : (b : Bool) → length (filter test (ts ++ r ∷ [])) ≡ length (filter test ts) + cond (test r) 1 0
        → length (cond b (t ∷ filter test (ts ++ r ∷ [])) (filter test (ts ++ r ∷ [])))
        ≡ length (cond b (t ∷ filter test ts) (filter test ts)) + cond (test r) 1 0
    go true rest = omega arith
    go false rest = rest

-- an insert under a key that had none, and one request more that stands
pub held_more : (ts : List StandingRequest) (old new : Slab HeldRequest) (key : ℕ) (v : HeldRequest) → get old key ≡ None
    → Updates old new key (Some v)
    → AreHeld ts old.slots → AreHeld (ts ++ request_of v ∷ []) new.slots
held_more ts old new key v vacant u held test =
    let a = one_more test old.slots new.slots key v vacant u.changed u.others in
    let b = last_counts test ts (request_of v) in
    let h = held test in omega arith

-- ---- what is left after a test of each

module _ {F : Type 0} (step : F → ℕ → MutBor HeldRequest → Bool → MutBor HeldRequest → F → Type 0) (P : F → Type 0)
    (test : StandingRequest → Bool)
    (says : (f : F) (key : ℕ) (shown : MutBor HeldRequest) (keep : Bool) (left : MutBor HeldRequest) (next : F) → P f
    → step f key shown keep left next
    → (keep ≡ not (test (request_of shown.now))) × (left.now ≡ shown.now) × P next) where
  at_value : (f : F) (key : ℕ) (old : HeldRequest) (keep : Bool) (new : HeldRequest) (next : F) → P f
      → CalledAt step f key old keep new next
      → (keep ≡ not (test (request_of old))) × (new ≡ old) × P next
  at_value f key old keep new next p w =
      let s = says f key w.shown keep w.left next p w.called in (
        subst (λ v. keep ≡ not (test (request_of v))) w.shows s.0,
        sym w.leaves ∙ (s.1 ∙ w.shows),
        s.2,
      )

  less_one : (g : StandingRequest → Bool) (b keep : Bool) (old new : HeldRequest) (rest later : List (Option HeldRequest)) → keep ≡ not b
      → test (request_of old) ≡ b → new ≡ old
      → count_by (meets g) later ≡ count_by (meets (λ t. not (test t) && g t)) rest
      → count_by (meets g) (cond keep (Some new) None ∷ later) ≡ count_by (meets (λ t. not (test t) && g t)) (Some old ∷ rest)
  less_one g b keep old new rest later k is same r =
      let a = cons g (cond keep (Some new) None) later in
      let d = cons (λ t. not (test t) && g t) (Some old) rest in
      let e : cond {A = ℕ} (meets g (cond keep (Some new) None)) 1 0
      ≡ cond {A = ℕ} (not (test (request_of old)) && g (request_of old)) 1 0 = rw (k, is, same) (go b) in omega arith
    where
      go : (b : Bool) → cond {A = ℕ} (meets g (cond (not b) (Some old) None)) 1 0 ≡ cond {A = ℕ} (not b && g (request_of old)) 1 0
      go true = refl
      go false = refl

  pub left_count : (g : StandingRequest → Bool) (f : F) (key : ℕ) (slots kept : List (Option HeldRequest)) → P f
      → RetainsFrom step f key slots kept
      → count_by (meets g) kept ≡ count_by (meets (λ t. not (test t) && g t)) slots
  left_count g f key [] kept p r = rw r refl
  left_count g f key (None ∷ rest) kept p r =
      let ih = left_count g f (key + 1) rest r.0 p r.2 in
      let a = cons g None r.0 in let d = cons (λ t. not (test t) && g t) None rest in let e = ap (count_by (meets g)) r.1 in omega arith
  left_count g f key (Some old ∷ rest) kept p r =
      let s = at_value f key old r.0 r.1 r.2 p r.3 in
      ap (count_by (meets g)) r.5
      ∙ less_one g (test (request_of old)) r.0 old r.1 rest r.4 s.0 refl s.1 (left_count g r.2 (key + 1) rest r.4 s.2 r.6)

pub any_request : (slots : List (Option HeldRequest)) → count_by is_some slots ≡ count_by (meets (λ t. true)) slots
any_request [] = refl
any_request (None ∷ slots) = let a = sum_by-cons (λ o. cond (is_some {T = HeldRequest} o) 1 0) None slots in
    let b = cons (λ t. true) None slots in let r = any_request slots in omega arith
any_request (Some v ∷ slots) = let a = sum_by-cons (λ o. cond (is_some o) 1 0) (Some v) slots in
    let b = cons (λ t. true) (Some v) slots in let r = any_request slots in omega arith

pub some_requests : (f : StandingRequest → Bool) (slots : List (Option HeldRequest))
    → count_by (meets f) slots ≤ count_by (meets (λ t. true)) slots
some_requests f [] = omega arith
some_requests f (o ∷ slots) =
    let a = cons f o slots in let b = cons (λ t. true) o slots in let r = some_requests f slots in let l = one o in omega arith
  where
    at_most : (b : Bool) → cond {A = ℕ} b 1 0 ≤ 1
    at_most true = omega arith
    at_most false = omega arith

    one : (o : Option HeldRequest) → cond {A = ℕ} (meets f o) 1 0 ≤ cond {A = ℕ} (meets (λ t. true) o) 1 0
    one None = omega arith
    one (Some v) = at_most (f (request_of v))

-- fewer are left
pub fewer : (f : StandingRequest → Bool) (slots kept : List (Option HeldRequest))
    → count_by (meets (λ t. true)) kept ≡ count_by (meets f) slots → count_by is_some kept ≤ count_by is_some slots
fewer f slots kept e = let a = any_request slots in let b = any_request kept in let c = some_requests f slots in omega arith

pub filter_both : (test g : StandingRequest → Bool) (ts : List StandingRequest)
    → filter g (filter (λ t. not (test t)) ts) ≡ filter (λ t. not (test t) && g t) ts
filter_both test g [] = refl
filter_both test g (t ∷ ts) = go (test t) (filter_both test g ts) where
  go : (b : Bool) → filter g (filter (λ x. not (test x)) ts) ≡ filter (λ x. not (test x) && g x) ts
      → filter g (cond (not b) (t ∷ filter (λ x. not (test x)) ts) (filter (λ x. not (test x)) ts))
      ≡ cond (not b && g t) (t ∷ filter (λ x. not (test x) && g x) ts) (filter (λ x. not (test x) && g x) ts)
  go true rest = rest
  go false rest = ap (λ xs. cond (g t) (t ∷ xs) xs) rest
