-- A caller's requests in a latch's list stand by what is kept of its own entries: in the same order, none left out.
use Rattle.std.proofs.Common.{◌≡◌, ◌⊎◌, ℕ, Bool, true, false, not, List, [], ◌∷◌, ◌++◌, filter, cond, inl, inr, refl, ap, ◌∙◌, subst, arith}
use Rattle.std.specs.List.{AllByRecursion, Contains, list_any}
use Rattle.std.proofs.lemmas.List.{append-nil}
use Rattle.std.proofs.lemmas.List.Elements.{filter-append}
use Rattle.std.proofs.lemmas.Bool.{or_parts, and_left, ne_eqb}
use Rattle.mv_latch.specs.declared.request.Request.{Request}
use Rattle.mv_latch.specs.Request.{of_caller, of_requestor, is_own}
use Rattle.mv_latch.specs.Latch.{without, purged}
use Rattle.mv_latch.proofs.Members.{not_in_empty, first_or_rest, first_is_in, rest_is_in}
use Rattle.mv_machine.specs.Kept.{StandingRequest, is_named, is_for, less}

-- a request at a latch
abbrev pub stood : ℕ → Request → StandingRequest
stood latch q = record { latch = latch; request = q }

-- the requests stand in this order among those that are kept
abbrev pub Within : ℕ → List Request → List StandingRequest → Type 0
Within latch [] ts = Unit {0}
Within latch (q ∷ qs) [] = ⊥
Within latch (q ∷ qs) (t ∷ ts) = ((t ≡ stood latch q) × Within latch qs ts) ⊎ Within latch (q ∷ qs) ts

pub within_skip : (latch : ℕ) (qs : List Request) (t : StandingRequest) (ts : List StandingRequest) → Within latch qs ts
    → Within latch qs (t ∷ ts)
within_skip latch [] t ts w = tt
within_skip latch (q ∷ qs) t ts w = inr w

-- one more is kept
pub within_kept_more : (latch : ℕ) (qs : List Request) (ts : List StandingRequest) (t : StandingRequest) → Within latch qs ts
    → Within latch qs (ts ++ t ∷ [])
within_kept_more latch [] ts t w = tt
within_kept_more latch (q ∷ qs) [] t w = absurd w
within_kept_more latch (q ∷ qs) (x ∷ ts) t (inl w) = inl (w.0, within_kept_more latch qs ts t w.1)
within_kept_more latch (q ∷ qs) (x ∷ ts) t (inr w) = inr (within_kept_more latch (q ∷ qs) ts t w)

-- one more is requested and kept
one_more : (latch : ℕ) (q : Request) (ts : List StandingRequest) → Within latch (q ∷ []) (ts ++ stood latch q ∷ [])
one_more latch q [] = inl (refl, tt)
one_more latch q (t ∷ ts) = inr (one_more latch q ts)

pub within_both_more : (latch : ℕ) (qs : List Request) (ts : List StandingRequest) (q : Request) → Within latch qs ts
    → Within latch (qs ++ q ∷ []) (ts ++ stood latch q ∷ [])
within_both_more latch [] ts q w = one_more latch q ts
within_both_more latch (x ∷ xs) [] q w = absurd w
within_both_more latch (x ∷ xs) (t ∷ ts) q (inl w) = inl (w.0, within_both_more latch xs ts q w.1)
within_both_more latch (x ∷ xs) (t ∷ ts) q (inr w) = inr (within_both_more latch (x ∷ xs) ts q w)

-- fewer are requested
pub within_left : (latch : ℕ) (p : Request → Bool) (qs : List Request) (ts : List StandingRequest) → Within latch qs ts
    → Within latch (filter p qs) ts
within_left latch p [] ts w = tt
within_left latch p (q ∷ qs) [] w = absurd w
within_left latch p (q ∷ qs) (t ∷ ts) (inl w) =
    elim (p q) as (λ b. Within latch (cond b (q ∷ filter p qs) (filter p qs)) (t ∷ ts)) [
      | true ↦ inl (w.0, within_left latch p qs ts w.1)
      | false ↦ within_skip latch (filter p qs) t ts (within_left latch p qs ts w.1)
    ]
within_left latch p (q ∷ qs) (t ∷ ts) (inr w) = within_skip latch (filter p (q ∷ qs)) t ts (within_left latch p (q ∷ qs) ts w)

-- fewer are kept, all that are requested among them
abbrev pub AllStand : (StandingRequest → Bool) → ℕ → List Request → Type 0
AllStand p latch qs = AllByRecursion (λ q. p (stood latch q) ≡ true) qs

pub within_kept : (latch : ℕ) (p : StandingRequest → Bool) (qs : List Request) (ts : List StandingRequest) → AllStand p latch qs
    → Within latch qs ts → Within latch qs (filter p ts)
within_kept latch p [] ts a w = tt
within_kept latch p (q ∷ qs) [] a w = absurd w
within_kept latch p (q ∷ qs) (t ∷ ts) a (inl w) = rw (ap p w.0 ∙ a.0) (inl (w.0, within_kept latch p qs ts a.1 w.1))
within_kept latch p (q ∷ qs) (t ∷ ts) a (inr w) =
    let rest : Within latch (q ∷ qs) (filter p ts) = within_kept latch p (q ∷ qs) ts a w in
    elim (p t) as (λ b. Within latch (q ∷ qs) (cond b (t ∷ filter p ts) (filter p ts))) [ true ↦ inr rest | false ↦ rest ]

-- one of the requests is among those that are kept
pub has_within : (latch : ℕ) (q : Request) (qs : List Request) (ts : List StandingRequest) → Within latch qs ts → Contains qs q
    → Contains ts (stood latch q)
has_within latch q [] ts w i = absurd (not_in_empty q i)
has_within latch q (x ∷ xs) [] w i = absurd w
has_within latch q (x ∷ xs) (t ∷ ts) (inl w) i = elim (first_or_rest x xs q i) [
  | inl e ↦ first_is_in t ts (stood latch q) (w.0 ∙ ap (stood latch) e)
  | inr j ↦ rest_is_in t ts (stood latch q) (has_within latch q xs ts w.1 j)
]
has_within latch q (x ∷ xs) (t ∷ ts) (inr w) i = rest_is_in t ts (stood latch q) (has_within latch q (x ∷ xs) ts w i)

-- ---- one caller's requests of a list
abbrev pub mine : ℕ → List Request → List Request
mine k qs = filter (of_caller k) qs

-- a request of the caller is among the caller's
pub is_mine : (k : ℕ) (q : Request) (qs : List Request) → of_caller k q ≡ true → Contains qs q → Contains (mine k qs) q
is_mine k q [] own i = i
is_mine k q (x ∷ xs) own i = elim (first_or_rest x xs q i) [
  | inl e ↦ rw (ap (of_caller k) e ∙ own) (first_is_in x (mine k xs) q e)
  | inr j ↦
      let rest : Contains (mine k xs) q = is_mine k q xs own j in
      elim (of_caller k x) as (λ b. Contains (cond b (x ∷ mine k xs) (mine k xs)) q) [
        | true ↦ rest_is_in x (mine k xs) q rest
        | false ↦ rest
      ]
]

-- the order of two tests does not matter
filter_swap : (p t : Request → Bool) (qs : List Request) → filter p (filter t qs) ≡ filter t (filter p qs)
filter_swap p t [] = refl
filter_swap p t (q ∷ qs) = go (p q) (t q) refl refl (filter_swap p t qs) where
  go : (b d : Bool) → p q ≡ b → t q ≡ d → filter p (filter t qs) ≡ filter t (filter p qs)
      → filter p (cond d (q ∷ filter t qs) (filter t qs)) ≡ filter t (cond b (q ∷ filter p qs) (filter p qs))
  go true true pe te rest = rw (pe, te) (ap (λ z. q ∷ z) rest)
  go true false pe te rest = rw te rest
  go false true pe te rest = rw pe rest
  go false false pe te rest = rest

mine_left : (k : ℕ) (p : Request → Bool) (qs : List Request) → mine k (filter p qs) ≡ filter p (mine k qs)
mine_left k p qs = filter_swap (of_caller k) p qs

-- fewer requests, whoever takes them out
pub mine_within_left : (k latch : ℕ) (p : Request → Bool) (qs : List Request) (ts : List StandingRequest) → Within latch (mine k qs) ts
    → Within latch (mine k (filter p qs)) ts
mine_within_left k latch p qs ts w = rw (mine_left k p qs) (within_left latch p (mine k qs) ts w)

-- what is left passes both tests
pub all_left : (P : Request → Type 0) (k : ℕ) (p : Request → Bool) → ((q : Request) → of_caller k q ≡ true → p q ≡ true → P q)
    → (qs : List Request) → AllByRecursion P (mine k (filter p qs))
all_left P k p f [] = tt
all_left P k p f (q ∷ qs) = go (p q) (of_caller k q) refl refl (all_left P k p f qs) where
  go : (b d : Bool) → p q ≡ b → of_caller k q ≡ d → AllByRecursion P (mine k (filter p qs))
      → AllByRecursion P (mine k (cond b (q ∷ filter p qs) (filter p qs)))
  go true true pe ce rest = rw ce (f q ce pe, rest)
  go true false pe ce rest = rw ce rest
  go false d pe ce rest = rest

-- ---- what is taken out of a caller's requests and of what is kept
not_false : (b : Bool) → b ≡ false → not b ≡ true
not_false b e = rw e refl

not_named : (k latch id : ℕ) (q : Request) → of_caller k q ≡ true → not (is_own k id q) ≡ true
    → not (is_named latch id (stood latch q)) ≡ true
not_named k latch id q own other = grind arith

-- a release takes out the one that the caller names
pub within_released : (k latch id : ℕ) (qs : List Request) (ts : List StandingRequest) → Within latch (mine k qs) ts
    → Within latch (mine k (without k id qs)) (less (is_named latch id) ts)
within_released k latch id qs ts w =
    within_kept latch (λ t. not (is_named latch id t)) (mine k (without k id qs)) ts
    (all_left (λ q. not (is_named latch id (stood latch q)) ≡ true) k (λ q. not (is_own k id q)) (not_named k latch id) qs)
    (mine_within_left k latch (λ q. not (is_own k id q)) qs ts w)

-- and nothing at another latch
elsewhere_named : (latch other id : ℕ) → (latch ≡ other → ⊥) → (qs : List Request) → AllStand (λ t. not (is_named other id t)) latch qs
elsewhere_named latch other id apart [] = tt
elsewhere_named latch other id apart (q ∷ qs) =
    (not_false (is_named other id (stood latch q)) (and_left _ _ (ne_eqb latch other apart)), elsewhere_named latch other id apart qs)

pub within_elsewhere : (latch other id : ℕ) (qs : List Request) (ts : List StandingRequest) → (latch ≡ other → ⊥) → Within latch qs ts
    → Within latch qs (less (is_named other id) ts)
within_elsewhere latch other id qs ts apart w =
    within_kept latch (λ t. not (is_named other id t)) qs ts (elsewhere_named latch other id apart qs) w

-- a purge takes out a requestor's everywhere
pub within_purged : (k latch requestor : ℕ) (qs : List Request) (ts : List StandingRequest) → Within latch (mine k qs) ts
    → Within latch (mine k (purged requestor qs)) (less (is_for requestor) ts)
within_purged k latch requestor qs ts w =
    within_kept latch (λ t. not (is_for requestor t)) (mine k (purged requestor qs)) ts
    (all_left (λ q. not (is_for requestor (stood latch q)) ≡ true) k (λ q. not (of_requestor requestor q)) (λ q own other. other) qs)
    (mine_within_left k latch (λ q. not (of_requestor requestor q)) qs ts w)

-- where the caller has no such request, nothing would be taken out
pub without_none : (k id : ℕ) (qs : List Request) → list_any (is_own k id) qs ≡ false → without k id qs ≡ qs
without_none k id [] none = refl
without_none k id (q ∷ qs) none =
    let parts : (is_own k id q ≡ false) × (list_any (is_own k id) qs ≡ false) = or_parts _ _ none in
    rw (parts.0) (ap (λ z. q ∷ z) (without_none k id qs parts.1))

pub within_gone : (k latch id : ℕ) (qs : List Request) (ts : List StandingRequest) → list_any (is_own k id) qs ≡ false
    → Within latch (mine k qs) ts → Within latch (mine k qs) (less (is_named latch id) ts)
within_gone k latch id qs ts none w =
    subst (λ z. Within latch (mine k z) (less (is_named latch id) ts)) (without_none k id qs none) (within_released k latch id qs ts w)

-- ---- one more request
pub within_obtained : (k latch : ℕ) (r : Request) (qs : List Request) (ts : List StandingRequest) → of_caller k r ≡ true
    → Within latch (mine k qs) ts → Within latch (mine k (qs ++ r ∷ [])) (ts ++ stood latch r ∷ [])
within_obtained k latch r qs ts own w =
    rw (filter-append (of_caller k) qs (r ∷ []), own) (within_both_more latch (mine k qs) ts r w)

-- another caller's
pub mine_not_pushed : (k : ℕ) (r : Request) (qs : List Request) → of_caller k r ≡ false → mine k (qs ++ r ∷ []) ≡ mine k qs
mine_not_pushed k r qs other = rw (filter-append (of_caller k) qs (r ∷ []), other, append-nil) refl
