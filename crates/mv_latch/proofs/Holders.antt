-- Who holds a latch: alone or shared, after an arrival, and after a purge.
use Rattle.std.proofs.Common.{◌≡◌, ℕ, Bool, true, false, not, ◌&&◌, List, [], ◌∷◌, ◌++◌}
use Rattle.std.proofs.Common.{length, map, filter, cond, refl, sym, ap, ◌∙◌, arith}
use Rattle.std.specs.List.{list_any, list_all}
use Rattle.std.proofs.lemmas.Bool.{true≢false}
use Rattle.mv_latch.specs.declared.request.Request.{Request}
use Rattle.mv_latch.specs.Request.{shared_request, of_requestor}
use Rattle.mv_latch.specs.Latch.{shared_front, granted, grants, purged}
use Rattle.mv_latch.specs.LatchSet.{count_in}

-- no request of a shared front is exclusive
none_exclusive : (qs : List Request) → list_any (λ q. not (shared_request q)) (shared_front qs) ≡ false
none_exclusive [] = refl
none_exclusive (q ∷ qs) = go (shared_request q) refl (none_exclusive qs) where
  go : (s : Bool) → shared_request q ≡ s → list_any (λ q. not (shared_request q)) (shared_front qs) ≡ false
      → list_any (λ q. not (shared_request q)) (cond s (q ∷ shared_front qs) []) ≡ false
  go true e ih = rw e ih
  go false e ih = refl

pub alone : (list : List Request) → list_any (λ q. not (shared_request q)) (granted list) ≡ true → length (granted list) ≡ 1
alone [] e = cc
alone (q ∷ qs) e = go (shared_request q) refl e where
  go : (s : Bool) → shared_request q ≡ s → list_any (λ q. not (shared_request q)) (cond s (cond s (q ∷ shared_front qs) []) (q ∷ [])) ≡ true
      → length (cond s (cond s (q ∷ shared_front qs) []) (q ∷ [])) ≡ 1
  go true is f = absurd (true≢false (sym f ∙ rw is (none_exclusive qs)))
  go false is f = refl

-- ---- an arrival
front_all : (qs : List Request) → list_all shared_request qs ≡ true → shared_front qs ≡ qs
front_all [] e = refl
front_all (q ∷ qs) e = go (shared_request q) refl e (front_all qs) where
  go : (s : Bool) → shared_request q ≡ s → (s && list_all shared_request qs) ≡ true
      → (list_all shared_request qs ≡ true → shared_front qs ≡ qs) → cond s (q ∷ shared_front qs) [] ≡ q ∷ qs
  go true is f ih = ap (λ z. q ∷ z) (ih f)
  go false is f ih = absurd (true≢false (sym f))

all_push : (qs : List Request) (r : Request) → shared_request r ≡ true → list_all shared_request qs ≡ true
    → list_all shared_request (qs ++ r ∷ []) ≡ true
all_push [] r s a = rw s refl
all_push (q ∷ qs) r s a = go (shared_request q) a (all_push qs r s) where
  go : (b : Bool) → (b && list_all shared_request qs) ≡ true
      → (list_all shared_request qs ≡ true → list_all shared_request (qs ++ r ∷ []) ≡ true)
      → (b && list_all shared_request (qs ++ r ∷ [])) ≡ true
  go true f ih = ih f
  go false f ih = f

granted_all : (qs : List Request) → list_all shared_request qs ≡ true → granted qs ≡ qs
granted_all [] a = refl
granted_all (q ∷ qs) a = go (shared_request q) a (front_all qs) where
  go : (b : Bool) → (b && list_all shared_request qs) ≡ true → (list_all shared_request qs ≡ true → shared_front qs ≡ qs)
      → cond b (cond b (q ∷ shared_front qs) []) (q ∷ []) ≡ q ∷ qs
  go true f all = ap (λ z. q ∷ z) (all f)
  go false f all = absurd (true≢false (sym f))

granted_one : (r : Request) → granted (r ∷ []) ≡ r ∷ []
granted_one r = elim (shared_request r) as (λ b. cond b (cond b (r ∷ []) []) (r ∷ []) ≡ r ∷ []) [ true ↦ refl | false ↦ refl ]

pub granted_at_end : (list : List Request) (request : Request) → grants list request ≡ true
    → granted (list ++ request ∷ []) ≡ list ++ request ∷ []
granted_at_end [] request g = granted_one request
granted_at_end (q ∷ qs) request g = go (shared_request request) refl g where
  go : (b : Bool) → shared_request request ≡ b → (b && list_all shared_request (q ∷ qs)) ≡ true
      → granted (q ∷ (qs ++ request ∷ [])) ≡ q ∷ (qs ++ request ∷ [])
  go true is f = granted_all (q ∷ (qs ++ request ∷ [])) (all_push (q ∷ qs) request is f)
  go false is f = absurd (true≢false (sym f))

front_queued : (qs : List Request) (r : Request) → (shared_request r && list_all shared_request qs) ≡ false
    → shared_front (qs ++ r ∷ []) ≡ shared_front qs
front_queued [] r f = go (shared_request r) f where
  go : (b : Bool) → (b && true) ≡ false → cond b (r ∷ []) [] ≡ []
  go true g = absurd (true≢false g)
  go false g = refl
front_queued (q ∷ qs) r f = go (shared_request q) f (front_queued qs r) where
  go : (b : Bool) → (shared_request r && (b && list_all shared_request qs)) ≡ false
      → ((shared_request r && list_all shared_request qs) ≡ false → shared_front (qs ++ r ∷ []) ≡ shared_front qs)
      → cond b (q ∷ shared_front (qs ++ r ∷ [])) [] ≡ cond b (q ∷ shared_front qs) []
  go true g ih = ap (λ z. q ∷ z) (ih g)
  go false g ih = refl

pub queued_at_end : (list : List Request) (request : Request) → grants list request ≡ false → granted (list ++ request ∷ []) ≡ granted list
queued_at_end [] request g = absurd (true≢false g)
queued_at_end (q ∷ qs) request g =
    ap (λ z. cond (shared_request q) z (q ∷ [])) (front_queued (q ∷ qs) request g)

-- ---- after a purge
none_of : (requestor : ℕ) (qs : List Request) → length (filter (of_requestor requestor) (purged requestor qs)) ≡ 0
none_of requestor [] = refl
none_of requestor (q ∷ qs) = go (none_of requestor qs) where
  go : length (filter (of_requestor requestor) (purged requestor qs)) ≡ 0
      → length (filter (of_requestor requestor) (purged requestor (q ∷ qs))) ≡ 0
  go ih = grind (arith, ih)

pub none_left : (requestor : ℕ) (lists : List (List Request)) → count_in (of_requestor requestor) (map (purged requestor) lists) ≡ 0
none_left requestor [] = refl
none_left requestor (qs ∷ rest) = omega (arith, none_of requestor qs, none_left requestor rest)
