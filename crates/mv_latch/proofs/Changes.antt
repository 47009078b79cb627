-- What one operation does to each list, and who stays granted.
use Rattle.std.proofs.Common.{◌≡◌, ◌<◌, ℕ, Bool, true, false, not, List, [], ◌∷◌, ◌++◌, length}
use Rattle.std.proofs.Common.{map, filter, set, cond, ◌⊎◌, inl, inr, refl, sym, ap, ◌∙◌, arith}
use Rattle.std.specs.List.{Contains}
use Rattle.std.proofs.lemmas.Bool.{cases_eq, cases_lt, true≢false}
use Rattle.std.proofs.lemmas.List.{get_or-set_same, get_or-set_other, set_past}
use Rattle.std.proofs.Math.ListN.{get_or-map}
use Rattle.mv_latch.specs.declared.request.Request.{Request}
use Rattle.mv_latch.specs.declared.operation.LatchOp.{LatchOp}
use Rattle.mv_latch.specs.declared.operation.LatchOp.TheVariants.{Obtain, Confirm, Release, Purge}
use Rattle.mv_latch.specs.declared.operation.LatchReply.{LatchReply}
use Rattle.mv_latch.specs.Request.{shared_request, is_own, of_requestor}
use Rattle.mv_latch.specs.Latch.{shared_front, granted, obtain_step, release_step, without, purged}
use Rattle.mv_latch.specs.LatchSet.{list_of, latch_step}
use Rattle.mv_latch.proofs.Members.{not_in_empty, first_or_rest, passes, with_first}

-- a list after one operation, which has this number for a new request
pub data Changed (id : ℕ) (old new : List Request) : Type 0 where
  same : new ≡ old → Changed id old new
  grew : (r : Request) → r.id ≡ id → new ≡ old ++ r ∷ [] → Changed id old new
  shrank : (p : Request → Bool) → new ≡ filter p old → Changed id old new

-- a choice of two outcomes changes the list as both do
either : (id : ℕ) (qs : List Request) (b : Bool) (x y : List Request × LatchReply) → Changed id qs x.0 → Changed id qs y.0
    → Changed id qs (cond b x y).0
either id qs true x y cx cy = cx
either id qs false x y cx cy = cy

obtain_changes : (id : ℕ) (r : Request) (qs : List Request) → r.id ≡ id → Changed id qs (obtain_step r qs).0
obtain_changes id r qs is =
    let grows : Changed id qs (qs ++ r ∷ []) = grew r is refl in
    let stays : Changed id qs qs = same refl in
    search either

release_changes : (id caller old : ℕ) (conditional : Bool) (qs : List Request) → Changed id qs (release_step caller old conditional qs).0
release_changes id caller old conditional qs =
    let shrinks : Changed id qs (without caller old qs) = shrank (λ q. not (is_own caller old q)) refl in
    let stays : Changed id qs qs = same refl in
    search either

-- a list of the set after one list was replaced
list_of-set : (lists : List (List Request)) (i j : ℕ) (qs : List Request)
    → ((j ≡ i) × (list_of (set lists i qs) j ≡ qs)) ⊎ (list_of (set lists i qs) j ≡ list_of lists j)
list_of-set lists i j qs = grind (arith, get_or-set_same, get_or-set_other, set_past, cases_eq i j, cases_lt i (length lists))

-- the latch's own list
pub list_replaced : (lists : List (List Request)) (latch : ℕ) (qs : List Request) → latch < length lists
    → list_of (set lists latch qs) latch ≡ qs
list_replaced lists latch qs lt = get_or-set_same lists latch qs [] lt

-- and those of the other latches
pub list_elsewhere : (lists : List (List Request)) (latch other : ℕ) (qs : List Request) → (other ≡ latch → ⊥)
    → list_of (set lists latch qs) other ≡ list_of lists other
list_elsewhere lists latch other qs apart = get_or-set_other lists latch other qs [] apart

-- a purge goes over each list
pub list_purged : (requestor : ℕ) (lists : List (List Request)) (latch : ℕ)
    → list_of (map (purged requestor) lists) latch ≡ purged requestor (list_of lists latch)
list_purged requestor lists latch = get_or-map (purged requestor) lists latch []

replaced : (id : ℕ) (lists : List (List Request)) (i j : ℕ) (qs : List Request) → Changed id (list_of lists i) qs
    → Changed id (list_of lists j) (list_of (set lists i qs) j)
replaced id lists i j qs c =
    elim (list_of-set lists i j qs) [ inl w ↦ rw (w.1) (rw (w.0) c) | inr w ↦ same w ]

pub latch_changes : (caller id : ℕ) (op : LatchOp) (lists : List (List Request)) (j : ℕ)
    → Changed id (list_of lists j) (list_of (latch_step caller id op lists).0 j)
latch_changes caller id (Obtain latch requestor mode form) lists j =
    replaced id lists latch j _ (obtain_changes id (record { id = id; caller = caller; requestor = requestor; mode = mode; form = form })
    (list_of lists latch) refl)
latch_changes caller id (Confirm latch old) lists j = same refl
latch_changes caller id (Release latch old conditional) lists j =
    replaced id lists latch j _ (release_changes id caller old conditional (list_of lists latch))
latch_changes caller id (Purge requestor) lists j = shrank (λ q. not (of_requestor requestor q)) (list_purged requestor lists j)

-- ---- a granted request stays granted while it is there
front_filter : (p : Request → Bool) (q : Request) (qs : List Request) → Contains (shared_front qs) q → p q ≡ true
    → Contains (shared_front (filter p qs)) q
front_filter p q [] i t = absurd (not_in_empty q i)
front_filter p q (x ∷ xs) i t = go (shared_request x) (p x) refl refl (λ i. front_filter p q xs i t) i where
  go : (s b : Bool) → shared_request x ≡ s → p x ≡ b → (Contains (shared_front xs) q → Contains (shared_front (filter p xs)) q)
      → Contains (cond s (x ∷ shared_front xs) []) q → Contains (shared_front (cond b (x ∷ filter p xs) (filter p xs))) q
  go true true es eb ih i = rw es (with_first x (shared_front xs) (shared_front (filter p xs)) q ih i)
  go true false es eb ih i =
      elim (first_or_rest x (shared_front xs) q i) [ inl e ↦ absurd (true≢false (sym t ∙ ap p (sym e) ∙ eb)) | inr j ↦ ih j ]
  go false b es eb ih i = absurd (not_in_empty q i)

front_granted : (q : Request) (qs : List Request) → Contains (shared_front qs) q → Contains (granted qs) q
front_granted q [] i = absurd (not_in_empty q i)
front_granted q (x ∷ xs) i = go (shared_request x) refl i where
  go : (s : Bool) → shared_request x ≡ s → Contains (cond s (x ∷ shared_front xs) []) q → Contains (granted (x ∷ xs)) q
  go true e i = rw e i
  go false e i = absurd (not_in_empty q i)

granted_filter : (p : Request → Bool) (q : Request) (qs : List Request) → Contains (granted qs) q → p q ≡ true
    → Contains (granted (filter p qs)) q
granted_filter p q [] i t = absurd (not_in_empty q i)
granted_filter p q (x ∷ xs) i t = go (shared_request x) (p x) refl refl i where
  go : (s b : Bool) → shared_request x ≡ s → p x ≡ b → Contains (cond s (cond s (x ∷ shared_front xs) []) (x ∷ [])) q
      → Contains (granted (cond b (x ∷ filter p xs) (filter p xs))) q
  go true true es eb i = rw es (with_first x (shared_front xs) (shared_front (filter p xs)) q (λ j. front_filter p q xs j t) i)
  go true false es eb i = elim (first_or_rest x (shared_front xs) q i) [
    | inl e ↦ absurd (true≢false (sym t ∙ ap p (sym e) ∙ eb))
    | inr j ↦ front_granted q (filter p xs) (front_filter p q xs j t)
  ]
  go false true es eb i = rw es i
  go false false es eb i = elim (first_or_rest x [] q i) [
    | inl e ↦ absurd (true≢false (sym t ∙ ap p (sym e) ∙ eb))
    | inr j ↦ absurd (not_in_empty q j)
  ]

front_push : (q r : Request) (qs : List Request) → Contains (shared_front qs) q → Contains (shared_front (qs ++ r ∷ [])) q
front_push q r [] i = absurd (not_in_empty q i)
front_push q r (x ∷ xs) i = go (shared_request x) refl (front_push q r xs) i where
  go : (s : Bool) → shared_request x ≡ s → (Contains (shared_front xs) q → Contains (shared_front (xs ++ r ∷ [])) q)
      → Contains (cond s (x ∷ shared_front xs) []) q → Contains (shared_front (x ∷ (xs ++ r ∷ []))) q
  go true e ih i = rw e (with_first x (shared_front xs) (shared_front (xs ++ r ∷ [])) q ih i)
  go false e ih i = absurd (not_in_empty q i)

granted_push : (q r : Request) (qs : List Request) → Contains (granted qs) q → Contains (granted (qs ++ r ∷ [])) q
granted_push q r [] i = absurd (not_in_empty q i)
granted_push q r (x ∷ xs) i = go (shared_request x) refl i where
  go : (s : Bool) → shared_request x ≡ s → Contains (cond s (cond s (x ∷ shared_front xs) []) (x ∷ [])) q
      → Contains (granted (x ∷ (xs ++ r ∷ []))) q
  go true e i = rw e (with_first x (shared_front xs) (shared_front (xs ++ r ∷ [])) q (front_push q r xs) i)
  go false e i = rw e i

-- a granted request stays granted until it is taken out
pub stays_granted : (id : ℕ) (old new : List Request) (q : Request) → Changed id old new → Contains (granted old) q → Contains new q
    → Contains (granted new) q
stays_granted id old new q (same e) g i = rw e g
stays_granted id old new q (grew r is e) g i = rw e (granted_push q r old g)
stays_granted id old new q (shrank p e) g i = rw e (granted_filter p q old g (passes p q old (rw e at i)))
