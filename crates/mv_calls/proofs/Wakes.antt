-- The wakes of an event, and what the posts that they ask for cost.
use Rattle.std.proofs.Common.{◌≡◌, ℕ, zero, suc, ◌+◌, ◌*◌, ◌<◌, ◌≤◌, ◌==◌, nat_lt, Bool, true, false, not, ◌&&◌, IfSome, Option, List}
use Rattle.std.proofs.Common.{[], ◌∷◌, ◌++◌, length, map, filter, cond, Some, None, inl, inr, refl, sym, ap, ◌∙◌, subst, arith}
use Rattle.std.specs.List.{AllByRecursion, flat_map, list_any, range_with_len}
use Rattle.std.proofs.lemmas.Bool.{cases_eq, lt-ltb, le-ltb}
use Rattle.std.proofs.lemmas.Bool.Decides.{nat_tests}
use Rattle.std.proofs.lemmas.Nat.{mul-le}
use Rattle.mv_latch.specs.declared.operation.LatchOp.{LatchOp}
use Rattle.mv_latch.specs.declared.operation.LatchOp.TheVariants.{Obtain, Confirm, Release, Purge}
use Rattle.mv_latch.specs.declared.operation.Wake.{Wake}
use Rattle.mv_latch.specs.declared.request.LatchForm.{LatchForm}
use Rattle.mv_latch.specs.declared.request.LatchForm.TheVariants.{Conditional, Waiting, Posted}
use Rattle.mv_latch.specs.declared.request.Request.{Request}
use Rattle.mv_latch.specs.Latch.{granted, waiting, release_step, newly_granted, purged, waiting_of, granted_by_purge}
use Rattle.mv_latch.specs.LatchSet.{list_of, count_in, wakes}
use Rattle.mv_latch.specs.Request.{is_posted, posted_ecb, posted_of, of_requestor, has_id, wake_of}
use Rattle.mv_latch.proofs.Quotas.{count_released, one_if, length_kept, first_fit}
use Rattle.mv_latch.proofs.Splits.{all_filter, all_granted, count_split, count_filter, granted_split}
use Rattle.mv_machine.specs.declared.entry.Entry.{Entry}
use Rattle.mv_machine.specs.Legal.{Legal, after}
use Rattle.mv_config.specs.Reach.{greatest, total, reach, release_cost}
use Rattle.mv_config.specs.Setup.{Setup}
use Rattle.mv_machine.specs.Waking.{IsBlockOf, IsFair, IsFairWake, blocks_of}
use Rattle.mv_machine.proofs.Lists.{all_append, all_back}
use Rattle.mv_machine.proofs.Requests.{AllFair, all_of_list, all_released, requests_kept}

-- ---- what holds of each request holds of each wake

-- what holds of each part holds of all of them together
all_flat : {A B : Type 0} (P : A → Type 0) (Q : B → Type 0) (f : A → List B) → ((x : A) → P x → AllByRecursion Q (f x)) → (xs : List A)
    → AllByRecursion P xs → AllByRecursion Q (flat_map f xs)
all_flat P Q f each [] a = tt
all_flat P Q f each (x ∷ xs) a = all_append Q (f x) (flat_map f xs) (each x a.0) (all_flat P Q f each xs a.1)

-- what holds of all requests of a list holds of those that wait
all_waiting : (P : Request → Type 0) (qs : List Request) → AllByRecursion P qs → AllByRecursion P (waiting qs)
all_waiting P qs a = all_back P (granted qs) (waiting qs) (subst (AllByRecursion P) (sym (granted_split qs)) a)

-- and of those that are newly granted
all_newly : (P : Request → Type 0) (old new : List Request) → AllByRecursion P new → AllByRecursion P (newly_granted old new)
all_newly P old new a = all_filter P (λ q. not (list_any (has_id q.id) (granted old))) (granted new) (all_granted P new a)

-- what follows of the wake of each such request
module _ (P : Request → Type 0) (Q : Wake → Type 0) (each : (code : ℕ) (q : Request) → code ≤ 1 → P q → Q (wake_of code q)) where
  -- is so of the wakes of a list
  each_wakes : (code : ℕ) (qs : List Request) → code ≤ 1 → AllByRecursion P qs → AllByRecursion Q (map (wake_of code) qs)
  each_wakes code [] low a = tt
  each_wakes code (q ∷ qs) low a = (each code q low a.0, each_wakes code qs low a.1)

  -- and of those of an operation on lists of such requests
  pub all_wakes : (k : ℕ) (op : LatchOp) (lists : List (List Request)) → AllByRecursion (λ qs. AllByRecursion P qs) lists
      → AllByRecursion Q (wakes k op lists)
  all_wakes k (Obtain latch requestor mode form) lists a = tt
  all_wakes k (Confirm latch id) lists a = tt
  all_wakes k (Release latch id conditional) lists a =
      each_wakes 0 _ (omega arith) (all_newly P (list_of lists latch) (release_step k id conditional (list_of lists latch)).0
      (all_released P k id conditional (list_of lists latch) (all_of_list P lists latch a)))
  all_wakes k (Purge requestor) lists a =
      all_append Q (map (wake_of 1) (flat_map (waiting_of requestor) lists)) (map (wake_of 0) (flat_map (granted_by_purge requestor) lists))
      (each_wakes 1 (flat_map (waiting_of requestor) lists) (omega arith)
      (all_flat (AllByRecursion P) P (waiting_of requestor)
      (λ qs b. all_filter P (of_requestor requestor) (waiting qs) (all_waiting P qs b)) lists a))
      (each_wakes 0 (flat_map (granted_by_purge requestor) lists) (omega arith)
      (all_flat (AllByRecursion P) P (granted_by_purge requestor)
      (λ qs b. all_newly P qs (purged requestor qs) (all_filter P (λ q. not (of_requestor requestor q)) qs b)) lists a))

-- the wake of a fair request is fair
fair_wake : (c : Setup) (code : ℕ) (q : Request) → code ≤ 1 → IsFair c q → IsFairWake c (wake_of code q)
fair_wake c code q low f = (f.0, low, f.1)

-- so the wakes of an operation are fair after a legal list
pub wakes_are_fair : (c : Setup) (es : List Entry) (k : ℕ) (op : LatchOp) → Legal c es
    → AllByRecursion (IsFairWake c) (wakes k op (after c es).latches.state)
wakes_are_fair c es k op l = all_wakes (IsFair c) (IsFairWake c) (fair_wake c) k op (after c es).latches.state (requests_kept c es l).fair

-- ---- how many of them post
abbrev posts : Request → Bool
posts q = is_posted q.form

-- a first wake posts where its request does
one_posts : (code : ℕ) (q : Request) (ws : List Wake)
    → length (blocks_of (wake_of code q ∷ ws)) ≡ length (cond (posts q) (q ∷ []) []) + length (blocks_of ws)
one_posts code q ws = go q.form where
  go : (form : LatchForm) → length (blocks_of (record { caller = q.caller; id = q.id; ecb = posted_ecb form; code = code } ∷ ws)) ≡ length
      (cond (is_posted form) (q ∷ []) []) + length (blocks_of ws)
  go (Posted e) = omega arith
  go Conditional = omega arith
  go Waiting = omega arith

-- a list with a first element, if it has one, is so much longer
counted : (b : Bool) (q : Request) (qs : List Request) → length (cond b (q ∷ qs) qs) ≡ length (cond b (q ∷ []) []) + length qs
counted true q qs = omega arith
counted false q qs = omega arith

-- as many wakes post as requests do
blocks_count : (code : ℕ) (qs : List Request) → length (blocks_of (map (wake_of code) qs)) ≡ length (filter posts qs)
blocks_count code [] = refl
blocks_count code (q ∷ qs) = omega (
  arith,
  one_posts code q (map (wake_of code) qs),
  counted (posts q) q (filter posts qs),
  blocks_count code qs,
)

-- the blocks of two lists of wakes
blocks-append : (ws vs : List Wake) → length (blocks_of (ws ++ vs)) ≡ length (blocks_of ws) + length (blocks_of vs)
blocks-append [] vs = omega arith
blocks-append (w ∷ ws) vs = go w.ecb (blocks-append ws vs) where
  go : (e : Option ℕ) → length (blocks_of (ws ++ vs)) ≡ length (blocks_of ws) + length (blocks_of vs)
      → length (blocks_of (record w { ecb = e } ∷ (ws ++ vs))) ≡ length (blocks_of (record w { ecb = e } ∷ ws)) + length (blocks_of vs)
  go (Some b) h = omega (arith, h)
  go None h = h

-- ---- no more than there are requests of that form
count_front : (t : Request → Bool) (qs : List Request) → length (filter t (granted qs)) + length (filter t (waiting qs)) ≡ length
    (filter t qs)
count_front t qs = sym (count_split t (granted qs) (waiting qs)) ∙ ap (λ rs. length (filter t rs)) (granted_split qs)

-- of the newly granted no more meet a test than of all
count_newly : (t : Request → Bool) (old new : List Request) → length (filter t (newly_granted old new)) ≤ length (filter t new)
count_newly t old new = omega (arith, count_filter t (λ q. not (list_any (has_id q.id) (granted old))) (granted new), count_front t new)

-- those that pass a test, and those that do not
count_both : (t p : Request → Bool) (qs : List Request)
    → length (filter t (filter p qs)) + length (filter t (filter (λ q. not (p q)) qs)) ≡ length (filter t qs)
count_both t p [] = refl
count_both t p (q ∷ qs) = go (p q) (count_both t p qs) where
  go : (b : Bool) → length (filter t (filter p qs)) + length (filter t (filter (λ q. not (p q)) qs)) ≡ length (filter t qs)
      → length (filter t (cond b (q ∷ filter p qs) (filter p qs))) + length
      (filter t (cond (not b) (q ∷ filter (λ q. not (p q)) qs) (filter (λ q. not (p q)) qs))) ≡ length (filter t (q ∷ qs))
  go true h = omega (arith, h, counted (t q) q (filter t qs), counted (t q) q (filter t (filter p qs)))
  go false h = omega (arith, h, counted (t q) q (filter t qs), counted (t q) q (filter t (filter (λ q. not (p q)) qs)))

-- those that a purge takes out as they wait and those that it grants are different requests of the list
count_purge : (t : Request → Bool) (requestor : ℕ) (qs : List Request)
    → length (filter t (waiting_of requestor qs)) + length (filter t (granted_by_purge requestor qs)) ≤ length (filter t qs)
count_purge t requestor qs =
    let p : Request → Bool = of_requestor requestor in
    let parts : length (filter t (filter p qs)) ≡ length (filter t (filter p (granted qs))) + length (filter t (filter p (waiting qs))) =
    part p in
    omega (arith, parts, count_both t p qs, count_newly t qs (purged requestor qs)) where
      part : (p : Request → Bool) → length (filter t (filter p qs)) ≡ length (filter t (filter p (granted qs))) + length
          (filter t (filter p (waiting qs)))
      part p = ap (λ rs. length (filter t (filter p rs))) (sym (granted_split qs)) ∙ split (granted qs) (waiting qs) where
        split : (xs ys : List Request) → length (filter t (filter p (xs ++ ys))) ≡ length (filter t (filter p xs)) + length
            (filter t (filter p ys))
        split [] ys = omega arith
        split (x ∷ xs) ys = go (p x) (split xs ys) where
          go : (b : Bool) → length (filter t (filter p (xs ++ ys))) ≡ length (filter t (filter p xs)) + length (filter t (filter p ys))
              → length (filter t (cond b (x ∷ filter p (xs ++ ys)) (filter p (xs ++ ys)))) ≡ length
              (filter t (cond b (x ∷ filter p xs) (filter p xs))) + length (filter t (filter p ys))
          go true h = omega (arith, h, counted (t x) x (filter t (filter p (xs ++ ys))), counted (t x) x (filter t (filter p xs)))
          go false h = h

-- a count over parts, the first part apart
flat_counts : (t : Request → Bool) (f : List Request → List Request) (qs : List Request) (lists : List (List Request))
    → length (filter t (flat_map f (qs ∷ lists))) ≡ length (filter t (f qs)) + length (filter t (flat_map f lists))
flat_counts t f qs lists = count_split t (f qs) (flat_map f lists)

-- the same over all lists
count_purges : (t : Request → Bool) (requestor : ℕ) (lists : List (List Request))
    → length (filter t (flat_map (waiting_of requestor) lists)) + length
    (filter t (flat_map (granted_by_purge requestor) lists)) ≤ count_in t lists
count_purges t requestor [] = omega arith
count_purges t requestor (qs ∷ lists) =
    omega (
      arith,
      flat_counts t (waiting_of requestor) qs lists,
      flat_counts t (granted_by_purge requestor) qs lists,
      count_purge t requestor qs,
      count_purges t requestor lists,
    )

-- one list counts no more than all
count_list : (t : Request → Bool) (lists : List (List Request)) (latch : ℕ) → length (filter t (list_of lists latch)) ≤ count_in t lists
count_list t [] latch = omega arith
count_list t (qs ∷ lists) zero = omega arith
count_list t (qs ∷ lists) (suc latch) = omega (arith, count_list t lists latch)

-- no more wakes post than requests of the lists do
wakes_post : (k : ℕ) (op : LatchOp) (lists : List (List Request)) → length (blocks_of (wakes k op lists)) ≤ count_in posts lists
wakes_post k (Obtain latch requestor mode form) lists = omega arith
wakes_post k (Confirm latch id) lists = omega arith
wakes_post k (Release latch id conditional) lists =
    let old : List Request = list_of lists latch in
    let new : List Request = (release_step k id conditional (list_of lists latch)).0 in
    omega (
      arith,
      blocks_count 0 (newly_granted old new),
      count_newly posts old new,
      count_released posts k id conditional old,
      count_list posts lists latch,
    )
wakes_post k (Purge requestor) lists =
    omega (
      arith,
      blocks-append (map (wake_of 1) (flat_map (waiting_of requestor) lists))
          (map (wake_of 0) (flat_map (granted_by_purge requestor) lists)),
      blocks_count 1 (flat_map (waiting_of requestor) lists),
      blocks_count 0 (flat_map (granted_by_purge requestor) lists),
      count_purges posts requestor lists,
    )

-- ---- and these the quotas bound
abbrev first : ℕ → Request → Bool
first n q = nat_lt q.caller n && posts q

none_posts : (q : Request) → first 0 q ≡ false
none_posts q = rw (le-ltb q.caller 0 (omega arith)) refl

-- below n + 1 is below n or n itself
first_one : (n : ℕ) (q : Request) → one_if (first (suc n) q) ≡ one_if (first n q) + one_if (posted_of n q)
first_one n q = go q.caller (posts q) where
  go : (k : ℕ) (b : Bool) → one_if (nat_lt k (suc n) && b) ≡ one_if (nat_lt k n && b) + one_if ((k == n) && b)
  go k true = grind (arith, nat_tests)
  go k false = grind (arith, nat_tests)

-- a fair list's requests are of the configuration's callers
all_first_list : (c : Setup) (qs : List Request) → AllByRecursion (IsFair c) qs
    → length (filter posts qs) ≡ length (filter (first c.callers) qs)
all_first_list c [] a = refl
all_first_list c (q ∷ qs) a =
    omega (
      arith,
      all_first_list c qs a.1,
      length_kept (posts q) q (filter posts qs),
      length_kept (first c.callers q) q (filter (first c.callers) qs),
      ap (λ b. one_if (b && posts q)) (lt-ltb q.caller c.callers a.0.0),
    )

-- so are those of all lists
all_first : (c : Setup) (lists : List (List Request)) → AllFair c lists → count_in posts lists ≡ count_in (first c.callers) lists
all_first c [] a = refl
all_first c (qs ∷ lists) a = omega (arith, all_first_list c qs a.0, all_first c lists a.1)

-- no more wakes post than the quotas allow
pub few_wakes_post : (c : Setup) (es : List Entry) (k : ℕ) (op : LatchOp) → Legal c es
    → length (blocks_of (wakes k op (after c es).latches.state)) ≤ c.callers * c.posted_quota
few_wakes_post c es k op l =
    let o = requests_kept c es l in
    omega (
      arith,
      wakes_post k op (after c es).latches.state,
      all_first c (after c es).latches.state o.fair,
      first_fit first posted_of none_posts first_one (after c es).latches.state c.posted_quota c.callers o.quotas.posted,
    )

-- ---- what the posts of these blocks cost
fair_blocks : (c : Setup) (ws : List Wake) → AllByRecursion (IsFairWake c) ws → AllByRecursion (λ e. e < length c.owners) (blocks_of ws)
fair_blocks c [] a = tt
fair_blocks c (w ∷ ws) a = go w.ecb a.0.2 (fair_blocks c ws a.1) where
  go : (e : Option ℕ) → IfSome e (λ b. IsBlockOf c w.caller b) → AllByRecursion (λ e. e < length c.owners) (blocks_of ws)
      → AllByRecursion (λ e. e < length c.owners) (blocks_of (record w { ecb = e } ∷ ws))
  go (Some b) is rest = (is.0, rest)
  go None is rest = rest

-- a number of a range is at most the greatest
greatest_at : (f : ℕ → ℕ) (a n e : ℕ) → a ≤ e → e < a + n → f e ≤ greatest (map f (range_with_len a n))
greatest_at f a zero e low high = absurd (omega arith)
greatest_at f a (suc n) e low high = elim (cases_eq e a) [
  | inl same ↦ let here : f e ≡ f a = ap f same in omega (arith, here)
  | inr apart ↦ omega (arith, greatest_at f (a + 1) n e (omega arith) (omega arith))
]

-- a sum of numbers that each are at most so much
total_fits : (f : ℕ → ℕ) (most n : ℕ) (es : List ℕ) → ((e : ℕ) → e < n → f e ≤ most) → AllByRecursion (λ e. e < n) es
    → total f es ≤ length es * most
total_fits f most n [] each a = omega arith
total_fits f most n (e ∷ es) each a = omega (arith, each e a.0, total_fits f most n es each a.1)

-- the posts of all wakes, and one event more, fit what a release may cost
pub wakes_cost : (c : Setup) (es : List Entry) (k : ℕ) (op : LatchOp) → Legal c es → release_cost c ≤ 524287
    → total (reach c) (blocks_of (wakes k op (after c es).latches.state)) + 1 ≤ release_cost c
wakes_cost c es k op l exact =
    let most : ℕ = greatest (map (reach c) (range_with_len 0 (length c.owners))) in
    let ws : List Wake = wakes k op (after c es).latches.state in
    let sum : total (reach c) (blocks_of ws) ≤ length (blocks_of ws) * most =
    total_fits (reach c) most (length c.owners) (blocks_of ws)
    (λ e lt. greatest_at (reach c) 0 (length c.owners) e (omega arith) (omega arith)) (fair_blocks c ws (wakes_are_fair c es k op l)) in
    let fits : length (blocks_of ws) * most ≤ c.callers * c.posted_quota * most = mul-le (length (blocks_of ws)) most
    (c.callers * c.posted_quota) most (few_wakes_post c es k op l) (omega arith) in
    omega (arith, sum, fits, exact)
