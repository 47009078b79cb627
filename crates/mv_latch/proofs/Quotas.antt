-- The quotas are kept, and bound how many requests there are.
use Rattle.std.proofs.Common.{◌≡◌, ℕ, ◌+◌, ◌*◌, ◌^◌, ◌<◌, ◌≤◌, inl, inr, zero, suc, nat_lt, nat_le, Bool, true, false, not}
use Rattle.std.proofs.Common.{List, [], ◌∷◌, ◌++◌, length, map, filter, set, replicate, cond, refl, ap, subst, arith, length-append}
use Rattle.std.specs.List.{AllByRecursion, flat_map}
use Rattle.std.proofs.lemmas.Bool.{cases_eq, ne_eqb, le-ltb, lt-leb}
use Rattle.std.proofs.lemmas.Bool.Decides.{nat_tests}
use Rattle.std.proofs.lemmas.List.{set-get_or}
use Rattle.std.proofs.lemmas.List.Filters.{length-filter_both}
use Rattle.mv_latch.specs.declared.request.Request.{Request}
use Rattle.mv_latch.specs.declared.operation.LatchReply.{LatchReply}
use Rattle.mv_latch.specs.Request.{of_caller, of_requestor, has_id, is_own}
use Rattle.mv_latch.specs.Latch.{granted, waiting, waiting_of, granted_by_purge, purged, HasDistinctIds, obtain_step, release_step, without}
use Rattle.mv_latch.specs.LatchSet.{LatchLists, opened, list_of, count_in, request_count, IsNewId, IsSound, at_latch}
use Rattle.mv_latch.proofs.Splits.{count_split, count_filter, length_filter, granted_split}
use Rattle.mv_latch.proofs.Grants.{newly_fit}
use Rattle.mv_latch.proofs.Purges.{distinct_at}

-- ---- counts of a test in all lists
pub count_set : (t : Request → Bool) (lists : List (List Request)) (i : ℕ) (qs : List Request) → i < length lists
    → count_in t (set lists i qs) + length (filter t (list_of lists i)) ≡ count_in t lists + length (filter t qs)
count_set t [] i qs lt = absurd (omega arith)
count_set t (old ∷ rest) zero qs lt = omega arith
count_set t (old ∷ rest) (suc i) qs lt = omega (arith, count_set t rest i qs (omega arith))

pub count_new : (t : Request → Bool) (n : ℕ) → count_in t (replicate n []) ≡ 0
count_new t zero = refl
count_new t (suc n) = omega (arith, count_new t n)

pub count_purged : (t : Request → Bool) (requestor : ℕ) (lists : List (List Request))
    → count_in t (map (purged requestor) lists) ≤ count_in t lists
count_purged t requestor [] = omega arith
count_purged t requestor (qs ∷ rest) = omega (arith, count_filter t (λ q. not (of_requestor requestor q)) qs, count_purged t requestor rest)

-- a choice of two lists has no more than the larger
count_either : (t : Request → Bool) (n : ℕ) (b : Bool) (x y : List Request × LatchReply) → length (filter t x.0) ≤ n
    → length (filter t y.0) ≤ n → length (filter t (cond b x y).0) ≤ n
count_either t n true x y a c = a
count_either t n false x y a c = c

-- an obtain adds its own request at most
pub count_obtained : (t : Request → Bool) (r : Request) (qs : List Request)
    → length (filter t (obtain_step r qs).0) ≤ length (filter t qs) + length (filter t (r ∷ []))
count_obtained t r qs =
    let more : length (filter t (qs ++ r ∷ [])) ≤ length (filter t qs) + length (filter t (r ∷ [])) =
    omega (arith, count_split t qs (r ∷ [])) in
    let same : length (filter t qs) ≤ length (filter t qs) + length (filter t (r ∷ [])) = omega arith in
    search count_either

-- and a release adds none
pub count_released : (t : Request → Bool) (k id : ℕ) (conditional : Bool) (qs : List Request)
    → length (filter t (release_step k id conditional qs).0) ≤ length (filter t qs)
count_released t k id conditional qs =
    let less : length (filter t (without k id qs)) ≤ length (filter t qs) = count_filter t (λ q. not (is_own k id q)) qs in
    let same : length (filter t qs) ≤ length (filter t qs) = omega arith in
    search count_either

-- ---- how many requests there are
same_all : (p q : Request → Bool) → ((x : Request) → q x ≡ not (p x)) → (lists : List (List Request))
    → count_in p lists + count_in q lists ≡ request_count lists
same_all p q other [] = refl
same_all p q other (qs ∷ rest) = omega (arith, length-filter_both p q other qs, same_all p q other rest)

-- the requests of the first callers
abbrev below : ℕ → Request → Bool
below n q = nat_lt q.caller n

-- what one request adds to a count
abbrev pub one_if : Bool → ℕ
one_if b = cond b 1 0

pub length_kept : (b : Bool) (q : Request) (qs : List Request) → length (cond b (q ∷ qs) qs) ≡ one_if b + length qs
length_kept true q qs = omega arith
length_kept false q qs = omega arith

-- a test of the first callers that holds of one more where a test of that caller does
module _ (first own : ℕ → Request → Bool) (none : (q : Request) → first 0 q ≡ false)
    (more : (n : ℕ) (q : Request) → one_if (first (suc n) q) ≡ one_if (first n q) + one_if (own n q)) where
  first_list : (n : ℕ) (qs : List Request) → length (filter (first (suc n)) qs) ≡ length (filter (first n) qs) + length (filter (own n) qs)
  first_list n [] = refl
  first_list n (q ∷ qs) =
      omega (
        arith,
        first_list n qs,
        more n q,
        length_kept (first (suc n) q) q (filter (first (suc n)) qs),
        length_kept (first n q) q (filter (first n) qs),
        length_kept (own n q) q (filter (own n) qs),
      )

  -- so the counts add up
  pub first_more : (n : ℕ) (lists : List (List Request)) → count_in (first (suc n)) lists
      ≡ count_in (first n) lists + count_in (own n) lists
  first_more n [] = refl
  first_more n (qs ∷ rest) = omega (arith, first_list n qs, first_more n rest)

  none_first : (qs : List Request) → length (filter (first 0) qs) ≡ 0
  none_first [] = refl
  none_first (q ∷ qs) = rw (none q) (none_first qs)

  first_none : (lists : List (List Request)) → count_in (first 0) lists ≡ 0
  first_none [] = refl
  first_none (qs ∷ rest) = omega (arith, none_first qs, first_none rest)

  -- and with a quota for each caller, n callers have n quotas
  pub first_fit : (lists : List (List Request)) (quota n : ℕ) → ((k : ℕ) → count_in (own k) lists ≤ quota)
      → count_in (first n) lists ≤ n * quota
  first_fit lists quota zero q = omega (arith, first_none lists)
  first_fit lists quota (suc n) q = omega (arith, first_more n lists, first_fit lists quota n q, q n)

none_below : (q : Request) → below 0 q ≡ false
none_below q = le-ltb q.caller 0 (omega arith)

below_one : (n : ℕ) (q : Request) → one_if (below (suc n) q) ≡ one_if (below n q) + one_if (of_caller n q)
below_one n q = grind (arith, nat_tests)

below_more : (n : ℕ) (lists : List (List Request)) → count_in (below (suc n)) lists
    ≡ count_in (below n) lists + count_in (of_caller n) lists
below_more = first_more below of_caller none_below below_one

below_fit : (lists : List (List Request)) (quota n : ℕ) → ((k : ℕ) → count_in (of_caller k) lists ≤ quota)
    → count_in (below n) lists ≤ n * quota
below_fit = first_fit below of_caller none_below below_one

below_free : (lists : List (List Request)) (quota n k : ℕ) → ((caller : ℕ) → count_in (of_caller caller) lists ≤ quota) → k < n
    → count_in (of_caller k) lists < quota → count_in (below n) lists < n * quota
below_free lists quota zero k q lt free = absurd (omega arith)
below_free lists quota (suc n) k q lt free = elim (cases_eq k n) [
  | inl e ↦ omega (arith, below_more n lists, below_fit lists quota n q, subst (λ c. count_in (of_caller c) lists < quota) e free)
  | inr ne ↦ omega (arith, below_more n lists, below_free lists quota n k q (omega arith) free, q n)
]

other : (n k : ℕ) → nat_le n k ≡ not (nat_lt k n)
other n k = grind (arith, nat_tests)

all_below : (s : LatchLists) → IsSound s → count_in (below s.callers) s.lists ≡ request_count s.lists
all_below s w =
    omega (arith, same_all (below s.callers) (λ q. nat_le s.callers q.caller) (λ q. other s.callers q.caller) s.lists, w.known)

-- the quotas bound how many requests there are
pub total_fit : (s : LatchLists) → IsSound s → request_count s.lists ≤ s.callers * s.quota
total_fit s w = omega (arith, all_below s w, below_fit s.lists s.quota s.callers w.quotas)

-- where a caller has not used up its quota, there is room for one more
pub total_free : (s : LatchLists) (caller : ℕ) → IsSound s → caller < s.callers → count_in (of_caller caller) s.lists < s.quota
    → request_count s.lists < s.callers * s.quota
total_free s caller w lt free = omega (arith, all_below s w, below_free s.lists s.quota s.callers caller w.quotas lt free)

-- ---- what keeps a latch set sound
pub sound_new : (latches callers quota posted : ℕ) → callers * quota < 2 ^ 32 → IsSound (opened latches callers quota posted)
sound_new latches callers quota posted lt = record {
  quotas = λ c. omega (arith, count_new (of_caller c) latches);
  known = count_new (λ q. nat_le callers q.caller) latches;
  distinct = λ i. omega (arith, count_new (has_id i) latches);
  fits = lt;
}

-- fewer requests of each kind
pub sound_less : (s : LatchLists) (lists : List (List Request)) → ((t : Request → Bool) → count_in t lists ≤ count_in t s.lists) → IsSound s
    → IsSound (record s { lists = lists })
sound_less s lists less w = record {
  quotas = λ c. omega (arith, less (of_caller c), w.quotas c);
  known = omega (arith, less (λ q. nat_le s.callers q.caller), w.known);
  distinct = λ i. omega (arith, less (has_id i), w.distinct i);
  fits = w.fits;
}

count_push : (t : Request → Bool) (lists : List (List Request)) (i : ℕ) (r : Request) → i < length lists
    → count_in t (set lists i (list_of lists i ++ r ∷ [])) ≡ count_in t lists + one_if (t r)
count_push t lists i r lt =
    omega (arith, count_set t lists i (list_of lists i ++ r ∷ []) lt, count_split t (list_of lists i) (r ∷ []), length_kept (t r) r [])

at_most_one : (b : Bool) → one_if b ≤ 1
at_most_one true = omega arith
at_most_one false = omega arith

-- one more request of a caller that has not used up its quota
pub sound_more : (s : LatchLists) (i : ℕ) (r : Request) → i < length s.lists → IsSound s → r.caller < s.callers
    → count_in (of_caller r.caller) s.lists < s.quota → IsNewId r.id s.lists
    → IsSound (record s { lists = set s.lists i (list_of s.lists i ++ r ∷ []) })
sound_more s i r lt w known free new = record {
  quotas = λ c. elim (cases_eq r.caller c) [
    | inl e ↦ omega (
      arith,
      count_push (of_caller c) s.lists i r lt,
      at_most_one (of_caller c r),
      subst (λ k. count_in (of_caller k) s.lists < s.quota) e free,
    )
    | inr ne ↦ omega (arith, count_push (of_caller c) s.lists i r lt, ap one_if (ne_eqb r.caller c ne), w.quotas c)
  ];
  known = omega (arith, count_push (λ q. nat_le s.callers q.caller) s.lists i r lt, ap one_if (lt-leb s.callers r.caller known), w.known);
  distinct = λ id. elim (cases_eq r.id id) [
    | inl e ↦ omega (
      arith,
      count_push (has_id id) s.lists i r lt,
      at_most_one (has_id id r),
      subst (λ k. count_in (has_id k) s.lists ≡ 0) e new,
    )
    | inr ne ↦ omega (arith, count_push (has_id id) s.lists i r lt, ap one_if (ne_eqb r.id id ne), w.distinct id)
  ];
  fits = w.fits;
}

-- ---- the operations keep it sound
-- the set with one list replaced is sound
abbrev SoundWith : LatchLists → ℕ → List Request → Type 0
SoundWith s i qs = IsSound (record s { lists = set s.lists i qs })

-- a choice of two outcomes keeps it so, where both do
either : (s : LatchLists) (i : ℕ) (b : Bool) (x y : List Request × LatchReply) → SoundWith s i x.0 → SoundWith s i y.0
    → SoundWith s i (cond b x y).0
either s i true x y sx sy = sx
either s i false x y sx sy = sy

sound_same : (s : LatchLists) (i : ℕ) → IsSound s → SoundWith s i (list_of s.lists i)
sound_same s i w = sound_less s (set s.lists i (list_of s.lists i)) (λ t. rw (set-get_or s.lists i []) (omega arith)) w

pub sound_obtain : (s : LatchLists) (i : ℕ) (r : Request) → i < length s.lists → IsSound s → r.caller < s.callers
    → count_in (of_caller r.caller) s.lists < s.quota → IsNewId r.id s.lists
    → IsSound (record s { lists = (at_latch s.lists i (obtain_step r (list_of s.lists i))).0 })
sound_obtain s i r lt w known free new =
    let more : SoundWith s i (list_of s.lists i ++ r ∷ []) = sound_more s i r lt w known free new in
    let same : SoundWith s i (list_of s.lists i) = sound_same s i w in
    search either

pub sound_release : (s : LatchLists) (i caller id : ℕ) (conditional : Bool) → i < length s.lists → IsSound s
    → IsSound (record s { lists = (at_latch s.lists i (release_step caller id conditional (list_of s.lists i))).0 })
sound_release s i caller id conditional lt w =
    let left : List Request = (release_step caller id conditional (list_of s.lists i)).0 in
    sound_less s (set s.lists i left)
    (λ t. omega (arith, count_set t s.lists i left lt, count_released t caller id conditional (list_of s.lists i))) w

pub sound_purge : (s : LatchLists) (requestor : ℕ) → IsSound s → IsSound (record s { lists = map (purged requestor) s.lists })
sound_purge s requestor w = sound_less s (map (purged requestor) s.lists) (λ t. count_purged t requestor s.lists) w

pub all_distinct : (lists : List (List Request)) → ((id : ℕ) → count_in (has_id id) lists ≤ 1) → AllByRecursion HasDistinctIds lists
all_distinct [] d = tt
all_distinct (qs ∷ rest) d = (λ id. omega (arith, d id), all_distinct rest (λ id. omega (arith, d id)))

pub list_distinct : (lists : List (List Request)) (i : ℕ) → ((id : ℕ) → count_in (has_id id) lists ≤ 1) → HasDistinctIds (list_of lists i)
list_distinct lists i d = distinct_at lists i (all_distinct lists d)

-- ---- room for the wakes
waiting_fit : (requestor : ℕ) (qs : List Request) → length (waiting_of requestor qs) + length (granted_by_purge requestor qs) ≤ length qs
waiting_fit requestor qs =
    let t = of_requestor requestor in
    omega (
      arith,
      ap (λ z. length (filter t z)) (granted_split qs),
      count_split t (granted qs) (waiting qs),
      newly_fit qs (purged requestor qs),
      length-filter_both t (λ q. not (t q)) (λ _. refl) qs,
    )

-- a purge tells of no more requests than stand in the lists
purge_fit : (requestor : ℕ) (lists : List (List Request))
    → length (flat_map (waiting_of requestor) lists) + length (flat_map (granted_by_purge requestor) lists) ≤ request_count lists
purge_fit requestor [] = omega arith
purge_fit requestor (qs ∷ rest) =
    omega (
      arith,
      purge_fit requestor rest,
      waiting_fit requestor qs,
      length-append (waiting_of requestor qs) (flat_map (waiting_of requestor) rest),
      length-append (granted_by_purge requestor qs) (flat_map (granted_by_purge requestor) rest),
    )

-- no more of them meet a test
count_total : (t : Request → Bool) (lists : List (List Request)) → count_in t lists ≤ request_count lists
count_total t [] = omega arith
count_total t (qs ∷ rest) = omega (arith, length_filter t qs, count_total t rest)

-- so 32 bits count any of them
pub counts_fit : (t : Request → Bool) (s : LatchLists) → IsSound s → count_in t s.lists < 2 ^ 32
counts_fit t s w = omega (arith, count_total t s.lists, total_fit s w, w.fits)

-- the wakes of a purge are no more than the requests that the quotas allow
pub purge_told : (requestor : ℕ) (s : LatchLists) → IsSound s
    → length (flat_map (waiting_of requestor) s.lists) + length (flat_map (granted_by_purge requestor) s.lists) ≤ s.callers * s.quota
purge_told requestor s w = omega (arith, purge_fit requestor s.lists, total_fit s w)
