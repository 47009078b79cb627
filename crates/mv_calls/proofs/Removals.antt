-- A request that stands by its caller's entries is in its latch's list, or another caller's purge took it out.
use Rattle.std.proofs.Common.{◌≡◌, ◌⊎◌, ℕ, ◌+◌, ◌<◌, ◌≤◌, Bool, true, false, not, ◌&&◌, List, [], ◌∷◌, ◌++◌, length, filter}
use Rattle.std.proofs.Common.{map, set, cond, inl, inr, refl, sym, ap, ◌∙◌, subst, arith, append_assoc, append-nil}
use Rattle.std.specs.List.{AllByRecursion, Contains, list_any}
use Rattle.std.proofs.lemmas.Bool.{cases_eq, cases_Bool, false≢true, eqb-true, eq-eqb, ne_eqb, and_parts, not-true}
use Rattle.std.proofs.lemmas.List.{get_or-set_same, get_or-set_other}
use Rattle.std.proofs.lemmas.List.Elements.{Contains-append_left, Contains-push, Contains-push_cases, All-contains}
use Rattle.std.proofs.lemmas.List.Elements.{All-from_recursion}
use Rattle.std.proofs.Math.ListN.{get_or-map}
use Rattle.mv_latch.specs.declared.operation.LatchOp.{LatchOp}
use Rattle.mv_latch.specs.declared.operation.LatchOp.TheVariants.{Obtain, Confirm, Release, Purge}
use Rattle.mv_latch.specs.declared.operation.LatchReply.{LatchReply}
use Rattle.mv_latch.specs.declared.operation.LatchReply.TheVariants.{Granted, Queued, NotNow, Waiting, Gone, Released, Purged}
use Rattle.mv_latch.specs.declared.request.LatchForm.{LatchForm}
use Rattle.mv_latch.specs.declared.request.Mode.{Mode}
use Rattle.mv_latch.specs.declared.request.Request.{Request}
use Rattle.mv_latch.specs.Latch.{granted, grants, blocker, confirm_reply, newly_granted, without, purged}
use Rattle.mv_latch.specs.LatchSet.{list_of, latch_step}
use Rattle.mv_latch.specs.Request.{queues, is_own, of_requestor}
use Rattle.mv_latch.proofs.Members.{not_in_empty, first_or_rest, passes, was_in}
use Rattle.mv_machine.specs.declared.entry.Entry.{Entry}
use Rattle.mv_machine.specs.declared.entry.Object.{Object}
use Rattle.mv_machine.specs.declared.entry.Object.TheVariants.{Ecb, Element, Volume, Latches}
use Rattle.mv_machine.specs.declared.entry.Op.{Op}
use Rattle.mv_machine.specs.declared.entry.Op.TheVariants as op_on
use Rattle.mv_machine.specs.declared.entry.Reply.{Reply}
use Rattle.mv_machine.specs.declared.entry.Reply.TheVariants as reply_of
use Rattle.mv_machine.specs.Kept.{StandingRequest, is_named, is_for, less, stands_after, stands_with, standing_from, standing}
use Rattle.mv_machine.specs.Legal.{IsNext, next, Legal, after, of}
use Rattle.mv_config.specs.Setup.{Setup}
use Rattle.mv_machine.specs.System.{System, moved}
use Rattle.mv_machine.proofs.Lists.{all_push, all_filter}
use Rattle.mv_machine.proofs.EntryRuns.{entry_of}
use Rattle.mv_machine.proofs.Histories.{by_last}
use Rattle.mv_machine.proofs.LatchRuns.{list_at}
use Rattle.mv_machine.proofs.Longer.{after_longer, last_is_next, front_is_legal}
use Rattle.mv_machine.proofs.Objects.{of-append}
use Rattle.mv_machine.proofs.Standing.{stood}
use Rattle.mv_machine.proofs.StandingRuns.{NamesLatch, names_of}
use Rattle.mv_machine.specs.Replies.{HasPlaceAsNumber}
use Rattle.mv_machine.specs.Leaving.{takes_out, WasPurged}
use Rattle.mv_machine.proofs.Grants.{left_in, stays_next}
use Rattle.mv_machine.proofs.Replies.{request_has_place}

-- ---- the requests that stand, with one entry more
pub standing_from-append : (ts : List StandingRequest) (xs ys : List Entry)
    → standing_from ts (xs ++ ys) ≡ standing_from (standing_from ts xs) ys
standing_from-append ts [] ys = refl
standing_from-append ts (x ∷ xs) ys = standing_from-append (stands_with x.caller ts x.object x.op x.reply) xs ys

-- what stands behind one more entry of the caller's own
pub standing_own : (k : ℕ) (es : List Entry) (e : Entry) → e.caller ≡ k
    → standing (of k (es ++ e ∷ [])) ≡ stands_with e.caller (standing (of k es)) e.object e.op e.reply
standing_own k es e own = ap standing (of-append k es (e ∷ []) ∙ ap (λ b. of k es ++ cond b (e ∷ []) []) (eq-eqb e.caller k own))
    ∙ standing_from-append [] (of k es) (e ∷ [])

-- another caller's entry changes nothing that stands
pub standing_other : (k : ℕ) (es : List Entry) (e : Entry) → (e.caller ≡ k → ⊥) → standing (of k (es ++ e ∷ [])) ≡ standing (of k es)
standing_other k es e other = ap standing (of-append k es (e ∷ [])
    ∙ (ap (λ b. of k es ++ cond b (e ∷ []) []) (ne_eqb e.caller k other) ∙ append-nil (of k es)))

-- ---- their numbers rise, and are earlier than the place
abbrev pub Rises : ℕ → List StandingRequest → Type 0
Rises low [] = Unit {0}
Rises low (t ∷ ts) = (low ≤ t.request.id) × Rises (t.request.id + 1) ts

-- standing requests whose numbers rise and are below a place, all of one caller
pub record AreRisen (k place : ℕ) (ts : List StandingRequest) : Type 0 where
  pub rises : Rises 0 ts
  pub below : AllByRecursion (λ t. t.request.id < place) ts
  pub mine : AllByRecursion (λ t. t.request.caller ≡ k) ts

-- numbers that rise from one on rise from a lower one on
lower : (low high : ℕ) (ts : List StandingRequest) → low ≤ high → Rises high ts → Rises low ts
lower low high [] le r = tt
lower low high (t ∷ ts) le r = (omega (arith, r.0), r.1)

-- what a filter leaves rises too
rises_left : (p : StandingRequest → Bool) (low : ℕ) (ts : List StandingRequest) → Rises low ts → Rises low (filter p ts)
rises_left p low [] r = tt
rises_left p low (t ∷ ts) r = elim (p t) as (λ b. Rises low (cond b (t ∷ filter p ts) (filter p ts))) [
  | true ↦ (r.0, rises_left p (t.request.id + 1) ts r.1)
  | false ↦ lower low (t.request.id + 1) (filter p ts) (omega (arith, r.0)) (rises_left p (t.request.id + 1) ts r.1)
]

-- and so it does with a new highest number
rises_pushed : (low place : ℕ) (ts : List StandingRequest) (u : StandingRequest) → low ≤ place → u.request.id ≡ place → Rises low ts
    → AllByRecursion (λ t. t.request.id < place) ts → Rises low (ts ++ u ∷ [])
rises_pushed low place [] u le is r b = (omega arith, tt)
rises_pushed low place (t ∷ ts) u le is r b = (r.0, rises_pushed (t.request.id + 1) place ts u (omega (arith, b.0)) is r.1 b.1)

-- what is below one place is below a later one
later : (m n : ℕ) (ts : List StandingRequest) → m ≤ n → AllByRecursion (λ t. t.request.id < m) ts
    → AllByRecursion (λ t. t.request.id < n) ts
later m n [] le a = tt
later m n (t ∷ ts) le a = (omega (arith, a.0), later m n ts le a.1)

-- all of that at a later place
risen_later : (k m n : ℕ) (ts : List StandingRequest) → m ≤ n → AreRisen k m ts → AreRisen k n ts
risen_later k m n ts le r = record { rises = r.rises; below = later m n ts le r.below; mine = r.mine }

-- with some taken out
risen_less : (k m n : ℕ) (p : StandingRequest → Bool) (ts : List StandingRequest) → m ≤ n → AreRisen k m ts → AreRisen k n (filter p ts)
risen_less k m n p ts le r = record {
  rises = rises_left p 0 ts r.rises;
  below = all_filter (λ t. t.request.id < n) p ts (later m n ts le r.below);
  mine = all_filter (λ t. t.request.caller ≡ k) p ts r.mine;
}

-- with one more, which has the place as its number
risen_more : (k place : ℕ) (u : StandingRequest) (ts : List StandingRequest) → u.request.id ≡ place → u.request.caller ≡ k
    → AreRisen k place ts → AreRisen k (place + 1) (ts ++ u ∷ [])
risen_more k place u ts is own r = record {
  rises = rises_pushed 0 place ts u (omega arith) is r.rises r.below;
  below = all_push (λ t. t.request.id < place + 1) ts u (later place (place + 1) ts (omega arith) r.below) (omega arith);
  mine = all_push (λ t. t.request.caller ≡ k) ts u r.mine own;
}

-- and so after each operation on the latch set
risen_after : (k place : ℕ) (op : LatchOp) (y : LatchReply) (ts : List StandingRequest)
    → HasPlaceAsNumber place (op_on.Latch op) (reply_of.Latch y) → AreRisen k place ts → AreRisen k (place + 1) (stands_after k ts op y)
risen_after k place (Obtain latch requestor mode form) (Granted id) ts is r =
    risen_more k place (record { latch = latch; request = record { id = id; caller = k; requestor = requestor; mode = mode; form = form } })
    ts is refl r
risen_after k place (Obtain latch requestor mode form) (Queued id) ts is r =
    risen_more k place (record { latch = latch; request = record { id = id; caller = k; requestor = requestor; mode = mode; form = form } })
    ts is refl r
risen_after k place (Confirm latch id) Gone ts is r = risen_less k place (place + 1) _ ts (omega arith) r
risen_after k place (Release latch id conditional) Gone ts is r = risen_less k place (place + 1) _ ts (omega arith) r
risen_after k place (Release latch id conditional) (Released n) ts is r = risen_less k place (place + 1) _ ts (omega arith) r
risen_after k place (Purge requestor) (Purged a b) ts is r = risen_less k place (place + 1) _ ts (omega arith) r
risen_after k place op y ts is r = risen_later k place (place + 1) ts (omega arith) r

-- so after each entry of the caller's own
risen_own : (c : Setup) (s : System) (k : ℕ) (o : Object) (p : ℕ) (op : Op) (y : Reply) (ts : List StandingRequest)
    → IsNext c s (entry_of k o p op y) → AreRisen k s.latches.place ts → AreRisen k (moved s k o op).latches.place (stands_with k ts o op y)
risen_own c s k Latches p (op_on.Latch op) (reply_of.Latch y) ts h r =
    let at : p ≡ s.latches.place = h.place in
    risen_after k s.latches.place op y ts (subst (λ z. HasPlaceAsNumber z (op_on.Latch op) (reply_of.Latch y)) at
    (request_has_place c s (entry_of k Latches p (op_on.Latch op) (reply_of.Latch y)) h)) r
risen_own c s k Latches p (op_on.Latch op) y ts h r = absurd (cc h.reply)
risen_own c s k (Ecb m) p (op_on.Ecb op) y ts h r = r
risen_own c s k (Element m) p (op_on.Element op) y ts h r = r
risen_own c s k (Volume m) p (op_on.Volume op) y ts h r = r
risen_own c s k o p op y ts h r = absurd (false≢true h.admits)

-- no entry lowers the place of the latch set
pub place_up : (s : System) (k : ℕ) (o : Object) (op : Op) → s.latches.place ≤ (moved s k o op).latches.place
place_up s k Latches (op_on.Latch op) = omega arith
place_up s k (Ecb m) (op_on.Ecb op) = omega arith
place_up s k (Element m) (op_on.Element op) = omega arith
place_up s k (Volume m) (op_on.Volume op) = omega arith
place_up s k o op = omega arith

-- the requests that stand by a caller's part of a legal list
pub risen : (c : Setup) (k : ℕ) (es : List Entry) → Legal c es → AreRisen k (after c es).latches.place (standing (of k es))
risen c k es = by_last (λ xs. Legal c xs → AreRisen k (after c xs).latches.place (standing (of k xs)))
    (λ l. record { rises = tt; below = tt; mine = tt })
    (λ xs e ih l.
    let h : IsNext c (after c xs) e = last_is_next c xs e l in
    let old : AreRisen k (after c xs).latches.place (standing (of k xs)) = ih (front_is_legal c xs e l) in
    subst (λ (s : System). AreRisen k s.latches.place (standing (of k (xs ++ e ∷ [])))) (sym (after_longer c xs e))
    (elim (cases_eq e.caller k) [
      | inl own ↦
          subst (AreRisen k (next (after c xs) e).latches.place) (sym (standing_own k xs e own))
          (subst (λ j. AreRisen j (next (after c xs) e).latches.place (stands_with e.caller (standing (of k xs)) e.object e.op e.reply)) own
          (risen_own c (after c xs) e.caller e.object e.place e.op e.reply (standing (of k xs)) h
          (subst (λ j. AreRisen j (after c xs).latches.place (standing (of k xs))) (sym own) old)))
      | inr other ↦
          subst (AreRisen k (next (after c xs) e).latches.place) (sym (standing_other k xs e other))
          (risen_later k (after c xs).latches.place (next (after c xs) e).latches.place (standing (of k xs))
          (place_up (after c xs) e.caller e.object e.op) old)
    ])) es

-- two of one number are one
rises_in : (low : ℕ) (t : StandingRequest) (ts : List StandingRequest) → Rises low ts → Contains ts t → low ≤ t.request.id
rises_in low t [] r i = absurd (not_in_empty t i)
rises_in low t (x ∷ xs) r i = elim (first_or_rest x xs t i) [
  | inl e ↦ rw (sym e) (r.0)
  | inr j ↦ omega (arith, r.0, rises_in (x.request.id + 1) t xs r.1 j)
]

-- two of them with one number are one
pub same_standing : (low : ℕ) (t u : StandingRequest) (ts : List StandingRequest) → Rises low ts → Contains ts t → Contains ts u
    → t.request.id ≡ u.request.id → t ≡ u
same_standing low t u [] r i j is = absurd (not_in_empty t i)
same_standing low t u (x ∷ xs) r i j is =
    go (first_or_rest x xs t i) (first_or_rest x xs u j) (λ a b. same_standing (x.request.id + 1) t u xs r.1 a b is) where
      go : (x ≡ t) ⊎ Contains xs t → (x ≡ u) ⊎ Contains xs u → (Contains xs t → Contains xs u → t ≡ u) → t ≡ u
      go (inl e) (inl f) rest = sym e ∙ f
      go (inl e) (inr b) rest = absurd (omega (arith, rises_in (x.request.id + 1) u xs r.1 b, ap (λ (y : StandingRequest). y.request.id) e))
      go (inr a) (inl f) rest = absurd (omega (arith, rises_in (x.request.id + 1) t xs r.1 a, ap (λ (y : StandingRequest). y.request.id) f))
      go (inr a) (inr b) rest = rest a b

-- one of them is its caller's, and has a number below the place
pub stands_below : (c : Setup) (k : ℕ) (es : List Entry) (t : StandingRequest) → Legal c es → Contains (standing (of k es)) t
    → (t.request.id < (after c es).latches.place) × (t.request.caller ≡ k)
stands_below c k es t l i =
    let r = risen c k es l in (
      All-contains (λ (u : StandingRequest). u.request.id < (after c es).latches.place) (standing (of k es)) t
          (All-from_recursion (λ (u : StandingRequest). u.request.id < (after c es).latches.place) (standing (of k es)) r.below) i,
      All-contains (λ (u : StandingRequest). u.request.caller ≡ k) (standing (of k es)) t
          (All-from_recursion (λ (u : StandingRequest). u.request.caller ≡ k) (standing (of k es)) r.mine) i,
    )

-- what stands behind a confirm stood before it
pub stood_at_confirm : (k : ℕ) (ts : List StandingRequest) (t : StandingRequest) (latch id : ℕ) (y : LatchReply)
    → Contains (stands_after k ts (Confirm latch id) y) t → Contains ts t
stood_at_confirm k ts t latch id Gone i = was_in (λ u. not (is_named latch id u)) t ts i
stood_at_confirm k ts t latch id y i = i

-- and what stands behind a release before that
pub stood_at_release : (k : ℕ) (ts : List StandingRequest) (t : StandingRequest) (latch id : ℕ) (conditional : Bool) (y : LatchReply)
    → Contains (stands_after k ts (Release latch id conditional) y) t → Contains ts t
stood_at_release k ts t latch id conditional Gone i = was_in (λ u. not (is_named latch id u)) t ts i
stood_at_release k ts t latch id conditional (Released n) i = was_in (λ u. not (is_named latch id u)) t ts i
stood_at_release k ts t latch id conditional y i = i

-- ---- the caller's own entry
module _ (W : Type 0) (k place : ℕ) (lists : List (List Request)) (ts : List StandingRequest) (t : StandingRequest) (ih : Contains ts t
    → Contains (list_of lists t.latch) t.request ⊎ W) where
  -- it is in its list
  abbrev There : List (List Request) → Type 0
  There ls = Contains (list_of ls t.latch) t.request ⊎ W

  -- where one list is replaced by one that has the request too
  replaced : (latch : ℕ) (qs : List Request) → latch < length lists
      → (t.latch ≡ latch → Contains (list_of lists latch) t.request → Contains qs t.request) → Contains ts t → There (set lists latch qs)
  replaced latch qs lt here i = elim (ih i) [
    | inl j ↦ elim (cases_eq t.latch latch) [
      | inl same ↦ inl (rw same (rw (get_or-set_same lists latch qs [] lt)
          (here same (subst (λ n. Contains (list_of lists n) t.request) same j))))
      | inr apart ↦ inl (rw (get_or-set_other lists latch t.latch qs [] apart) j)
    ]
    | inr w ↦ inr w
  ]

  pushed : (latch : ℕ) (r : Request) → latch < length lists → Contains (ts ++ stood latch r ∷ []) t
      → There (set lists latch (list_of lists latch ++ r ∷ []))
  pushed latch r lt i = elim (Contains-push_cases ts (stood latch r) t i) [
    | inl old ↦ replaced latch (list_of lists latch ++ r ∷ []) lt
        (λ same j. Contains-append_left (list_of lists latch) (r ∷ []) t.request j) old
    | inr new ↦
        inl (subst (λ (u : StandingRequest). Contains (list_of (set lists latch (list_of lists latch ++ r ∷ [])) u.latch) u.request) new
        (rw (get_or-set_same lists latch (list_of lists latch ++ r ∷ []) [] lt) (Contains-push (list_of lists latch) r)))
  ]

  obtained : (latch requestor : ℕ) (mode : Mode) (form : LatchForm) → latch < length lists → (b d : Bool)
      → let r : Request = record { id = place; caller = k; requestor = requestor; mode = mode; form = form } in
      let z : List Request × LatchReply = cond b (list_of lists latch ++ r ∷ [], Granted place)
      (cond d (list_of lists latch ++ r ∷ [], Queued place) (list_of lists latch, NotNow (blocker r (list_of lists latch)))) in
      Contains (stands_after k ts (Obtain latch requestor mode form) z.1) t → There (set lists latch z.0)
  obtained latch requestor mode form lt true d i =
      pushed latch (record { id = place; caller = k; requestor = requestor; mode = mode; form = form }) lt i
  obtained latch requestor mode form lt false true i =
      pushed latch (record { id = place; caller = k; requestor = requestor; mode = mode; form = form }) lt i
  obtained latch requestor mode form lt false false i = replaced latch (list_of lists latch) lt (λ same j. j) i

  not_own : (latch id : ℕ) → t.latch ≡ latch → is_named latch id t ≡ false → not (is_own k id t.request) ≡ true
  not_own latch id same other = grind arith

  released : (latch id : ℕ) (conditional : Bool) → latch < length lists → (b d : Bool)
      → let z : List Request × LatchReply = cond (not b) (list_of lists latch, Gone)
      (cond d (list_of lists latch, Waiting) (
        without k id (list_of lists latch),
        Released
            (length (newly_granted (list_of lists latch) (without k id (list_of lists latch)))),
      )) in
      Contains (stands_after k ts (Release latch id conditional) z.1) t → There (set lists latch z.0)
  released latch id conditional lt false d i = replaced latch (list_of lists latch) lt (λ same j. j)
      (was_in (λ u. not (is_named latch id u)) t ts i)
  released latch id conditional lt true true i = replaced latch (list_of lists latch) lt (λ same j. j) i
  released latch id conditional lt true false i =
      replaced latch (without k id (list_of lists latch)) lt
      (λ same j. left_in (λ x. not (is_own k id x)) t.request (list_of lists latch)
      (not_own latch id same (not-true (is_named latch id t) (passes (λ u. not (is_named latch id u)) t ts i))) j)
      (was_in (λ u. not (is_named latch id u)) t ts i)

  purge_leaves : (requestor : ℕ) → Contains (less (is_for requestor) ts) t → There (map (purged requestor) lists)
  purge_leaves requestor i = elim (ih (was_in (λ u. not (is_for requestor u)) t ts i)) [
    | inl j ↦
        inl (rw (get_or-map (purged requestor) lists t.latch [])
        (left_in (λ x. not (of_requestor requestor x)) t.request (list_of lists t.latch)
        (passes (λ u. not (is_for requestor u)) t ts i) j))
    | inr w ↦ inr w
  ]

  own_step : (op : LatchOp) → NamesLatch op lists → Contains (stands_after k ts op (latch_step k place op lists).1) t
      → There (latch_step k place op lists).0
  own_step (Obtain latch requestor mode form) lt i =
      let r : Request = record { id = place; caller = k; requestor = requestor; mode = mode; form = form } in
      obtained latch requestor mode form lt (grants (list_of lists latch) r) (queues form) i
  own_step (Confirm latch id) lt i = ih (stood_at_confirm k ts t latch id (confirm_reply k id (list_of lists latch)) i)
  own_step (Release latch id conditional) lt i =
      released latch id conditional lt (list_any (is_own k id) (list_of lists latch))
      (conditional && not (list_any (is_own k id) (granted (list_of lists latch)))) i
  own_step (Purge requestor) lt i = purge_leaves requestor i

-- an entry of the caller's own
own_moved : (W : Type 0) (c : Setup) (s : System) (k : ℕ) (o : Object) (p : ℕ) (op : Op) (y : Reply) (ts : List StandingRequest)
    (t : StandingRequest) → IsNext c s (entry_of k o p op y)
    → (Contains ts t → Contains (list_at s t.latch) t.request ⊎ W) → Contains (stands_with k ts o op y) t
    → Contains (list_at (moved s k o op) t.latch) t.request ⊎ W
own_moved W c s k Latches p (op_on.Latch op) (reply_of.Latch y) ts t h ih i =
    let is : y ≡ (latch_step k s.latches.place op s.latches.state).1 = cc h.reply in
    own_step W k s.latches.place s.latches.state ts t ih op (names_of c s k op h.admits)
    (subst (λ z. Contains (stands_after k ts op z) t) is i)
own_moved W c s k Latches p (op_on.Latch op) y ts t h ih i = absurd (cc h.reply)
own_moved W c s k (Ecb m) p (op_on.Ecb op) y ts t h ih i = ih i
own_moved W c s k (Element m) p (op_on.Element op) y ts t h ih i = ih i
own_moved W c s k (Volume m) p (op_on.Volume op) y ts t h ih i = ih i
own_moved W c s k o p op y ts t h ih i = absurd (false≢true h.admits)

-- ---- another caller's
is_purge : (t : StandingRequest) (j : ℕ) (o : Object) (op : Op) → takes_out t j o op ≡ true → (j ≡ t.request.caller → ⊥) → (o ≡ Latches)
    × (op ≡ op_on.Latch (Purge t.request.requestor))
is_purge t j Latches (op_on.Latch (Release latch id conditional)) is other =
    absurd (other (eqb-true j t.request.caller (and_parts _ _ (and_parts _ _ is).1).1))
is_purge t j Latches (op_on.Latch (Purge requestor)) is other =
    (refl, ap (λ r. op_on.Latch (Purge r)) (sym (eqb-true t.request.requestor requestor is)))
is_purge t j Latches (op_on.Latch (Obtain latch requestor mode form)) is other = absurd (false≢true is)
is_purge t j Latches (op_on.Latch (Confirm latch id)) is other = absurd (false≢true is)
is_purge t j Latches (op_on.Ecb op) is other = absurd (false≢true is)
is_purge t j Latches (op_on.Element op) is other = absurd (false≢true is)
is_purge t j Latches (op_on.Volume op) is other = absurd (false≢true is)
is_purge t j (Ecb n) op is other = absurd (false≢true is)
is_purge t j (Element n) op is other = absurd (false≢true is)
is_purge t j (Volume n) op is other = absurd (false≢true is)

-- what was purged was purged in a longer list too
purged_longer : (k : ℕ) (t : StandingRequest) (es : List Entry) (e : Entry) → WasPurged k t es → WasPurged k t (es ++ e ∷ [])
purged_longer k t es e w = record {
  before = w.before;
  purge = w.purge;
  later = w.later ++ e ∷ [];
  split = ap (λ zs. zs ++ e ∷ []) w.split ∙ append_assoc w.before (w.purge ∷ w.later) (e ∷ []);
  stood = w.stood;
  other = w.other;
  object = w.object;
  op = w.op;
}

-- ---- along a legal list
pub stands_or_purged : (c : Setup) (k : ℕ) (t : StandingRequest) (es : List Entry) → Legal c es → Contains (standing (of k es)) t
    → Contains (list_at (after c es) t.latch) t.request ⊎ WasPurged k t es
stands_or_purged c k t es = by_last (λ xs. Legal c xs → Contains (standing (of k xs)) t → Contains (list_at (after c xs) t.latch) t.request
    ⊎ WasPurged k t xs) (λ l i. absurd (not_in_empty t i))
    (λ xs e ih l i.
    let h : IsNext c (after c xs) e = last_is_next c xs e l in
    let front : Legal c xs = front_is_legal c xs e l in
    subst (λ (s : System). Contains (list_at s t.latch) t.request ⊎ WasPurged k t (xs ++ e ∷ [])) (sym (after_longer c xs e))
    (elim (cases_eq e.caller k) [
      | inl own ↦
          own_moved (WasPurged k t (xs ++ e ∷ [])) c (after c xs) e.caller e.object e.place e.op e.reply (standing (of k xs)) t h
          (λ j. elim (ih front j) [ inl there ↦ inl there | inr w ↦ inr (purged_longer k t xs e w) ])
          (subst (λ ts. Contains ts t) (standing_own k xs e own) i)
      | inr other ↦
          let old : Contains (standing (of k xs)) t = subst (λ ts. Contains ts t) (standing_other k xs e other) i in
          elim (ih front old) [
            | inl there ↦ elim (cases_Bool (takes_out t e.caller e.object e.op)) [
              | inl out ↦
                  let p = is_purge t e.caller e.object e.op out (λ q. other (q ∙ (stands_below c k xs t front old).1)) in
                  inr (record { before = xs; purge = e; later = []; split = refl; stood = old; other = other; object = p.0; op = p.1 })
              | inr none ↦ inl (stays_next c (after c xs) e t h none there)
            ]
            | inr w ↦ inr (purged_longer k t xs e w)
          ]
    ])) es
