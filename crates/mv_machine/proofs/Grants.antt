-- A request stays in its latch's list, and stays granted, until its caller's release or a purge of its requestor.
use Rattle.std.proofs.Common.{◌≡◌, ℕ, ◌<◌, ◌==◌, Bool, true, false, not, ◌&&◌, List, [], ◌∷◌, ◌++◌, length, filter, set, cond, inl}
use Rattle.std.proofs.Common.{inr, sym, ap, ◌∙◌, subst, arith}
use Rattle.std.specs.List.{Contains}
use Rattle.std.proofs.lemmas.Bool.{cases_eq, false≢true}
use Rattle.std.proofs.lemmas.List.Elements.{Contains-append_left}
use Rattle.mv_latch.specs.declared.operation.LatchOp.{LatchOp}
use Rattle.mv_latch.specs.declared.operation.LatchOp.TheVariants.{Obtain, Confirm, Release, Purge}
use Rattle.mv_latch.specs.declared.operation.LatchReply.{LatchReply}
use Rattle.mv_latch.specs.declared.request.Request.{Request}
use Rattle.mv_latch.specs.Latch.{granted, waiting, obtain_step, release_step, without, purged}
use Rattle.mv_latch.specs.LatchSet.{list_of, latch_step}
use Rattle.mv_latch.specs.Request.{is_own, of_requestor}
use Rattle.mv_latch.proofs.Changes.{latch_changes, stays_granted}
use Rattle.mv_latch.proofs.Splits.{granted_split}
use Rattle.mv_latch.proofs.Members.{not_in_empty, first_or_rest, first_is_in, rest_is_in}
use Rattle.mv_machine.specs.declared.entry.Entry.{Entry}
use Rattle.mv_machine.specs.declared.entry.Object.{Object}
use Rattle.mv_machine.specs.declared.entry.Object.TheVariants.{Ecb, Element, Volume, Latches}
use Rattle.mv_machine.specs.declared.entry.Op.{Op}
use Rattle.mv_machine.specs.declared.entry.Op.TheVariants as op_on
use Rattle.mv_machine.specs.declared.entry.Reply.{Reply}
use Rattle.mv_machine.specs.Kept.{StandingRequest}
use Rattle.mv_machine.specs.Legal.{IsNext, next, Legal, after}
use Rattle.mv_config.specs.Setup.{Setup}
use Rattle.mv_machine.specs.System.{System, moved}
use Rattle.mv_machine.proofs.EntryRuns.{entry_of, along, rest_is_legal, at_end}
use Rattle.mv_machine.proofs.LatchRuns.{list_at}
use Rattle.mv_machine.proofs.StandingRuns.{NamesLatch, names_of}
use Rattle.std.proofs.lemmas.List.{get_or-set_same, get_or-set_other}
use Rattle.std.proofs.Math.ListN.{get_or-map}
use Rattle.mv_machine.specs.Leaving.{takes_out, NoneTakesOut}

-- ---- what a filter leaves
pub left_in : (p : Request → Bool) (q : Request) (qs : List Request) → p q ≡ true → Contains qs q → Contains (filter p qs) q
left_in p q [] is i = absurd (not_in_empty q i)
left_in p q (x ∷ xs) is i = elim (first_or_rest x xs q i) [
  | inl e ↦ rw (ap p e ∙ is) (first_is_in x (filter p xs) q e)
  | inr j ↦
      let rest : Contains (filter p xs) q = left_in p q xs is j in
      elim (p x) as (λ b. Contains (cond b (x ∷ filter p xs) (filter p xs)) q) [ true ↦ rest_is_in x (filter p xs) q rest | false ↦ rest ]
]

-- what is in both results is in either
either : (q : Request) (b : Bool) (x y : List Request × LatchReply) → Contains x.0 q → Contains y.0 q → Contains (cond b x y).0 q
either q true x y i j = i
either q false x y i j = j

-- an obtain leaves what was in the list
in_obtained : (q r : Request) (qs : List Request) → Contains qs q → Contains (obtain_step r qs).0 q
in_obtained q r qs i =
    let more : Contains (qs ++ r ∷ []) q = Contains-append_left qs (r ∷ []) q i in
    search either

-- a release leaves all but its own request
in_released : (q : Request) (k id : ℕ) (conditional : Bool) (qs : List Request) → not (is_own k id q) ≡ true → Contains qs q
    → Contains (release_step k id conditional qs).0 q
in_released q k id conditional qs other i =
    let fewer : Contains (without k id qs) q = left_in (λ x. not (is_own k id x)) q qs other i in
    search either

-- ---- one operation
-- a list of the set after one was replaced
replaced : (q : Request) (lists : List (List Request)) (latch other : ℕ) (qs : List Request) → latch < length lists
    → (other ≡ latch → Contains qs q) → Contains (list_of lists other) q → Contains (list_of (set lists latch qs) other) q
replaced q lists latch other qs lt here i = elim (cases_eq other latch) [
  | inl same ↦ rw same (rw (get_or-set_same lists latch qs [] lt) (here same))
  | inr apart ↦ rw (get_or-set_other lists latch other qs [] apart) i
]

-- a release that does not take a request out is not of it
not_own : (k id latch : ℕ) (t : StandingRequest) → latch ≡ t.latch
    → ((latch == t.latch) && ((id == t.request.id) && (k == t.request.caller))) ≡ false → not (is_own k id t.request) ≡ true
not_own k id latch t here none = grind arith

-- nor is a purge that does not
not_purged : (requestor : ℕ) (q : Request) → (q.requestor == requestor) ≡ false → not (of_requestor requestor q) ≡ true
not_purged requestor q none = ap (λ b. not b) none

-- an operation that does not take a request out leaves it in its list
stays_step : (k place : ℕ) (op : LatchOp) (lists : List (List Request)) (t : StandingRequest) → NamesLatch op lists
    → takes_out t k Latches (op_on.Latch op) ≡ false
    → Contains (list_of lists t.latch) t.request → Contains (list_of (latch_step k place op lists).0 t.latch) t.request
stays_step k place (Obtain latch requestor mode form) lists t lt none i =
    replaced t.request lists latch t.latch _ lt
    (λ same. in_obtained t.request (record { id = place; caller = k; requestor = requestor; mode = mode; form = form })
    (list_of lists latch) (subst (λ n. Contains (list_of lists n) t.request) same i)) i
stays_step k place (Confirm latch id) lists t lt none i = i
stays_step k place (Release latch id conditional) lists t lt none i =
    replaced t.request lists latch t.latch _ lt
    (λ same. in_released t.request k id conditional (list_of lists latch) (not_own k id latch t (sym same) none)
    (subst (λ n. Contains (list_of lists n) t.request) same i)) i
stays_step k place (Purge requestor) lists t lt none i =
    rw (get_or-map (purged requestor) lists t.latch [])
    (left_in (λ x. not (of_requestor requestor x)) t.request (list_of lists t.latch) (not_purged requestor t.request none) i)

-- so does an entry
stays_moved : (c : Setup) (s : System) (k : ℕ) (o : Object) (p : ℕ) (op : Op) (r : Reply) (t : StandingRequest)
    → IsNext c s (entry_of k o p op r) → takes_out t k o op ≡ false
    → Contains (list_at s t.latch) t.request → Contains (list_at (moved s k o op) t.latch) t.request
stays_moved c s k Latches p (op_on.Latch op) r t h none i = stays_step k s.latches.place op s.latches.state t
    (names_of c s k op h.admits) none i
stays_moved c s k (Ecb m) p (op_on.Ecb op) r t h none i = i
stays_moved c s k (Element m) p (op_on.Element op) r t h none i = i
stays_moved c s k (Volume m) p (op_on.Volume op) r t h none i = i
stays_moved c s k o p op r t h none i = absurd (false≢true h.admits)

-- it stays in its list
pub stays_next : (c : Setup) (s : System) (e : Entry) (t : StandingRequest) → IsNext c s e → takes_out t e.caller e.object e.op ≡ false
    → Contains (list_at s t.latch) t.request → Contains (list_at (next s e) t.latch) t.request
stays_next c s e t h none i = stays_moved c s e.caller e.object e.place e.op e.reply t h none i

-- a granted request that an entry leaves in its list stays granted
granted_moved : (c : Setup) (s : System) (k : ℕ) (o : Object) (p : ℕ) (op : Op) (r : Reply) (t : StandingRequest)
    → IsNext c s (entry_of k o p op r) → Contains (list_at (moved s k o op) t.latch) t.request
    → Contains (granted (list_at s t.latch)) t.request → Contains (granted (list_at (moved s k o op) t.latch)) t.request
granted_moved c s k Latches p (op_on.Latch op) r t h i g =
    stays_granted s.latches.place (list_at s t.latch) (list_of (latch_step k s.latches.place op s.latches.state).0 t.latch) t.request
    (latch_changes k s.latches.place op s.latches.state t.latch) g i
granted_moved c s k (Ecb m) p (op_on.Ecb op) r t h i g = g
granted_moved c s k (Element m) p (op_on.Element op) r t h i g = g
granted_moved c s k (Volume m) p (op_on.Volume op) r t h i g = g
granted_moved c s k o p op r t h i g = absurd (false≢true h.admits)

-- the same of the machine's next entry
pub granted_next : (c : Setup) (s : System) (e : Entry) (t : StandingRequest) → IsNext c s e
    → Contains (list_at (next s e) t.latch) t.request
    → Contains (granted (list_at s t.latch)) t.request → Contains (granted (list_at (next s e) t.latch)) t.request
granted_next c s e t h i g = granted_moved c s e.caller e.object e.place e.op e.reply t h i g

-- a granted request is in its list
pub in_granted : (q : Request) (qs : List Request) → Contains (granted qs) q → Contains qs q
in_granted q qs i = subst (λ rs. Contains rs q) (granted_split qs) (Contains-append_left (granted qs) (waiting qs) q i)

-- ---- along a legal list
pub requests_stay : (c : Setup) (xs ys : List Entry) (t : StandingRequest) → Legal c (xs ++ ys) → NoneTakesOut t ys
    → Contains (list_at (after c xs) t.latch) t.request → Contains (list_at (after c (xs ++ ys)) t.latch) t.request
requests_stay c xs ys t l none i =
    at_end c (λ s. Contains (list_at s t.latch) t.request) xs ys
    (along c (λ s. Contains (list_at s t.latch) t.request) (λ e. takes_out t e.caller e.object e.op ≡ false)
    (λ s e h n j. stays_next c s e t h n j) (after c xs) ys (rest_is_legal c xs ys l) none i)

-- the request is in its list, and granted
abbrev Holds : StandingRequest → System → Type 0
Holds t s = Contains (list_at s t.latch) t.request × Contains (granted (list_at s t.latch)) t.request

-- a granted request that no entry takes out stays granted
pub granted_stays : (c : Setup) (xs ys : List Entry) (t : StandingRequest) → Legal c (xs ++ ys) → NoneTakesOut t ys
    → Contains (granted (list_at (after c xs) t.latch)) t.request → Contains (granted (list_at (after c (xs ++ ys)) t.latch)) t.request
granted_stays c xs ys t l none g =
    (at_end c (Holds t) xs ys
    (along c (Holds t) (λ e. takes_out t e.caller e.object e.op ≡ false)
    (λ s e h n w. let j = stays_next c s e t h n w.0 in (j, granted_next c s e t h j w.1))
    (after c xs) ys (rest_is_legal c xs ys l) none (in_granted t.request (list_at (after c xs) t.latch) g, g))).1
