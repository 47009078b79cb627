-- The requests of a running job at one latch, as a list computed from the latches that it holds or waits for; and what one event on
-- the latch set does to the requests of each caller, on lists alone.
use Rattle.mv_plan.proofs.Words.{◌≡◌, ℕ, ◌+◌, ◌<◌, ◌==◌, Bool, true, false, not, if◌then◌else◌, List, [], ◌∷◌, ◌++◌, filter, Option, Some}
use Rattle.mv_plan.proofs.Words.{inl, inr, refl, ap, arith, AllByRecursion, Contains, list_any, eq-eqb, ne_eqb, Request, is_own}
use Rattle.mv_plan.proofs.Words.{first_is_in, LatchForm, common_steps, cond, length, set, sym, ◌∙◌, subst, eqb-true, cases_eq}
use Rattle.mv_plan.proofs.Words.{filter-append, LatchOp, LatchReply, Mode, granted, waiting, grants, newly_granted, obtain_step}
use Rattle.mv_plan.proofs.Words.{release_step, without, list_of, latch_step, of_caller, of_requestor, mine, NamesLatch, all_append}
use Rattle.mv_plan.proofs.Words.{all_filter, rules}
use Rattle.mv_latch.proofs.Members.{rest_is_in}
use Rattle.mv_plan.proofs.points.{held_of, Grant, without_latch}
use Rattle.mv_machine.proofs.Lists.{all_map}
use Rattle.std.proofs.lemmas.List.Elements.{Contains-append_left, Contains-append_right}
use Rattle.mv_latch.specs.Latch.{confirm_reply, purged}
use Rattle.mv_latch.specs.Request.{queues}
use Rattle.mv_machine.proofs.Standing.{mine_not_pushed}
use Rattle.mv_latch.proofs.Changes.{list_replaced, list_elsewhere, list_purged}
use Rattle.mv_latch.proofs.Holders.{granted_at_end}
use Rattle.mv_latch.proofs.Splits.{granted_split}

-- ---- lists and tests

-- the order of two tests does not matter
pub filter_swap : {X : Type 0} (p t : X → Bool) (qs : List X) → filter p (filter t qs) ≡ filter t (filter p qs)
filter_swap p t [] = refl
filter_swap {X} p t (q ∷ qs) = grind (arith, common_steps, filter_swap p t qs)

-- where all pass
pub filter_all : {X : Type 0} (t : X → Bool) (qs : List X) → AllByRecursion (λ q. t q ≡ true) qs → filter t qs ≡ qs
filter_all t [] a = refl
filter_all t (q ∷ qs) a = rw a.0 (ap (λ z. q ∷ z) (filter_all t qs a.1))

-- where none does
pub filter_none : {X : Type 0} (t : X → Bool) (qs : List X) → AllByRecursion (λ q. t q ≡ false) qs → filter t qs ≡ []
filter_none t [] a = refl
filter_none t (q ∷ qs) a = rw a.0 (filter_none t qs a.1)

pub filter_passes : {X : Type 0} (t : X → Bool) (qs : List X) → AllByRecursion (λ q. t q ≡ true) (filter t qs)
filter_passes t [] = tt
filter_passes {X} t (q ∷ qs) = grind (arith, common_steps, filter_passes t qs)

-- ---- what a job asks of a latch

-- a request of a job of caller k
abbrev pub request_of : ℕ → ℕ → Grant → Request
request_of k job g = record { id = g.id; caller = k; requestor = job + 1; mode = g.mode; form = LatchForm.Waiting }

-- those at one latch
abbrev pub asked : ℕ → ℕ → ℕ → List Grant → List Request
asked k job latch [] = []
asked k job latch (g ∷ gs) = if g.latch == latch then request_of k job g ∷ asked k job latch gs else asked k job latch gs

pub asked_push : (k job latch : ℕ) (xs ys : List Grant) → asked k job latch (xs ++ ys) ≡ asked k job latch xs ++ asked k job latch ys
asked_push k job latch [] ys = refl
asked_push k job latch (g ∷ xs) ys = grind (arith, asked_push k job latch xs ys)

-- one more, at its latch and at any other
pub asked_here : (k job : ℕ) (g : Grant) → asked k job g.latch (g ∷ []) ≡ request_of k job g ∷ []
asked_here k job g = rw (eq-eqb g.latch g.latch refl) refl

pub asked_there : (k job latch : ℕ) (g : Grant) → (g.latch ≡ latch → ⊥) → asked k job latch (g ∷ []) ≡ []
asked_there k job latch g n = rw (ne_eqb g.latch latch n) refl

-- none where all latches are lower
pub asked_below : (k job latch : ℕ) (gs : List Grant) → AllByRecursion (λ h. h.latch < latch) (held_of gs) → asked k job latch gs ≡ []
asked_below k job latch [] b = grind (arith, common_steps)
asked_below k job latch (g ∷ gs) b = grind (arith, common_steps, asked_below k job latch gs)

-- after a latch was freed
pub asked_freed : (k job latch : ℕ) (gs : List Grant) → asked k job latch (without_latch latch gs) ≡ []
asked_freed k job latch [] = refl
asked_freed k job latch (g ∷ gs) = grind (arith, common_steps, asked_freed k job latch gs)

pub asked_kept : (k job latch other : ℕ) (gs : List Grant) → (other ≡ latch → ⊥)
    → asked k job other (without_latch latch gs) ≡ asked k job other gs
asked_kept k job latch other [] n = refl
asked_kept k job latch other (g ∷ gs) n = grind (arith, common_steps, asked_kept k job latch other gs n)

-- the requests at a latch are all those of the number that the job last had there
pub asked_named : (k job latch id : ℕ) (requests : ℕ → Option ℕ) (gs : List Grant)
    → AllByRecursion (λ g. requests g.latch ≡ Some g.id) gs → requests latch ≡ Some id
    → AllByRecursion (λ q. not (is_own k id q) ≡ false) (asked k job latch gs)
asked_named k job latch id requests [] l e = grind (arith, common_steps)
asked_named k job latch id requests (g ∷ gs) l e = grind (arith, common_steps, asked_named k job latch id requests gs)

-- they are the job's, and the caller's
pub asked_of : (k job latch : ℕ) (gs : List Grant) → AllByRecursion (λ q. (q.caller ≡ k) × (q.requestor ≡ job + 1)) (asked k job latch gs)
asked_of k job latch [] = tt
asked_of k job latch (g ∷ gs) = grind (arith, common_steps, asked_of k job latch gs)

-- a latch that is held is asked for
pub asked_more : (k job latch : ℕ) (h : Grant) (gs : List Grant) (q : Request) → Contains (asked k job latch gs) q
    → Contains (asked k job latch (h ∷ gs)) q
asked_more k job latch h gs q i =
    elim (h.latch == latch) as (λ b. Contains (if b then request_of k job h ∷ asked k job latch gs else asked k job latch gs) q) [
      | true ↦ rest_is_in (request_of k job h) (asked k job latch gs) q i
      | false ↦ i
    ]

pub asked_all : (k job : ℕ) (gs : List Grant) → AllByRecursion (λ g. Contains (asked k job g.latch gs) (request_of k job g)) gs
asked_all k job [] = tt
asked_all k job (h ∷ hs) = search (rules, eq-eqb, first_is_in, all_map, asked_more, asked_all k job hs)

-- ---- the lists after an event

abbrev pub new_request : ℕ → ℕ → ℕ → Mode → Request
new_request k place requestor mode = record { id = place; caller = k; requestor = requestor; mode = mode; form = LatchForm.Waiting }

-- a waiting request is put at the list's end, whether it is granted or not
obtain_is : (r : Request) (qs : List Request) → queues r.form ≡ true
    → obtain_step r qs ≡ (qs ++ r ∷ [], if grants qs r then LatchReply.Granted r.id else LatchReply.Queued r.id)
obtain_is r qs e = search rules

pub obtained_list : (k place latch requestor : ℕ) (mode : Mode) (lists : List (List Request)) → latch < length lists
    → list_of (latch_step k place (LatchOp.Obtain latch requestor mode LatchForm.Waiting) lists).0 latch
    ≡ list_of lists latch ++ new_request k place requestor mode ∷ []
obtained_list k place latch requestor mode lists lt = search (rules, list_replaced, obtain_is)

pub obtained_elsewhere : (k place latch requestor other : ℕ) (mode : Mode) (lists : List (List Request)) → (other ≡ latch → ⊥)
    → list_of (latch_step k place (LatchOp.Obtain latch requestor mode LatchForm.Waiting) lists).0 other ≡ list_of lists other
obtained_elsewhere k place latch requestor other mode lists n =
    list_elsewhere lists latch other (obtain_step (new_request k place requestor mode) (list_of lists latch)).0 n

-- the reply
pub obtained_reply : (k place latch requestor : ℕ) (mode : Mode) (lists : List (List Request))
    → (latch_step k place (LatchOp.Obtain latch requestor mode LatchForm.Waiting) lists).1
    ≡ (if grants (list_of lists latch)
    (new_request k place requestor mode) then LatchReply.Granted place else LatchReply.Queued place)
obtained_reply k place latch requestor mode lists = grind (arith, common_steps, obtain_is)

-- who is granted at once holds the latch
pub granted_new : (r : Request) (qs : List Request) → grants qs r ≡ true → Contains (granted (qs ++ r ∷ [])) r
granted_new r qs e = subst (λ z. Contains z r) (sym (granted_at_end qs r e)) (Contains-append_right qs (r ∷ []) r (first_is_in r [] r refl))

-- a release that finds the request takes it out
pub released_list : (k place latch id : ℕ) (lists : List (List Request)) → latch < length lists
    → list_any (is_own k id) (list_of lists latch) ≡ true
    → list_of (latch_step k place (LatchOp.Release latch id false) lists).0 latch ≡ without k id (list_of lists latch)
released_list k place latch id lists lt e = search (rules, list_replaced)

pub released_elsewhere : (k place latch id other : ℕ) (lists : List (List Request)) → (other ≡ latch → ⊥)
    → list_of (latch_step k place (LatchOp.Release latch id false) lists).0 other ≡ list_of lists other
released_elsewhere k place latch id other lists n = list_elsewhere lists latch other (release_step k id false (list_of lists latch)).0 n

-- and is answered so
pub released_reply : (k place latch id : ℕ) (lists : List (List Request)) → list_any (is_own k id) (list_of lists latch) ≡ true
    → (granted : ℕ) × ((latch_step k place (LatchOp.Release latch id false) lists).1 ≡ LatchReply.Released granted)
released_reply k place latch id lists e = (
  length (newly_granted (list_of lists latch) (without k id (list_of lists latch))),
  ap (λ b. (cond {A = List Request × LatchReply} (not b) (list_of lists latch, LatchReply.Gone) (
    without k id (list_of lists latch),
    LatchReply.Released (length (newly_granted (list_of lists latch) (without k id (list_of lists latch)))),
  )).1) e,
)

-- ---- the reply to a confirm

pub confirm_granted : (k id same : ℕ) (qs : List Request) → confirm_reply k id qs ≡ LatchReply.Granted same
    → list_any (is_own k id) (granted qs) ≡ true
confirm_granted k id same qs = search rules

-- ---- one caller's requests in a list

pub granted_in : (qs : List Request) (q : Request) → Contains (granted qs) q → Contains qs q
granted_in qs q i = subst (λ z. Contains z q) (granted_split qs) (Contains-append_left (granted qs) (waiting qs) q i)

pub mine_pushed : (k : ℕ) (r : Request) (qs : List Request) → r.caller ≡ k → mine k (qs ++ r ∷ []) ≡ mine k qs ++ r ∷ []
mine_pushed k r qs e = filter-append (of_caller k) qs (r ∷ []) ∙ ap (λ b. mine k qs ++ (if b then r ∷ [] else [])) (eq-eqb r.caller k e)

pub mine_other_pushed : (k : ℕ) (r : Request) (qs : List Request) → (r.caller ≡ k → ⊥) → mine k (qs ++ r ∷ []) ≡ mine k qs
mine_other_pushed k r qs n = mine_not_pushed k r qs (ne_eqb r.caller k n)

pub mine_without : (k id : ℕ) (qs : List Request) → mine k (without k id qs) ≡ filter (λ q. not (is_own k id q)) (mine k qs)
mine_without k id qs = filter_swap (of_caller k) (λ q. not (is_own k id q)) qs

other_own : (k j id : ℕ) (q : Request) → (k ≡ j → ⊥) → of_caller k q ≡ true → not (is_own j id q) ≡ true
other_own k j id q n e = search (rules, eqb-true)

pub mine_other_without : (k j id : ℕ) (qs : List Request) → (k ≡ j → ⊥) → mine k (without j id qs) ≡ mine k qs
mine_other_without k j id qs n = search (rules, filter_swap, filter_all, mine, all_map, other_own, filter_passes)

pub mine_purged : (k requestor : ℕ) (qs : List Request)
    → mine k (purged requestor qs) ≡ filter (λ q. not (of_requestor requestor q)) (mine k qs)
mine_purged k requestor qs = filter_swap (of_caller k) (λ q. not (of_requestor requestor q)) qs

-- ---- another caller's event

-- a purge is of no requestor of this caller's requests
abbrev pub Spares : ℕ → List (List Request) → LatchOp → Type 0
Spares k lists (LatchOp.Purge requestor) =
    (latch : ℕ) → AllByRecursion (λ q. not (of_requestor requestor q) ≡ true) (mine k (list_of lists latch))
Spares k lists op = Unit {0}

either_same : (k : ℕ) (qs : List Request) (b : Bool) (x y : List Request × LatchReply) → mine k x.0 ≡ mine k qs → mine k y.0 ≡ mine k qs
    → mine k (cond b x y).0 ≡ mine k qs
either_same k qs b x y a c = grind (arith, common_steps)

-- keeps this caller's requests
pub mine_kept : (k j place : ℕ) (op : LatchOp) (lists : List (List Request)) → (k ≡ j → ⊥) → NamesLatch op lists → Spares k lists op
    → (latch : ℕ)
    → mine k (list_of (latch_step j place op lists).0 latch) ≡ mine k (list_of lists latch)
mine_kept k j place (LatchOp.Obtain at requestor mode form) lists n lt sp latch = elim (cases_eq latch at) [
  | inl e ↦ subst (λ l. mine k (list_of (set lists at (obtain_step r (list_of lists at)).0) l) ≡ mine k (list_of lists l)) (sym e)
      (ap (mine k) (list_replaced lists at (obtain_step r (list_of lists at)).0 lt) ∙ here)
  | inr m ↦ ap (mine k) (list_elsewhere lists at latch (obtain_step r (list_of lists at)).0 m)
] where
  r : Request
  r = record { id = place; caller = j; requestor = requestor; mode = mode; form = form }

  more : mine k (list_of lists at ++ r ∷ []) ≡ mine k (list_of lists at)
  more = mine_other_pushed k r (list_of lists at) (λ q. n (sym q))

  here : mine k (obtain_step r (list_of lists at)).0 ≡ mine k (list_of lists at)
  here = grind (arith, common_steps, either_same, at, r, more)
mine_kept k j place (LatchOp.Confirm at id) lists n lt sp latch = refl
mine_kept k j place (LatchOp.Release at id conditional) lists n lt sp latch = elim (cases_eq latch at) [
  | inl e ↦ subst (λ l. mine k (list_of (set lists at (release_step j id conditional (list_of lists at)).0) l) ≡ mine k
      (list_of lists l)) (sym e)
      (ap (mine k) (list_replaced lists at (release_step j id conditional (list_of lists at)).0 lt) ∙ here)
  | inr m ↦ ap (mine k) (list_elsewhere lists at latch (release_step j id conditional (list_of lists at)).0 m)
] where
  qs : List Request
  qs = list_of lists at

  here : mine k (release_step j id conditional (list_of lists at)).0 ≡ mine k (list_of lists at)
  here = grind (arith, common_steps, either_same, qs, mine_other_without)
mine_kept k j place (LatchOp.Purge requestor) lists n lt sp latch = search (rules, mine, list_purged, mine_purged, filter_all)

-- ---- what is so of all requests

either_all : (P : Request → Type 0) (b : Bool) (x y : List Request × LatchReply) → AllByRecursion P x.0 → AllByRecursion P y.0
    → AllByRecursion P (cond b x y).0
either_all P b x y a c = grind (arith, common_steps)

abbrev pub AllAsked : (Request → Type 0) → List (List Request) → Type 0
AllAsked P lists = (latch : ℕ) → AllByRecursion P (list_of lists latch)

set_all : (P : Request → Type 0) (lists : List (List Request)) (at : ℕ) (qs : List Request) → at < length lists → AllAsked P lists
    → AllByRecursion P qs → AllAsked P (set lists at qs)
set_all P lists at qs lt a b latch = search (rules, cases_eq, list_replaced, list_elsewhere)

-- an event brings no other request than one of its caller
pub all_asked : (P : Request → Type 0) (k place : ℕ) (op : LatchOp) (lists : List (List Request)) → NamesLatch op lists
    → ((q : Request) → q.caller ≡ k → P q) → AllAsked P lists
    → AllAsked P (latch_step k place op lists).0
all_asked P k place op lists lt f a = grind (arith, common_steps, set_all, either_all, all_append, all_filter, list_purged)
