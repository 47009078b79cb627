-- If a caller waits at a latch, the first request of that latch's list holds it, and its caller waits at a higher latch or at none. The
-- latches are finitely many, so the chain ends.
use Rattle.std.proofs.Common.{◌≡◌, ℕ, zero, suc, ◌+◌, ◌<◌, ◌≤◌, Bool, true, false, not, ◌&&◌, ◌==◌, ◌⊎◌, inl, inr, if◌then◌else◌, List, []}
use Rattle.std.proofs.Common.{◌∷◌, ◌++◌, refl, sym, ◌∙◌, subst, arith}
use Rattle.std.specs.List.{AllByRecursion, Contains, list_any}
use Rattle.std.proofs.lemmas.Bool.{cases_Bool, cases_order, eqb-true, eq-eqb, false≢true, and_parts, not-true}
use Rattle.std.proofs.lemmas.List.{get_or_past}
use Rattle.mv_element.specs.declared.element.ElementState.{ElementState}
use Rattle.mv_element.specs.declared.operation.ElementOp.TheVariants as element_op
use Rattle.mv_element.specs.declared.operation.ElementReply.TheVariants.{Parked}
use Rattle.mv_element.specs.Table.{element_step}
use Rattle.mv_latch.specs.declared.operation.LatchOp.TheVariants.{Confirm}
use Rattle.mv_latch.specs.declared.request.Request.{Request}
use Rattle.mv_latch.specs.Latch.{shared_front, granted}
use Rattle.mv_latch.specs.Request.{shared_request, is_own}
use Rattle.mv_latch.proofs.Members.{not_in_empty, first_is_in, Found, found, finds}
use Rattle.mv_machine.specs.declared.entry.Entry.{Entry}
use Rattle.mv_machine.specs.declared.entry.Object.{Object}
use Rattle.mv_machine.specs.declared.entry.Object.TheVariants.{Ecb, Element, Volume, Latches}
use Rattle.mv_machine.specs.declared.entry.Op.{Op}
use Rattle.mv_machine.specs.declared.entry.Op.TheVariants as op_on
use Rattle.mv_machine.specs.declared.entry.Reply.{Reply}
use Rattle.mv_machine.specs.declared.entry.Reply.TheVariants as reply_of
use Rattle.mv_machine.specs.Kept.{StandingRequest, standing, allowed}
use Rattle.mv_machine.specs.Legal.{IsNext, Legal, after, of}
use Rattle.mv_machine.specs.Orderly.{queue}
use Rattle.mv_config.specs.Setup.{Setup}
use Rattle.mv_machine.specs.System.{System, opening, place_of, admitted}
use Rattle.mv_machine.proofs.Allowed.{lists_stay, allowed_is_admitted}
use Rattle.mv_machine.proofs.EntryRuns.{entry_of}
use Rattle.mv_machine.proofs.Grants.{in_granted}
use Rattle.mv_machine.proofs.Histories.{LegalFrom-front}
use Rattle.mv_machine.proofs.LatchRuns.{numbers_rise, same_number}
use Rattle.mv_machine.proofs.Lists.{all_filter}
use Rattle.mv_machine.proofs.Longer.{legal_longer}
use Rattle.mv_machine.proofs.Objects.{of-append}
use Rattle.mv_machine.proofs.Standing.{stood}
use Rattle.mv_machine.proofs.StandingRuns.{stands}
use Rattle.mv_calls.specs.Rest.{open_waits}
use Rattle.mv_calls.proofs.Gone.{confirm_finds_granted, confirm_finds_gone}
use Rattle.mv_calls.proofs.Uses.{each_entry, listed_is_fair}
use Rattle.mv_ordered.specs.LatchOrder.{ObtainsInRisingOrder, WaitsWithoutLatches}
use Rattle.mv_ordered.specs.WaitChain.{IsOrdered, KeepsLockDiscipline, WaitsAt, HoldsAt, WaitsFor, LeadsTo, WaitsAtNoLatch, CanContinue}
use Rattle.mv_ordered.specs.WaitChain.{IsNextEvent, LeadsToHolder, HasNoLatchDeadlock, SomeoneContinues}
use Rattle.mv_ordered.proofs.Logs.{order_prefix, apart_prefix, highest, IsPausedByPause, nothing_else}

-- ---- prefixes of a history

prefix_of : (k : ℕ) (P : List Entry → Type 0) → ((xs ys : List Entry) → P (xs ++ ys) → P xs) → (xs ys : List Entry) → P (of k (xs ++ ys))
    → P (of k xs)
prefix_of k P keeps xs ys p = keeps (of k xs) (of k ys) (subst P (of-append k xs ys) p)

pub ordered_prefix : (c : Setup) (es xs ys : List Entry) → es ≡ xs ++ ys → IsOrdered c es → IsOrdered c xs
ordered_prefix c es xs ys split o = let whole : IsOrdered c (xs ++ ys) = subst (IsOrdered c) split o in record {
  legal = LegalFrom-front c (opening c) xs ys whole.legal;
  order = λ k lt. prefix_of k ObtainsInRisingOrder order_prefix xs ys (whole.order k lt);
}

pub discipline_prefix : (c : Setup) (es xs ys : List Entry) → es ≡ xs ++ ys → KeepsLockDiscipline c es → KeepsLockDiscipline c xs
discipline_prefix c es xs ys split o = record {
  ordered = ordered_prefix c es xs ys split o.ordered;
  apart = λ k lt. prefix_of k WaitsWithoutLatches apart_prefix xs ys (subst (λ z. WaitsWithoutLatches (of k z)) split (o.apart k lt));
}

-- ---- a latch's list

-- the first request holds its latch
first_granted : (q : Request) (qs : List Request) → Contains (granted (q ∷ qs)) q
first_granted q qs = elim (shared_request q) as (λ b. Contains (if b then (if b then q ∷ shared_front qs else []) else q ∷ []) q) [
  | true ↦ first_is_in q (shared_front qs) q refl
  | false ↦ first_is_in q [] q refl
]

-- a latch with a request has a holder
has_holder : (qs : List Request) (q : Request) → Contains qs q → (first : Request) × Contains (granted qs) first
has_holder [] q i = absurd (not_in_empty q i)
has_holder (first ∷ qs) q i = (first, first_granted first qs)

module _ (c : Setup) (es : List Entry) (legal : Legal c es) where
  -- a latch with a request is one of the configuration's
  latch_exists : (latch : ℕ) (q : Request) → Contains (queue c es latch) q → latch < c.latches
  latch_exists latch q i = elim (cases_order latch c.latches) [
    | inl same ↦ none (omega arith)
    | inr other ↦ elim other [ inl less ↦ less | inr more ↦ none (omega arith) ]
  ] where
    none : c.latches ≤ latch → latch < c.latches
    none le = let count = lists_stay c es legal in
        absurd (not_in_empty q (subst (λ qs. Contains qs q) (get_or_past (after c es).latches.state latch [] (omega arith)) i))

  -- a request in a list is of a caller of the configuration's, and stands by that caller's log
  caller_exists : (latch k : ℕ) (q : Request) → q.caller ≡ k → Contains (queue c es latch) q → k < c.callers
  caller_exists latch k q mine i = subst (λ n. n < c.callers) mine (listed_is_fair c es latch q legal i).0

  its_stand : (latch k : ℕ) (q : Request) → q.caller ≡ k → Contains (queue c es latch) q → Contains (standing (of k es)) (stood latch q)
  its_stand latch k q mine i = subst (λ n. Contains (standing (of n es)) (stood latch q)) mine (stands c es latch q legal i)

  -- one number, one request
  one_of_number : (latch : ℕ) (q r : Request) → Contains (queue c es latch) q → Contains (queue c es latch) r → q.id ≡ r.id → q ≡ r
  one_of_number latch q r i j same = same_number 0 q r (queue c es latch) (numbers_rise c es latch legal) i j same

-- ---- a holder that waits, waits at a higher latch

pub waits_higher : (c : Setup) (es : List Entry) (k low high : ℕ) → IsOrdered c es → HoldsAt c es k low → WaitsAt c es k high → low < high
waits_higher c es k low high o h w =
    let there = in_granted h.request (queue c es low) h.holds in
    elim (highest (of k es) (o.order k (caller_exists c es o.legal low k h.request h.mine there)) high w.request.id w.waits
    (stood low h.request) (its_stand c es o.legal low k h.request h.mine there)) [
      | inl less ↦ less
      | inr both ↦
          let here : Contains (granted (queue c es high)) h.request =
          subst (λ n. Contains (granted (queue c es n)) h.request) both.0 h.holds in
          let one : h.request ≡ w.request =
          one_of_number c es o.legal high h.request w.request (in_granted h.request (queue c es high) here) w.listed both.1 in
          absurd (w.ungranted (subst (Contains (granted (queue c es high))) one here))
    ]

-- ---- whether a caller waits at a latch

module _ (c : Setup) (es : List Entry) (k : ℕ) (legal : Legal c es) where
  -- whether it waits with this request
  abbrev waits_with : StandingRequest → Bool
  waits_with t =
      (open_waits (of k es)).queued t.latch t.request.id
      && (list_any (is_own k t.request.id) (queue c es t.latch) && not (list_any (is_own k t.request.id) (granted (queue c es t.latch))))

  waits_or_not : ((latch : ℕ) × WaitsAt c es k latch) ⊎ WaitsAtNoLatch c es k
  waits_or_not = elim (cases_Bool (list_any waits_with (standing (of k es)))) [
    | inl any ↦ inl (waits_by (found waits_with (standing (of k es)) any))
    | inr none ↦ inr (λ latch id is. elim (cases_Bool (list_any (is_own k id) (granted (queue c es latch)))) [
      | inl holds ↦ inl holds
      | inr ungranted ↦ elim (cases_Bool (list_any (is_own k id) (queue c es latch))) [
        | inl listed ↦ absurd (false≢true (sym none ∙ stands_and_waits latch id is ungranted listed))
        | inr gone ↦ inr gone
      ]
    ])
  ] where
    waits_by : Found waits_with (standing (of k es)) → (latch : ℕ) × WaitsAt c es k latch
    waits_by f =
        let t = f.0 in
        let qs = queue c es t.latch in
        let outer = and_parts _ _ f.2 in
        let inner = and_parts _ _ outer.1 in
        let r = found (is_own k t.request.id) qs inner.0 in
        let own = and_parts _ _ r.2 in
        let same : t.request.id ≡ (r.0).id = sym (eqb-true (r.0).id t.request.id own.0) in (
          t.latch,
          record {
            request = r.0;
            mine = eqb-true (r.0).caller k own.1;
            waits = subst (λ n. (open_waits (of k es)).queued t.latch n ≡ true) same outer.0;
            listed = r.1;
            ungranted = λ held. false≢true (sym (not-true (list_any (is_own k t.request.id) (granted qs)) inner.1)
                ∙ finds (is_own k t.request.id) r.0 (granted qs) held r.2);
          },
        )

    stands_and_waits : (latch id : ℕ) → (open_waits (of k es)).queued latch id ≡ true
        → list_any (is_own k id) (granted (queue c es latch)) ≡ false → list_any (is_own k id) (queue c es latch) ≡ true
        → list_any waits_with (standing (of k es)) ≡ true
    stands_and_waits latch id is ungranted listed =
        let qs = queue c es latch in
        let r = found (is_own k id) qs listed in
        let own = and_parts _ _ r.2 in
        let same : id ≡ (r.0).id = sym (eqb-true (r.0).id id own.0) in
        finds waits_with (stood latch r.0) (standing (of k es)) (its_stand c es legal latch k r.0 (eqb-true (r.0).caller k own.1) r.1)
        (subst (λ n. ((open_waits (of k es)).queued latch n
        && (list_any (is_own k n) qs && not (list_any (is_own k n) (granted qs)))) ≡ true) same (rw (is, listed, ungranted) refl))

  -- a caller that waits at no latch does not wait at one
  never_waits : WaitsAtNoLatch c es k → (latch : ℕ) → WaitsAt c es k latch → ⊥
  never_waits free latch w = elim (free latch w.request.id w.waits) [
    | inl held ↦
        let r = found (is_own k w.request.id) (granted (queue c es latch)) held in
        let own = and_parts _ _ r.2 in
        let same = eqb-true (r.0).id w.request.id own.0 in
        let one : r.0 ≡ w.request =
        one_of_number c es legal latch r.0 w.request (in_granted r.0 (queue c es latch) r.1) w.listed same in
        w.ungranted (subst (Contains (granted (queue c es latch))) one r.1)
    | inr gone ↦ false≢true (sym gone ∙ finds (is_own k w.request.id) w.request (queue c es latch) w.listed
        (rw (eq-eqb w.request.id w.request.id refl, eq-eqb w.request.caller k w.mine) refl))
  ]

-- ---- the chain

last_holds : (c : Setup) (es : List Entry) (k j : ℕ) (path : List ℕ) → LeadsTo c es k path j → (latch : ℕ) × HoldsAt c es j latch
last_holds c es k j [] w = (w.latch, w.holds)
last_holds c es k j (i ∷ path) w = last_holds c es i j path w.1

-- along a chain the latches rise: the first is the one that its first caller waits at, the last the one that its last caller holds
record Climb (c : Setup) (es : List Entry) (k j : ℕ) : Type 0 where
  first : ℕ
  last : ℕ
  waits : WaitsAt c es k first
  holds : HoldsAt c es j last
  rises : first ≤ last

climb : (c : Setup) (es : List Entry) (k j : ℕ) (path : List ℕ) → IsOrdered c es → LeadsTo c es k path j → Climb c es k j
climb c es k j [] o w = record { first = w.latch; last = w.latch; waits = w.waits; holds = w.holds; rises = omega arith }
climb c es k j (i ∷ path) o w =
    let rest = climb c es i j path o w.1 in
    let step = waits_higher c es i (w.0).latch rest.first o (w.0).holds rest.waits in
    record { first = (w.0).latch; last = rest.last; waits = (w.0).waits; holds = rest.holds; rises = let up = rest.rises in omega arith }

-- no caller leads to itself
pub no_ring : (c : Setup) (es : List Entry) (k : ℕ) (path : List ℕ) → IsOrdered c es → LeadsTo c es k path k → ⊥
no_ring c es k path o w =
    let ring = climb c es k k path o w in
    let down = waits_higher c es k ring.last ring.first o ring.holds ring.waits in
    let up = ring.rises in
    omega arith

leads : (d : ℕ) (c : Setup) (es : List Entry) (k latch : ℕ) → IsOrdered c es → WaitsAt c es k latch → c.latches ≤ latch + d
    → LeadsToHolder c es k
leads zero c es k latch o w le = absurd (let lt = latch_exists c es o.legal latch w.request w.listed in omega arith)
leads (suc d) c es k latch o w le =
    let holder = has_holder (queue c es latch) w.request w.listed in
    let j = (holder.0).caller in
    let held : HoldsAt c es j latch = record { request = holder.0; mine = refl; holds = holder.1 } in
    let for : WaitsFor c es k j = record { latch = latch; waits = w; holds = held } in
    elim (waits_or_not c es j o.legal) [
      | inl waits ↦
          let higher = waits_higher c es j latch waits.0 o held waits.1 in
          let rest = leads d c es j waits.0 o waits.1 (omega arith) in
          record { holder = rest.holder; path = j ∷ rest.path; leads = (for, rest.leads); free = rest.free }
      | inr free ↦ record { holder = j; path = []; leads = for; free = free }
    ]

pub leads_to_holder : (c : Setup) (es xs ys : List Entry) (k latch : ℕ) → es ≡ xs ++ ys → IsOrdered c es → WaitsAt c xs k latch
    → LeadsToHolder c xs k
leads_to_holder c es xs ys k latch split o w = leads c.latches c xs k latch (ordered_prefix c es xs ys split o) w (omega arith)

-- only a pause parks
open_parks : (x : ElementState) → (element_step element_op.Open x).1 ≡ Parked → ⊥
open_parks x is = grind arith

resume_parks : (x : ElementState) (g : ℕ) → (element_step (element_op.Resume g) x).1 ≡ Parked → ⊥
resume_parks x g is = grind arith

release_parks : (x : ElementState) (g d : ℕ) → (element_step (element_op.Release g d) x).1 ≡ Parked → ⊥
release_parks x g d is = grind arith

close_parks : (x : ElementState) (g : ℕ) → (element_step (element_op.Close g) x).1 ≡ Parked → ⊥
close_parks x g is = grind arith

test_parks : (x : ElementState) → (element_step element_op.Test x).1 ≡ Parked → ⊥
test_parks x is = grind arith

pause_parks : (c : Setup) (s : System) (k : ℕ) (o : Object) (p : ℕ) (op : Op) (r : Reply) → IsNext c s (entry_of k o p op r)
    → IsPausedByPause op r
pause_parks c s k (Element n) p (op_on.Element (element_op.Pause g)) r h is = refl
pause_parks c s k (Element n) p (op_on.Element element_op.Open) (reply_of.Element Parked) h is =
    absurd (open_parks (s.element n).state (cc h.reply))
pause_parks c s k (Element n) p (op_on.Element (element_op.Resume g)) (reply_of.Element Parked) h is =
    absurd (resume_parks (s.element n).state g (cc h.reply))
pause_parks c s k (Element n) p (op_on.Element (element_op.Release g d)) (reply_of.Element Parked) h is =
    absurd (release_parks (s.element n).state g d (cc h.reply))
pause_parks c s k (Element n) p (op_on.Element (element_op.Close g)) (reply_of.Element Parked) h is =
    absurd (close_parks (s.element n).state g (cc h.reply))
pause_parks c s k (Element n) p (op_on.Element element_op.Test) (reply_of.Element Parked) h is =
    absurd (test_parks (s.element n).state (cc h.reply))
pause_parks c s k (Ecb n) p (op_on.Ecb op) (reply_of.Element Parked) h is = absurd (cc h.reply)
pause_parks c s k (Volume n) p (op_on.Volume op) (reply_of.Element Parked) h is = absurd (cc h.reply)
pause_parks c s k Latches p (op_on.Latch op) (reply_of.Element Parked) h is = absurd (cc h.reply)
pause_parks c s k o p op (reply_of.Element Parked) h is = absurd (false≢true h.admits)
pause_parks c s k o p op r h is = absurd (false≢true is)

only_pauses : (c : Setup) (es : List Entry) (k : ℕ) → Legal c es → AllByRecursion (λ e. IsPausedByPause e.op e.reply) (of k es)
only_pauses c es k legal = all_filter (λ e. IsPausedByPause e.op e.reply) (λ e. e.caller == k) es
    (each_entry c (λ e. IsPausedByPause e.op e.reply)
    (λ xs e l h. pause_parks c (after c xs) e.caller e.object e.place e.op e.reply h) es legal)

-- a holder that waits at no latch can continue
holder_continues : (c : Setup) (es : List Entry) (k latch : ℕ) → KeepsLockDiscipline c es → HoldsAt c es k latch → WaitsAtNoLatch c es k
    → CanContinue c es k
holder_continues c es k latch o h free =
    let there = in_granted h.request (queue c es latch) h.holds in
    let legal = o.ordered.legal in
    let lt = caller_exists c es legal latch k h.request h.mine there in
    let none = nothing_else (of k es) (o.ordered.order k lt) (o.apart k lt) (only_pauses c es k legal) (stood latch h.request)
    (its_stand c es legal latch k h.request h.mine there) in
    record { armed = none.armed; parked = none.parked; latches = free }

-- each holder can continue, or waits at a higher latch
pub holder_continues_or_waits : (c : Setup) (es : List Entry) (k latch : ℕ) → KeepsLockDiscipline c es → HoldsAt c es k latch
    → CanContinue c es k ⊎ ((high : ℕ) × (latch < high) × WaitsAt c es k high)
holder_continues_or_waits c es k latch o h = elim (waits_or_not c es k o.ordered.legal) [
  | inl waits ↦ inr (waits.0, waits_higher c es k latch waits.0 o.ordered h waits.1, waits.1)
  | inr free ↦ inl (holder_continues c es k latch o h free)
]

pub leads_to_one : (c : Setup) (es : List Entry) → KeepsLockDiscipline c es → HasNoLatchDeadlock c es
leads_to_one c es o xs ys k latch split w =
    let led = leads_to_holder c es xs ys k latch split o.ordered w in
    let held = last_holds c xs k led.holder led.path led.leads in
    record {
      holder = led.holder;
      path = led.path;
      leads = led.leads;
      continues = holder_continues c xs led.holder held.0 (discipline_prefix c es xs ys split o) held.1 led.free;
    }

-- ---- callers that have not finished

-- each finished caller has no request that stands
abbrev LeaveNothing : Setup → List Entry → (ℕ → Bool) → Type 0
LeaveNothing c es finished = (j : ℕ) → j < c.callers → finished j ≡ true → standing (of j es) ≡ []

-- a holder is unfinished
holder_unfinished : (c : Setup) (es : List Entry) (finished : ℕ → Bool) (k latch : ℕ) → Legal c es → LeaveNothing c es finished
    → HoldsAt c es k latch → (k < c.callers) × (finished k ≡ false)
holder_unfinished c es finished k latch legal nothing h =
    let there = in_granted h.request (queue c es latch) h.holds in
    let lt = caller_exists c es legal latch k h.request h.mine there in
    elim (cases_Bool (finished k)) [
      | inl done ↦ absurd (not_in_empty (stood latch h.request)
          (subst (λ ts. Contains ts (stood latch h.request)) (nothing k lt done) (its_stand c es legal latch k h.request h.mine there)))
      | inr not_done ↦ (lt, not_done)
    ]

pub someone_continues : (c : Setup) (es xs ys : List Entry) (finished : ℕ → Bool) (k latch : ℕ) → es ≡ xs ++ ys → KeepsLockDiscipline c es
    → LeaveNothing c xs finished → WaitsAt c xs k latch → SomeoneContinues c xs finished
someone_continues c es xs ys finished k latch split o nothing w =
    let led = leads_to_one c es o xs ys k latch split w in
    let held = last_holds c xs k led.holder led.path led.leads in
    let not_done = holder_unfinished c xs finished led.holder held.0 (ordered_prefix c es xs ys split o.ordered).legal nothing held.1 in
    record { caller = led.holder; exists = not_done.0; unfinished = not_done.1; continues = led.continues }

pub all_finished : (c : Setup) (es xs ys : List Entry) (finished : ℕ → Bool) → es ≡ xs ++ ys → IsOrdered c es → LeaveNothing c xs finished
    → ((j : ℕ) → j < c.callers → finished j ≡ false → (latch : ℕ) × WaitsAt c xs j latch)
    → (j : ℕ) → j < c.callers → finished j ≡ true
all_finished c es xs ys finished split o nothing wait j lt = elim (cases_Bool (finished j)) [
  | inl done ↦ done
  | inr not_done ↦
      let prefix = ordered_prefix c es xs ys split o in
      let w = wait j lt not_done in
      let led = leads_to_holder c es xs ys j w.0 split o w.1 in
      let held = last_holds c xs j led.holder led.path led.leads in
      let open_too = holder_unfinished c xs finished led.holder held.0 prefix.legal nothing held.1 in
      let u = wait led.holder open_too.0 open_too.1 in
      absurd (never_waits c xs led.holder prefix.legal led.free u.0 u.1)
]

-- ---- the next event of a caller that can continue

-- an operation that the machine admits has a reply, so there is an entry of it
next_entry : (c : Setup) (s : System) (k : ℕ) (o : Object) (op : Op) → admitted c s k o op ≡ true
    → (r : Reply) × IsNext c s (entry_of k o (place_of s o) op r)
next_entry c s k (Ecb n) (op_on.Ecb op) a = (_, record { admits = a; place = refl; reply = refl })
next_entry c s k (Element n) (op_on.Element op) a = (_, record { admits = a; place = refl; reply = refl })
next_entry c s k (Volume n) (op_on.Volume op) a = (_, record { admits = a; place = refl; reply = refl })
next_entry c s k Latches (op_on.Latch op) a = (_, record { admits = a; place = refl; reply = refl })
next_entry c s k o op a = absurd (false≢true a)

only_on_latches : (c : Setup) (s : System) (k : ℕ) (o : Object) (op : Op) (latch id : ℕ) → admitted c s k o op ≡ true
    → op ≡ op_on.Latch (Confirm latch id) → o ≡ Latches
only_on_latches c s k Latches op latch id a is = refl
only_on_latches c s k (Ecb n) op latch id a is =
    absurd (false≢true (subst (λ x. admitted c s k (Ecb n) x ≡ true) is a))
only_on_latches c s k (Element n) op latch id a is =
    absurd (false≢true (subst (λ x. admitted c s k (Element n) x ≡ true) is a))
only_on_latches c s k (Volume n) op latch id a is =
    absurd (false≢true (subst (λ x. admitted c s k (Volume n) x ≡ true) is a))

pub next_event : (c : Setup) (es : List Entry) (k : ℕ) (o : Object) (op : Op) → Legal c es → CanContinue c es k
    → allowed c k (of k es) o op ≡ true → (e : Entry) × IsNextEvent c es k o op e
next_event c es k o op legal can may =
    let s = after c es in
    let a = allowed_is_admitted c es k o op legal may in
    let next = next_entry c s k o op a in
    let e = entry_of k o (place_of s o) op next.0 in (
      e,
      record {
        mine = refl;
        object = refl;
        operation = refl;
        legal = legal_longer c es e legal next.1;
        timely = λ latch id is waits. elim (can.latches latch id waits) [
          | inl held ↦ inl (confirm_finds_granted c s e latch id next.1 (only_on_latches c s k o op latch id a is) is held)
          | inr gone ↦ inr (confirm_finds_gone c s e latch id next.1 (only_on_latches c s k o op latch id a is) is gone)
        ];
      },
    )
