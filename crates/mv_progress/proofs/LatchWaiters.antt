-- If an initiator waits for a latch, some initiator can make its event: the holder of the latch is an initiator that runs a job, and if it
-- waits too, it waits for a higher latch. So no initiators wait for one another in a ring.
use Rattle.mv_plan.proofs.Words.{◌≡◌, ℕ, zero, suc, ◌+◌, ◌<◌, ◌≤◌, true, false, if◌then◌else◌, List, [], ◌∷◌, ◌++◌, ◌⊎◌, inl, inr, refl}
use Rattle.mv_plan.proofs.Words.{sym, ap, ◌∙◌, subst, arith, eq-eqb, false≢true, AllByRecursion, Contains, Entry, Setup, System, JobData}
use Rattle.mv_plan.proofs.Words.{Request, granted, list_of, is_own, of_caller, mine, initiator, spool_setup, shared_request, not_in_empty}
use Rattle.mv_plan.proofs.Words.{first_or_rest, first_is_in, all_at}
use Rattle.std.proofs.lemmas.Bool.{cases_order}
use Rattle.mv_machine.proofs.Standing.{is_mine}
use Rattle.mv_machine.proofs.Lists.{all_back}
use Rattle.mv_latch.proofs.Members.{was_in, finds}
use Rattle.mv_latch.specs.Latch.{shared_front}
use Rattle.mv_plan.proofs.latches.Lists.{asked, asked_push, asked_there, asked_below, asked_all, request_of}
use Rattle.mv_plan.proofs.latches.Hands.{grip, Owns, OwnsBy, IsKnown, asked_last}
use Rattle.mv_plan.proofs.points.Points.{Point, At, Grant, InJob, Confirming, InitiatorAt}
use Rattle.mv_plan.proofs.points.Initiator.{IsInitiatorAt, held_of}
use Rattle.mv_plan.proofs.walks.Walks.{Points}
use Rattle.mv_plan.proofs.places.Moments.{Moment}
use Rattle.mv_plan.proofs.serving.{Served}
use Rattle.mv_progress.proofs.InitiatorStatus.{CanMove, IsQueued, Status, enabled, queued, rests, ended}

-- ---- lists of requests

-- the first request of a list holds the latch
first_granted : (q : Request) (qs : List Request) → Contains (granted (q ∷ qs)) q
first_granted q qs = elim (shared_request q) as (λ b. Contains (if b then (if b then q ∷ shared_front qs else []) else q ∷ []) q) [
  | true ↦ first_is_in q (shared_front qs) q refl
  | false ↦ first_is_in q [] q refl
]

-- a list that contains a request has a first one
has_first : (qs : List Request) (q : Request) → Contains qs q → (first : Request) × Contains (granted qs) first × Contains qs first
has_first [] q i = absurd (not_in_empty q i)
has_first (first ∷ qs) q i = (first, first_granted first qs, first_is_in first qs first refl)

-- ---- the requests that a job has made at a latch

-- it has made none at a latch above those
below_more : (low high : ℕ) (held : List Grant) → low ≤ high → AllByRecursion (λ h. h.latch < low) (held_of held)
    → AllByRecursion (λ h. h.latch < high) (held_of held)
below_more low high [] le b = tt
below_more low high (g ∷ held) le b = ((let lt = b.0 in omega arith), below_more low high held le b.1)

asked_above : (k job latch : ℕ) (held : List Grant) (g : Grant) → g.latch < latch → AllByRecursion (λ h. h.latch < g.latch) (held_of held)
    → asked k job latch (held ++ g ∷ []) ≡ []
asked_above k job latch held g lt b = asked_push k job latch held (g ∷ [])
    ∙ ap (λ z. z ++ asked k job latch (g ∷ [])) (asked_below k job latch held (below_more g.latch latch held (omega arith) b))
    ∙ asked_there k job latch g (λ e. absurd (omega arith))

module _ (deck : List JobData) (initiators : ℕ) (s : System) (t : Points) (past : List Entry)
    (now : Moment (spool_setup deck initiators) deck initiators s t past) (served : Served deck initiators s t past)
    (status : (i : ℕ) → i < initiators → Status (spool_setup deck initiators) deck initiators s t i) where
  abbrev c : Setup
  c = spool_setup deck initiators

  abbrev lists : List (List Request)
  lists = s.latches.state

  abbrev CanMoveAt : ℕ → Type 0
  CanMoveAt = CanMove c deck initiators s t

  -- the request that the initiator waits with
  module _ (i : ℕ) (lt : i < initiators) (q : IsQueued c deck initiators s t i) where
    abbrev grant : Grant
    grant = record { latch = q.latch; mode = q.mode; id = q.id }

    stepping : IsInitiatorAt deck (At (InJob q.run (Confirming q.hand q.latch q.mode q.id q.steps)))
    stepping = subst (IsInitiatorAt deck) q.at (now.stand.at_initiator i lt).0

    own : Owns lists (initiator i) (q.run).job (q.hand).holding (grant ∷ [])
    own = subst (λ p. OwnsBy lists (initiator i) (grip p)) q.at (served.latched.hands.owns i lt)

    below : AllByRecursion (λ h. h.latch < q.latch) (held_of (q.hand).holding)
    below = stepping.sound.1

    latch_low : q.latch ≤ 7
    latch_low = stepping.sound.0

    -- it is in the latch's list
    stands : Contains (list_of lists q.latch) (request_of (initiator i) (q.run).job grant)
    stands = was_in (of_caller (initiator i)) (request_of (initiator i) (q.run).job grant) (list_of lists q.latch)
        (subst (λ z. Contains z (request_of (initiator i) (q.run).job grant)) (sym (own.listed q.latch))
        (all_back (λ h. Contains (asked (initiator i) (q.run).job h.latch ((q.hand).holding ++ grant ∷ []))
        (request_of (initiator i) (q.run).job h))
        (q.hand).holding (grant ∷ []) (asked_all (initiator i) (q.run).job ((q.hand).holding ++ grant ∷ []))).0)

    -- a latch that the initiator holds is below the one that it waits for
    holds_below : (latch : ℕ) (r : Request) → Contains (granted (list_of lists latch)) r
        → Contains (mine (initiator i) (list_of lists latch)) r → latch < q.latch
    holds_below latch r held is = go (cases_order latch q.latch) where
      there : Contains (asked (initiator i) (q.run).job latch ((q.hand).holding ++ grant ∷ [])) r
      there = subst (λ z. Contains z r) (own.listed latch) is

      same_latch : latch ≡ q.latch → ⊥
      same_latch e = false≢true (sym q.waits ∙ finds (is_own (initiator i) q.id) r (granted (list_of lists q.latch))
          (subst (λ l. Contains (granted (list_of lists l)) r) e held)
          (subst (λ z. is_own (initiator i) q.id z ≡ true) it (rw (eq-eqb q.id q.id refl, eq-eqb (initiator i) (initiator i) refl) refl)))
        where
          one : Contains (request_of (initiator i) (q.run).job grant ∷ []) r
          one = subst (λ z. Contains z r) (asked_last (initiator i) (q.run).job (q.hand).holding grant below)
              (subst (λ l. Contains (asked (initiator i) (q.run).job l ((q.hand).holding ++ grant ∷ [])) r) e there)

          it : request_of (initiator i) (q.run).job grant ≡ r
          it = elim (first_or_rest (request_of (initiator i) (q.run).job grant) [] r one) [
            | inl e ↦ e
            | inr j ↦ absurd (not_in_empty r j)
          ]

      go : (latch ≡ q.latch) ⊎ ((latch < q.latch) ⊎ (q.latch < latch)) → latch < q.latch
      go (inl e) = absurd (same_latch e)
      go (inr (inl less)) = less
      go (inr (inr more)) = absurd (not_in_empty r (subst (λ z. Contains z r)
          (asked_above (initiator i) (q.run).job latch (q.hand).holding grant more below) there))

  -- the holder of the latch that an initiator waits for can make its event, or waits for a higher latch
  pub queued_leads : (d i : ℕ) → i < initiators → (q : IsQueued c deck initiators s t i) → 8 ≤ q.latch + d
      → (m : ℕ) × (m < initiators) × CanMoveAt m
  queued_leads zero i lt q le = absurd (let low = latch_low i lt q in omega arith)
  queued_leads (suc d) i lt q le = by (status holder.0 holder.1) (λ p more. queued_leads d holder.0 holder.1 p more) where
    first : (r : Request) × Contains (granted (list_of lists q.latch)) r × Contains (list_of lists q.latch) r
    first = has_first (list_of lists q.latch) (request_of (initiator i) (q.run).job (grant i lt q)) (stands i lt q)

    holder : (m : ℕ) × (m < initiators) × ((first.0).caller ≡ initiator m)
    holder = all_at (IsKnown initiators) (list_of lists q.latch) first.0 (served.latched.hands.known q.latch) first.2

    its : Contains (mine (initiator holder.0) (list_of lists q.latch)) first.0
    its = is_mine (initiator holder.0) first.0 (list_of lists q.latch) (eq-eqb (first.0).caller (initiator holder.0) holder.2) first.2

    owns : (p : Point InitiatorAt) → t.initiators holder.0 ≡ p → OwnsBy lists (initiator holder.0) (grip p)
    owns p at = subst (λ p. OwnsBy lists (initiator holder.0) (grip p)) at (served.latched.hands.owns holder.0 holder.1)

    by : Status c deck initiators s t holder.0
        → ((p : IsQueued c deck initiators s t holder.0) → 8 ≤ p.latch + d → (m : ℕ) × (m < initiators) × CanMoveAt m)
        → (m : ℕ) × (m < initiators) × CanMoveAt m
    by (enabled g) more = (holder.0, holder.1, g)
    by (queued p) more = more p (let less = holds_below holder.0 holder.1 p q.latch first.0 first.1 its in omega arith)
    by (rests p) more = absurd (not_in_empty first.0 (subst (λ z. Contains z first.0) (owns _ p.at q.latch) its))
    by (ended a at) more = absurd (not_in_empty first.0 (subst (λ z. Contains z first.0) (owns _ at q.latch) its))
