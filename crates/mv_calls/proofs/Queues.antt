-- A request of the Waiting form that stands and waits was queued and is not yet confirmed.
use Rattle.std.proofs.Common.{◌≡◌, ◌⊎◌, ℕ, ◌<◌, ◌==◌, Bool, true, false, not, ◌&&◌, List, [], ◌∷◌, ◌++◌, length, set, cond, inl, inr}
use Rattle.std.proofs.Common.{refl, sym, ap, ◌∙◌, subst, arith}
use Rattle.std.specs.List.{Contains, list_any, list_all}
use Rattle.std.proofs.lemmas.Bool.{cases_eq, cases_Bool, false≢true, true≢false, eqb-true, eq-eqb, ne_eqb, and_parts, not-true}
use Rattle.std.proofs.lemmas.List.{get_or-set_same}
use Rattle.std.proofs.lemmas.List.Elements.{Contains-push, Contains-push_cases}
use Rattle.mv_latch.specs.declared.operation.LatchOp.{LatchOp}
use Rattle.mv_latch.specs.declared.operation.LatchOp.TheVariants.{Obtain, Confirm, Release, Purge}
use Rattle.mv_latch.specs.declared.operation.LatchReply.{LatchReply}
use Rattle.mv_latch.specs.declared.operation.LatchReply.TheVariants.{Granted, Queued, NotNow, Waiting, Gone}
use Rattle.mv_latch.specs.declared.request.LatchForm.{LatchForm}
use Rattle.mv_latch.specs.declared.request.LatchForm.TheVariants as form_of
use Rattle.mv_latch.specs.declared.request.Mode.{Mode}
use Rattle.mv_latch.specs.declared.request.Request.{Request}
use Rattle.mv_latch.specs.Latch.{shared_front, granted, grants, blocker, obtain_step, confirm_reply, release_step}
use Rattle.mv_latch.specs.LatchSet.{list_of, latch_step}
use Rattle.mv_latch.specs.Request.{shared_request, queues, is_own}
use Rattle.mv_latch.proofs.Changes.{Changed, same, grew, shrank, latch_changes, stays_granted}
use Rattle.mv_latch.proofs.Members.{not_in_empty, first_is_in, found, finds, passes, was_in}
use Rattle.mv_machine.specs.declared.entry.Entry.{Entry}
use Rattle.mv_machine.specs.declared.entry.Object.{Object}
use Rattle.mv_machine.specs.declared.entry.Object.TheVariants.{Ecb, Element, Volume, Latches}
use Rattle.mv_machine.specs.declared.entry.Op.{Op}
use Rattle.mv_machine.specs.declared.entry.Op.TheVariants as op_on
use Rattle.mv_machine.specs.declared.entry.Reply.{Reply}
use Rattle.mv_machine.specs.declared.entry.Reply.TheVariants as reply_of
use Rattle.mv_machine.specs.Kept.{StandingRequest, is_named, is_for, stands_after, stands_with, standing}
use Rattle.mv_machine.specs.Legal.{IsNext, next, Legal, after, of}
use Rattle.mv_machine.specs.Owned.{IsGranted}
use Rattle.mv_config.specs.Setup.{Setup}
use Rattle.mv_machine.specs.System.{System, moved, with_at}
use Rattle.mv_calls.proofs.Making.{waits_from-append}
use Rattle.mv_machine.proofs.Lists.{all_front, all_back}
use Rattle.mv_machine.proofs.EntryRuns.{entry_of}
use Rattle.mv_machine.proofs.Histories.{by_last}
use Rattle.mv_machine.proofs.LatchRuns.{list_at}
use Rattle.mv_machine.proofs.Longer.{after_longer, last_is_next, front_is_legal}
use Rattle.mv_machine.proofs.Places.{of_longer_mine, of_longer_other}
use Rattle.mv_machine.proofs.Standing.{stood}
use Rattle.mv_machine.proofs.StandingRuns.{NamesLatch, names_of}
use Rattle.mv_calls.specs.Rest.{OpenWaits, IsAtRest, no_waits, waits_after, waits_from, queued_after, queued_with}
use Rattle.mv_machine.specs.Leaving.{WasPurged, is_early_confirm, HasNoEarlyConfirm}
use Rattle.mv_machine.proofs.Grants.{in_granted}
use Rattle.mv_calls.proofs.Gone.{one_request, its_own, confirm_finds_granted, confirm_gone}
use Rattle.mv_calls.proofs.Removals.{standing_own, standing_other, stands_below, stands_or_purged}
use Rattle.mv_calls.proofs.Removals.{stood_at_confirm, stood_at_release}

-- ---- tables of two numbers
abbrev Table : Type 0
Table = ℕ → ℕ → Bool

-- a mark more leaves the others
set_true : (f : Table) (latch id m j : ℕ) → f m j ≡ true → with_at f latch (with_at (f latch) id true) m j ≡ true
set_true f latch id m j is = elim (cases_eq m latch) [
  | inl here ↦ elim (cases_eq j id) [
    | inl too ↦ rw (eq-eqb m latch here, eq-eqb j id too) refl
    | inr apart ↦ rw (eq-eqb m latch here, ne_eqb j id apart) (ap (λ n. f n j) (sym here) ∙ is)
  ]
  | inr apart ↦ rw (ne_eqb m latch apart) is
]

-- the mark that is set
set_here : (f : Table) (latch id : ℕ) → with_at f latch (with_at (f latch) id true) latch id ≡ true
set_here f latch id = rw (eq-eqb latch latch refl, eq-eqb id id refl) refl

-- another mark is cleared
set_other : (f : Table) (latch id m j : ℕ) → ((latch == m) && (id == j)) ≡ false → f m j ≡ true
    → with_at f latch (with_at (f latch) id false) m j ≡ true
set_other f latch id m j apart is = elim (cases_eq m latch) [
  | inl here ↦ elim (cases_eq j id) [
    | inl too ↦ absurd (true≢false (sym (rw (eq-eqb latch m (sym here), eq-eqb id j (sym too)) refl) ∙ apart))
    | inr other ↦ rw (eq-eqb m latch here, ne_eqb j id other) (ap (λ n. f n j) (sym here) ∙ is)
  ]
  | inr other ↦ rw (ne_eqb m latch other) is
]

-- ---- who is granted at once
all_shared : (qs : List Request) (r : Request) → list_all shared_request qs ≡ true → shared_request r ≡ true
    → shared_front (qs ++ r ∷ []) ≡ qs ++ r ∷ []
all_shared [] r a is = ap (λ b. cond b (r ∷ []) []) is
all_shared (q ∷ qs) r a is = let first : shared_request q ≡ true = (and_parts _ _ a).0 in
    rw first (ap (λ z. q ∷ z) (all_shared qs r (and_parts _ _ a).1 is))

-- a request that is granted as it comes is among the granted ones
pub granted_at_once : (qs : List Request) (r : Request) → grants qs r ≡ true → Contains (granted (qs ++ r ∷ [])) r
granted_at_once [] r g = elim (shared_request r) as (λ b. Contains (cond b (cond b (r ∷ []) []) (r ∷ [])) r) [
  | true ↦
      first_is_in r [] r refl
  | false ↦ first_is_in r [] r refl
]
granted_at_once (q ∷ qs) r g =
    let all : list_all shared_request (q ∷ qs) ≡ true = (and_parts _ _ g).1 in
    let first : shared_request q ≡ true = (and_parts _ _ all).0 in
    let whole : granted ((q ∷ qs) ++ r ∷ []) ≡ (q ∷ qs) ++ r ∷ [] =
    rw first (ap (λ z. q ∷ z) (all_shared qs r (and_parts _ _ all).1 (and_parts _ _ g).0)) in
    subst (λ rs. Contains rs r) (sym whole) (Contains-push (q ∷ qs) r)

-- ---- one event of the latch set
came_from : (place : ℕ) (old new : List Request) (q : Request) → Changed place old new → q.id < place → Contains new q → Contains old q
came_from place old new q (same e) lt i = rw e at i
came_from place old new q (grew r is e) lt i = elim (Contains-push_cases old r q (rw e at i)) [
  | inl j ↦ j
  | inr f ↦ absurd (omega (arith, ap (λ (y : Request). y.id) f))
]
came_from place old new q (shrank p e) lt i = was_in p q old (rw e at i)

-- a request that waits or is granted still does after a change of its list
still : (A B : Type 0) (place : ℕ) (old new : List Request) (q : Request) → Changed place old new → q.id < place
    → (Contains old q → A ⊎ Contains (granted old) q) → (A → B) → Contains new q → B ⊎ Contains (granted new) q
still A B place old new q changed lt ih f i = elim (ih (came_from place old new q changed lt i)) [
  | inl a ↦ inl (f a)
  | inr g ↦ inr (stays_granted place old new q changed g i)
]

module _ (k place : ℕ) (lists : List (List Request)) (ts : List StandingRequest) (queued : Table) (t : StandingRequest)
    (waits : t.request.form ≡ form_of.Waiting)
    (early : Contains ts t → t.request.id < place)
    (unique : (q : Request) → Contains ts t → Contains (list_of lists t.latch) q → is_own k t.request.id q ≡ true → q ≡ t.request)
    (ih : Contains ts t → Contains (list_of lists t.latch) t.request → (queued t.latch t.request.id ≡ true)
    ⊎ Contains (granted (list_of lists t.latch)) t.request) where
  -- the request waits by its mark, or is granted
  abbrev Waits : Table → List (List Request) → Type 0
  Waits f ls = (f t.latch t.request.id ≡ true) ⊎ Contains (granted (list_of ls t.latch)) t.request

  -- the request stood before
  old_one : (op : LatchOp) (f : Table) → (queued t.latch t.request.id ≡ true → f t.latch t.request.id ≡ true) → Contains ts t
      → Contains (list_of (latch_step k place op lists).0 t.latch) t.request → Waits f (latch_step k place op lists).0
  old_one op f keeps i j =
      still (queued t.latch t.request.id ≡ true) (f t.latch t.request.id ≡ true) place (list_of lists t.latch)
      (list_of (latch_step k place op lists).0 t.latch) t.request (latch_changes k place op lists t.latch) (early i) (ih i) keeps j

  pushed_granted : (latch : ℕ) (r : Request) (f : Table) → latch < length lists → grants (list_of lists latch) r ≡ true → stood latch r ≡ t
      → Waits f (set lists latch (list_of lists latch ++ r ∷ []))
  pushed_granted latch r f lt g new =
      subst (λ (u : StandingRequest). (f u.latch u.request.id ≡ true)
      ⊎ Contains (granted (list_of (set lists latch (list_of lists latch ++ r ∷ [])) u.latch)) u.request) new
      (inr (rw (get_or-set_same lists latch (list_of lists latch ++ r ∷ []) [] lt) (granted_at_once (list_of lists latch) r g)))

  new_flag : (latch requestor id : ℕ) (mode : Mode) (form : LatchForm) → form ≡ form_of.Waiting
      → queued_after queued (Obtain latch requestor mode form) (Queued id) latch id ≡ true
  new_flag latch requestor id mode form is = rw is (set_here queued latch id)

  obtained : (latch requestor : ℕ) (mode : Mode) (form : LatchForm) → latch < length lists
      → let r : Request = record { id = place; caller = k; requestor = requestor; mode = mode; form = form } in
      (b d : Bool) → grants (list_of lists latch) r ≡ b → queues form ≡ d
      → let z : List Request × LatchReply = cond b (list_of lists latch ++ r ∷ [], Granted place)
      (cond d (list_of lists latch ++ r ∷ [], Queued place) (list_of lists latch, NotNow (blocker r (list_of lists latch)))) in
      (Contains ts t → Waits (queued_after queued (Obtain latch requestor mode form) z.1) (set lists latch z.0))
      → Contains (stands_after k ts (Obtain latch requestor mode form) z.1) t
      → Waits (queued_after queued (Obtain latch requestor mode form) z.1) (set lists latch z.0)
  obtained latch requestor mode form lt true d g q before i =
      let r : Request = record { id = place; caller = k; requestor = requestor; mode = mode; form = form } in
      elim (Contains-push_cases ts (stood latch r) t i) [
        | inl old ↦ before old
        | inr new ↦ pushed_granted latch r (queued_after queued (Obtain latch requestor mode form) (Granted place)) lt g new
      ]
  obtained latch requestor mode form lt false true g q before i =
      let r : Request = record { id = place; caller = k; requestor = requestor; mode = mode; form = form } in
      elim (Contains-push_cases ts (stood latch r) t i) [
        | inl old ↦ before old
        | inr new ↦
            let formed : form ≡ form_of.Waiting = ap (λ (u : StandingRequest). u.request.form) new ∙ waits in
            inl (subst (λ (u : StandingRequest). queued_after queued (Obtain latch requestor mode form)
            (Queued place) u.latch u.request.id ≡ true) new (new_flag latch requestor place mode form formed))
      ]
  obtained latch requestor mode form lt false false g q before i = before i

  -- its own confirm
  confirmed_own : (latch id : ℕ) → (latch ≡ t.latch) → (id ≡ t.request.id) → (f : Table) → (b d : Bool)
      → list_any (is_own k id) (granted (list_of lists latch)) ≡ b
      → let y : LatchReply = cond b (Granted id) (cond d Waiting Gone) in
      is_early_confirm t Latches (op_on.Latch (Confirm latch id)) (reply_of.Latch y) ≡ false
      → Contains (stands_after k ts (Confirm latch id) y) t → Waits f lists
  confirmed_own latch id here too f true d any not_early i =
      let holds : list_any (is_own k t.request.id) (granted (list_of lists t.latch)) ≡ true =
      subst (λ n. list_any (is_own k t.request.id) (granted (list_of lists n)) ≡ true) here
      (subst (λ n. list_any (is_own k n) (granted (list_of lists latch)) ≡ true) too any) in
      let w = found (is_own k t.request.id) (granted (list_of lists t.latch)) holds in
      inr (subst (Contains (granted (list_of lists t.latch))) (unique w.0 i (in_granted w.0 (list_of lists t.latch) w.1) w.2) w.1)
  confirmed_own latch id here too f false true any not_early i =
      absurd (true≢false (sym (rw (eq-eqb latch t.latch here, eq-eqb id t.request.id too) refl) ∙ not_early))
  confirmed_own latch id here too f false false any not_early i =
      absurd (true≢false (sym (rw (eq-eqb t.latch latch (sym here), eq-eqb t.request.id id (sym too)) refl)
      ∙ not-true (is_named latch id t) (passes (λ u. not (is_named latch id u)) t ts i)))

  confirmed : (latch id : ℕ) → is_early_confirm t Latches (op_on.Latch (Confirm latch id))
      (reply_of.Latch (confirm_reply k id (list_of lists latch))) ≡ false
      → Contains (stands_after k ts (Confirm latch id) (confirm_reply k id (list_of lists latch))) t
      → Contains (list_of lists t.latch) t.request
      → Waits (queued_after queued (Confirm latch id) (confirm_reply k id (list_of lists latch))) lists
  confirmed latch id not_early i j = elim (cases_Bool ((latch == t.latch) && (id == t.request.id))) [
    | inl hit ↦
        confirmed_own latch id (eqb-true latch t.latch (and_parts _ _ hit).0) (eqb-true id t.request.id (and_parts _ _ hit).1)
        (queued_after queued (Confirm latch id) (confirm_reply k id (list_of lists latch)))
        (list_any (is_own k id) (granted (list_of lists latch))) (list_any (is_own k id) (list_of lists latch)) refl not_early i
    | inr apart ↦ old_one (Confirm latch id) (queued_after queued (Confirm latch id) (confirm_reply k id (list_of lists latch)))
        (λ is. set_other queued latch id t.latch t.request.id apart is)
        (stood_at_confirm k ts t latch id (confirm_reply k id (list_of lists latch)) i) j
  ]

  own_step : (op : LatchOp) → NamesLatch op lists → is_early_confirm t Latches (op_on.Latch op)
      (reply_of.Latch (latch_step k place op lists).1) ≡ false
      → Contains (stands_after k ts op (latch_step k place op lists).1) t
      → Contains (list_of (latch_step k place op lists).0 t.latch) t.request
      → Waits (queued_after queued op (latch_step k place op lists).1) (latch_step k place op lists).0
  own_step (Obtain latch requestor mode form) lt not_early i j =
      let r : Request = record { id = place; caller = k; requestor = requestor; mode = mode; form = form } in
      obtained latch requestor mode form lt (grants (list_of lists latch) r) (queues form) refl refl
      (λ old. old_one (Obtain latch requestor mode form)
      (queued_after queued (Obtain latch requestor mode form) (obtain_step r (list_of lists latch)).1)
      (obtain_keeps latch requestor mode form (obtain_step r (list_of lists latch)).1) old j) i where
        obtain_keeps : (latch requestor : ℕ) (mode : Mode) (form : LatchForm) (y : LatchReply) → queued t.latch t.request.id ≡ true
            → queued_after queued (Obtain latch requestor mode form) y t.latch t.request.id ≡ true
        obtain_keeps latch requestor mode form_of.Waiting (Queued id) is = set_true queued latch id t.latch t.request.id is
        obtain_keeps latch requestor mode form y is = is
  own_step (Confirm latch id) lt not_early i j = confirmed latch id not_early i j
  own_step (Release latch id conditional) lt not_early i j =
      old_one (Release latch id conditional) queued (λ is. is)
      (stood_at_release k ts t latch id conditional (release_step k id conditional (list_of lists latch)).1 i) j
  own_step (Purge requestor) lt not_early i j = old_one (Purge requestor) queued (λ is. is)
      (was_in (λ u. not (is_for requestor u)) t ts i) j

-- ---- one entry
abbrev WaitsAt : StandingRequest → Table → System → Type 0
WaitsAt t f s = (f t.latch t.request.id ≡ true) ⊎ Contains (granted (list_at s t.latch)) t.request

-- an entry of the caller's own
own_moved : (c : Setup) (s : System) (k : ℕ) (o : Object) (p : ℕ) (op : Op) (y : Reply) (ts : List StandingRequest) (queued : Table)
    (t : StandingRequest) → IsNext c s (entry_of k o p op y) → t.request.form ≡ form_of.Waiting
    → (Contains ts t → t.request.id < s.latches.place)
    → ((q : Request) → Contains ts t → Contains (list_at s t.latch) q → is_own k t.request.id q ≡ true → q ≡ t.request)
    → (Contains ts t → Contains (list_at s t.latch) t.request → WaitsAt t queued s)
    → is_early_confirm t o op y ≡ false → Contains (stands_with k ts o op y) t → Contains (list_at (moved s k o op) t.latch) t.request
    → WaitsAt t (queued_with queued o op y) (moved s k o op)
own_moved c s k Latches p (op_on.Latch op) (reply_of.Latch y) ts queued t h waits early unique ih not_early i j =
    let is : (latch_step k s.latches.place op s.latches.state).1 ≡ y = cc h.reply in
    subst (λ z. (queued_after queued op z t.latch t.request.id ≡ true)
    ⊎ Contains (granted (list_of (latch_step k s.latches.place op s.latches.state).0 t.latch)) t.request) is
    (own_step k s.latches.place s.latches.state ts queued t waits early unique ih op (names_of c s k op h.admits)
    (subst (λ z. is_early_confirm t Latches (op_on.Latch op) (reply_of.Latch z) ≡ false) (sym is) not_early)
    (subst (λ z. Contains (stands_after k ts op z) t) (sym is) i) j)
own_moved c s k Latches p (op_on.Latch op) y ts queued t h waits early unique ih not_early i j = absurd (cc h.reply)
own_moved c s k (Ecb m) p (op_on.Ecb op) y ts queued t h waits early unique ih not_early i j = ih i j
own_moved c s k (Element m) p (op_on.Element op) y ts queued t h waits early unique ih not_early i j = ih i j
own_moved c s k (Volume m) p (op_on.Volume op) y ts queued t h waits early unique ih not_early i j = ih i j
own_moved c s k o p op y ts queued t h waits early unique ih not_early i j = absurd (false≢true h.admits)

-- another caller's entry
other_moved : (c : Setup) (s : System) (j : ℕ) (o : Object) (p : ℕ) (op : Op) (y : Reply) (queued : Table) (t : StandingRequest)
    → IsNext c s (entry_of j o p op y) → t.request.id < s.latches.place
    → (Contains (list_at s t.latch) t.request → WaitsAt t queued s) → Contains (list_at (moved s j o op) t.latch) t.request
    → WaitsAt t queued (moved s j o op)
other_moved c s j Latches p (op_on.Latch op) y queued t h early ih i =
    still (queued t.latch t.request.id ≡ true) (queued t.latch t.request.id ≡ true) s.latches.place (list_at s t.latch)
    (list_of (latch_step j s.latches.place op s.latches.state).0 t.latch) t.request
    (latch_changes j s.latches.place op s.latches.state t.latch) early ih (λ is. is) i
other_moved c s j (Ecb m) p (op_on.Ecb op) y queued t h early ih i = ih i
other_moved c s j (Element m) p (op_on.Element op) y queued t h early ih i = ih i
other_moved c s j (Volume m) p (op_on.Volume op) y queued t h early ih i = ih i
other_moved c s j o p op y queued t h early ih i = absurd (false≢true h.admits)

-- ---- along a legal list
-- the marks of a caller's part
abbrev queued_of : ℕ → List Entry → Table
queued_of k es = (waits_from no_waits (of k es)).queued

-- a standing request that is in its list and was not confirmed too soon waits by its mark, or is granted
pub waits_in_queue : (c : Setup) (k : ℕ) (t : StandingRequest) (es : List Entry) → t.request.form ≡ form_of.Waiting → Legal c es
    → Contains (standing (of k es)) t → HasNoEarlyConfirm t (of k es) → Contains (list_at (after c es) t.latch) t.request
    → ((waits_from no_waits (of k es)).queued t.latch t.request.id ≡ true) ⊎ Contains (granted (list_at (after c es) t.latch)) t.request
waits_in_queue c k t es waits = by_last (λ xs. Legal c xs → Contains (standing (of k xs)) t → HasNoEarlyConfirm t (of k xs)
    → Contains (list_at (after c xs) t.latch) t.request → WaitsAt t (queued_of k xs) (after c xs)) (λ l i n j. absurd (not_in_empty t i))
    (λ xs e ih l i n j.
    let h : IsNext c (after c xs) e = last_is_next c xs e l in
    let front : Legal c xs = front_is_legal c xs e l in
    let now : Contains (list_at (next (after c xs) e) t.latch) t.request = subst (λ (s : System). Contains (list_at s t.latch) t.request)
    (after_longer c xs e) j in
    subst (λ (s : System). WaitsAt t (queued_of k (xs ++ e ∷ [])) s) (sym (after_longer c xs e))
    (elim (cases_eq e.caller k) [
      | inl own ↦
          let both : HasNoEarlyConfirm t (of k xs ++ e ∷ []) = subst (HasNoEarlyConfirm t) (of_longer_mine k xs e own) n in
          let confirmed_late : HasNoEarlyConfirm t (of k xs) =
          all_front (λ x. is_early_confirm t x.object x.op x.reply ≡ false) (of k xs) (e ∷ []) both in
          let later = all_back (λ x. is_early_confirm t x.object x.op x.reply ≡ false) (of k xs) (e ∷ []) both in
          let log : waits_from no_waits (of k (xs ++ e ∷ [])) ≡ waits_after (waits_from no_waits (of k xs)) e.object e.op e.reply =
          ap (waits_from no_waits) (of_longer_mine k xs e own) ∙ waits_from-append no_waits (of k xs) (e ∷ []) in
          subst (λ (w : OpenWaits). WaitsAt t w.queued (next (after c xs) e)) (sym log)
          (own_moved c (after c xs) e.caller e.object e.place e.op e.reply (standing (of k xs)) (queued_of k xs) t h waits
          (λ old. (stands_below c k xs t front old).0)
          (λ q old there mine. one_request c k t xs q front old there (subst (λ m. is_own m t.request.id q ≡ true) own mine))
          (λ old there. ih front old confirmed_late there)
          later.0 (subst (λ ts. Contains ts t) (standing_own k xs e own) i) now)
      | inr other ↦
          let old : Contains (standing (of k xs)) t = subst (λ ts. Contains ts t) (standing_other k xs e other) i in
          subst (λ log. WaitsAt t (waits_from no_waits log).queued (next (after c xs) e)) (sym (of_longer_other k xs e other))
          (other_moved c (after c xs) e.caller e.object e.place e.op e.reply (queued_of k xs) t h (stands_below c k xs t front old).0
          (λ there. ih front old (subst (HasNoEarlyConfirm t) (of_longer_other k xs e other) n) there) now)
    ])) es

-- at rest it is granted, or was purged
pub granted_at_rest : (c : Setup) (k : ℕ) (t : StandingRequest) (es : List Entry) → t.request.form ≡ form_of.Waiting → Legal c es
    → Contains (standing (of k es)) t → HasNoEarlyConfirm t (of k es) → IsAtRest (of k es)
    → IsGranted k t.latch t.request.id (after c es) ⊎ WasPurged k t es
granted_at_rest c k t es waits l i n rest = elim (stands_or_purged c k t es l i) [
  | inl there ↦ elim (waits_in_queue c k t es waits l i n there) [
    | inl still_on ↦ absurd (false≢true (sym (rest.queued t.latch t.request.id) ∙ still_on))
    | inr g ↦ inl (finds (is_own k t.request.id) t.request (granted (list_at (after c es) t.latch)) g (its_own c k t es l i))
  ]
  | inr w ↦ inr w
]

-- at rest a confirm of it does not come too soon
pub confirm_at_rest : (c : Setup) (es : List Entry) (e : Entry) (t : StandingRequest) → t.request.form ≡ form_of.Waiting → Legal c es
    → IsNext c (after c es) e → e.object ≡ Latches → e.op ≡ op_on.Latch (Confirm t.latch t.request.id)
    → Contains (standing (of e.caller es)) t → HasNoEarlyConfirm t (of e.caller es) → IsAtRest (of e.caller es)
    → (e.reply ≡ reply_of.Latch (Granted t.request.id)) ⊎ (e.reply ≡ reply_of.Latch Gone)
confirm_at_rest c es e t waits l h o is i n rest = elim (granted_at_rest c e.caller t es waits l i n rest) [
  | inl holds ↦ inl (confirm_finds_granted c (after c es) e t.latch t.request.id h o is holds)
  | inr w ↦ inr ((confirm_gone c es e t l h o is i).1 w)
]
