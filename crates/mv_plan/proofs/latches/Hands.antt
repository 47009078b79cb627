-- The hands: at each latch an initiator's requests are exactly those of the job that it runs, and a latch that the job holds is
-- granted to it. First on lists and points alone; then each move keeps the hands, where no two initiators run one job.
use Rattle.mv_plan.proofs.Words.{◌≡◌, ℕ, suc, ◌+◌, ◌<◌, ◌==◌, Bool, true, false, not, List, [], ◌∷◌, ◌++◌, length, filter, Option, Some, ap}
use Rattle.mv_plan.proofs.Words.{inl, inr, refl, sym, ◌∙◌, subst, append-nil, AllByRecursion, Contains, list_any, eq-eqb, ne_eqb, eqb-true}
use Rattle.mv_plan.proofs.Words.{cases_eq, LatchOp, Mode, Request, granted, grants, list_of, latch_step, is_own, of_caller, not_in_empty}
use Rattle.mv_plan.proofs.Words.{first_or_rest, mine, NamesLatch, JobData, Step, Print, job_at, initiator, all_append, all_filter, all_at}
use Rattle.mv_plan.proofs.Words.{Free, LatchForm, rules, ◌||◌, if◌then◌else◌, replicate, None, arith, LatchReply, Entry, Object, Latches}
use Rattle.mv_plan.proofs.Words.{Op, Reply, IsNext, next, Setup, System, moved, ElementReply, VolumeReply, common_steps}
use Rattle.mv_machine.proofs.Standing.{is_mine}
use Rattle.mv_machine.proofs.Lists.{all_front, all_back, all_map}
use Rattle.mv_latch.proofs.Changes.{Changed, stays_granted, list_purged, latch_changes}
use Rattle.mv_latch.proofs.Members.{finds, found, was_in}
use Rattle.mv_plan.proofs.latches.Lists.{filter_none, request_of, asked, asked_push, asked_here, asked_there}
use Rattle.mv_plan.proofs.latches.Lists.{asked_below, asked_freed, asked_kept, asked_named, asked_of, asked_all, obtained_list, granted_new}
use Rattle.mv_plan.proofs.latches.Lists.{obtained_elsewhere, released_list, released_elsewhere, granted_in, mine_pushed}
use Rattle.mv_plan.proofs.latches.Lists.{mine_without, mine_purged, Spares, mine_kept, AllAsked, obtained_reply, confirm_granted, all_asked}
use Rattle.mv_plan.proofs.points.{held_of, Point, At, Finished, Grant, Running, Hand, empty_hand, without_latch, InitiatorAt, hand_at}
use Rattle.mv_plan.proofs.points.{Ending, Confirming, steps_at, running, job_start, given_at, counting_at, InJob, freeing_lands, Opening}
use Rattle.mv_plan.proofs.points.{given_lands, counting_lands, IsInitiatorAt, Pausing, Resuming, Obtaining, Freeing, Reading, ToAdd, OfJob}
use Rattle.mv_plan.proofs.points.{Writing, Compares, Purging, initiator_asks, initiator_goes, IsSignal}
use Rattle.mv_plan.proofs.lists.{all_join, all_but}
use Rattle.mv_machine.proofs.EntryRuns.{entry_of}
use Rattle.mv_machine.proofs.Replies.{latches_answer}
use Rattle.mv_machine.proofs.StandingRuns.{names_of}
use Rattle.mv_plan.proofs.deck.{is_held}
use Rattle.mv_plan.proofs.walks.{Mover, who_moved, mover_asked, Points, Move}

-- What an initiator's point says of its requests: nothing, where its program has ended too soon or gone astray; that there are
-- none; or that its job holds these latches and asks for these as well.
pub data Grip : Type 0 where
  Lost : Grip
  Idle : Grip
  Works : (job : ℕ) (held more : List Grant) → Grip

abbrev pub grip : Point InitiatorAt → Grip
grip (At (InJob run (Confirming hand latch mode id steps))) =
    Works run.job hand.holding (record { latch = latch; mode = mode; id = id } ∷ [])
grip (At (InJob run (Ending post code counts))) = Idle
grip (At (InJob run w)) = Works run.job (hand_at w).holding []
grip (At x) = Idle
grip (Finished answer) = Idle
grip p = Lost

-- caller k's requests at each latch are those that the job asks for
abbrev pub Listed : List (List Request) → ℕ → ℕ → List Grant → Type 0
Listed lists k job gs = (latch : ℕ) → mine k (list_of lists latch) ≡ asked k job latch gs

-- these latches are granted to it
abbrev pub Holds : List (List Request) → ℕ → ℕ → List Grant → Type 0
Holds lists k job held = AllByRecursion (λ g. Contains (granted (list_of lists g.latch)) (request_of k job g)) held

pub record Owns (lists : List (List Request)) (k job : ℕ) (held more : List Grant) : Type 0 where
  pub listed : Listed lists k job (held ++ more)
  pub holds : Holds lists k job held

-- no request of the caller is in any list
abbrev pub HasNone : List (List Request) → ℕ → Type 0
HasNone lists k = (latch : ℕ) → mine k (list_of lists latch) ≡ []

abbrev pub OwnsBy : List (List Request) → ℕ → Grip → Type 0
OwnsBy lists k Lost = Unit {0}
OwnsBy lists k Idle = HasNone lists k
OwnsBy lists k (Works job held more) = Owns lists k job held more

-- a request of an initiator
abbrev pub IsKnown : ℕ → Request → Type 0
IsKnown initiators q = (i : ℕ) × (i < initiators) × (q.caller ≡ initiator i)

-- The requests of each initiator in the lists are exactly those that its point says, those of the latches that its job holds
-- are granted, and there are no others.
pub record Hands (initiators : ℕ) (lists : List (List Request)) (points : ℕ → Point InitiatorAt) : Type 0 where
  pub owns : (i : ℕ) → i < initiators → OwnsBy lists (initiator i) (grip (points i))
  pub known : AllAsked (IsKnown initiators) lists

-- ---- what is granted stays granted

pub holds_still : (lists new : List (List Request)) (place k job : ℕ) (held more : List Grant)
    → ((latch : ℕ) → Changed place (list_of lists latch) (list_of new latch)) → Listed new k job (held ++ more) → Holds lists k job held
    → Holds new k job held
holds_still lists new place k job held more changed listed holds =
    all_join (λ g asks had. stays_granted place (list_of lists g.latch) (list_of new g.latch) (request_of k job g) (changed g.latch) had
    (was_in (of_caller k) (request_of k job g) (list_of new g.latch)
    (subst (λ z. Contains z (request_of k job g)) (sym (listed g.latch)) asks)))
    held (all_front (λ g. Contains (asked k job g.latch (held ++ more)) (request_of k job g)) held more
    (asked_all k job (held ++ more))) holds

pub owns_plain : (lists : List (List Request)) (k job : ℕ) (held : List Grant) → Listed lists k job held → Holds lists k job held
    → Owns lists k job held []
owns_plain lists k job held listed holds = record { listed = subst (Listed lists k job) (sym (append-nil held)) listed; holds = holds }

pub listed_plain : (lists : List (List Request)) (k job : ℕ) (held : List Grant) → Owns lists k job held [] → Listed lists k job held
listed_plain lists k job held w = subst (Listed lists k job) (append-nil held) w.listed

-- ---- another initiator's event

-- it is no purge of this job
abbrev pub SparesJob : LatchOp → Grip → Type 0
SparesJob (LatchOp.Purge requestor) (Works job held more) = requestor ≡ job + 1 → ⊥
SparesJob op st = Unit {0}

spares_idle : (k : ℕ) (lists : List (List Request)) (op : LatchOp) → HasNone lists k → Spares k lists op
spares_idle k lists op w = search rules

spares_works : (k job : ℕ) (held more : List Grant) (lists : List (List Request)) (op : LatchOp) → SparesJob op (Works job held more)
    → Owns lists k job held more → Spares k lists op
spares_works k job held more lists (LatchOp.Purge requestor) n w = search (rules, all_map, ne_eqb, asked_of)
spares_works k job held more lists op n w = tt

other_owns : (k j place : ℕ) (op : LatchOp) (lists : List (List Request)) (st : Grip) → (k ≡ j → ⊥) → NamesLatch op lists
    → SparesJob op st → OwnsBy lists k st
    → OwnsBy (latch_step j place op lists).0 k st
other_owns k j place op lists Lost n lt sp w = tt
other_owns k j place op lists Idle n lt sp w = λ latch. mine_kept k j place op lists n lt (spares_idle k lists op w) latch ∙ w latch
other_owns k j place op lists (Works job held more) n lt sp w =
    record {
      listed = now;
      holds = holds_still lists (latch_step j place op lists).0 place k job held more (latch_changes j place op lists) now w.holds;
    } where
      now : Listed (latch_step j place op lists).0 k job (held ++ more)
      now = λ latch. mine_kept k j place op lists n lt (spares_works k job held more lists op sp w) latch ∙ w.listed latch

-- ---- the initiator's own events

everywhere : (P : ℕ → Type 0) (latch : ℕ) → P latch → ((other : ℕ) → (other ≡ latch → ⊥) → P other) → (other : ℕ) → P other
everywhere P latch here there other = elim (cases_eq other latch) [ inl e ↦ subst P (sym e) here | inr apart ↦ there other apart ]

module _ (k place job latch : ℕ) (mode : Mode) (lists : List (List Request)) (held : List Grant) where
  -- the request that is made
  abbrev new_grant : Grant
  new_grant = record { latch = latch; mode = mode; id = place }

  abbrev after_obtain : List (List Request)
  after_obtain = (latch_step k place (LatchOp.Obtain latch (job + 1) mode LatchForm.Waiting) lists).0

  pub obtain_listed : latch < length lists → Listed lists k job held → Listed after_obtain k job (held ++ new_grant ∷ [])
  obtain_listed lt w = everywhere (λ x. mine k (list_of after_obtain x) ≡ asked k job x (held ++ new_grant ∷ [])) latch
      (ap (mine k) (obtained_list k place latch (job + 1) mode lists lt)
      ∙ mine_pushed k (request_of k job new_grant) (list_of lists latch) refl
      ∙ ap (λ z. z ++ request_of k job new_grant ∷ []) (w latch)
      ∙ ap (λ z. asked k job latch held ++ z) (sym (asked_here k job new_grant)) ∙ sym (asked_push k job latch held (new_grant ∷ [])))
      (λ other n. ap (mine k) (obtained_elsewhere k place latch (job + 1) other mode lists n) ∙ w other
      ∙ sym (append-nil (asked k job other held))
      ∙ ap (λ z. asked k job other held ++ z) (sym (asked_there k job other new_grant (λ q. n (sym q))))
      ∙ sym (asked_push k job other held (new_grant ∷ [])))

  -- it waits
  obtain_owns : latch < length lists → Owns lists k job held [] → Owns after_obtain k job held (new_grant ∷ [])
  obtain_owns lt w = record {
    listed = obtain_listed lt (listed_plain lists k job held w);
    holds = holds_still lists after_obtain place k job held (new_grant ∷ [])
        (latch_changes k place (LatchOp.Obtain latch (job + 1) mode LatchForm.Waiting) lists)
        (obtain_listed lt (listed_plain lists k job held w)) w.holds;
  }

  -- or is granted at once
  obtain_holds : latch < length lists → grants (list_of lists latch) (request_of k job new_grant) ≡ true → Owns lists k job held []
      → Owns after_obtain k job (held ++ new_grant ∷ []) []
  obtain_holds lt e w =
      let more : Owns after_obtain k job held (new_grant ∷ []) = obtain_owns lt w in
      owns_plain after_obtain k job (held ++ new_grant ∷ []) more.listed
      (all_append (λ g. Contains (granted (list_of after_obtain g.latch)) (request_of k job g)) held (new_grant ∷ []) more.holds (
        subst (λ z. Contains (granted z) (request_of k job new_grant)) (sym (obtained_list k place latch (job + 1) mode lists lt))
            (granted_new (request_of k job new_grant) (list_of lists latch) e),
        tt,
      ))

-- a request that is confirmed is granted
own_caller : (k id : ℕ) (q : Request) → is_own k id q ≡ true → q.caller ≡ k
own_caller k id q e = search (rules, eqb-true)

-- the one request of the caller at a latch above all that it holds
pub asked_last : (k job : ℕ) (held : List Grant) (g : Grant) → AllByRecursion (λ h. h.latch < g.latch) (held_of held)
    → asked k job g.latch (held ++ g ∷ []) ≡ request_of k job g ∷ []
asked_last k job held g b = asked_push k job g.latch held (g ∷ [])
    ∙ ap (λ z. z ++ asked k job g.latch (g ∷ [])) (asked_below k job g.latch held b) ∙ asked_here k job g

confirm_owns : (lists : List (List Request)) (k job : ℕ) (held : List Grant) (g : Grant)
    → AllByRecursion (λ h. h.latch < g.latch) (held_of held)
    → list_any (is_own k g.id) (granted (list_of lists g.latch)) ≡ true → Owns lists k job held (g ∷ [])
    → Owns lists k job (held ++ g ∷ []) []
confirm_owns lists k job held g below e w =
    owns_plain lists k job (held ++ g ∷ []) w.listed
    (all_append (λ h. Contains (granted (list_of lists h.latch)) (request_of k job h)) held (g ∷ []) w.holds (there, tt)) where
      it : (q : Request) × Contains (granted (list_of lists g.latch)) q × (is_own k g.id q ≡ true)
      it = found (is_own k g.id) (granted (list_of lists g.latch)) e

      one : Contains (request_of k job g ∷ []) it.0
      one = subst (λ z. Contains z it.0) (w.listed g.latch ∙ asked_last k job held g below)
          (is_mine k it.0 (list_of lists g.latch) (eq-eqb (it.0).caller k (own_caller k g.id it.0 it.2))
          (granted_in (list_of lists g.latch) it.0 it.1))

      same : request_of k job g ≡ it.0
      same = elim (first_or_rest (request_of k job g) [] it.0 one) [ inl q ↦ q | inr j ↦ absurd (not_in_empty it.0 j) ]

      there : Contains (granted (list_of lists g.latch)) (request_of k job g)
      there = subst (Contains (granted (list_of lists g.latch))) (sym same) it.1

-- it is there
pub confirm_stands : (lists : List (List Request)) (k job : ℕ) (held : List Grant) (g : Grant) → Owns lists k job held (g ∷ [])
    → list_any (is_own k g.id) (list_of lists g.latch) ≡ true
confirm_stands lists k job held g w =
    finds (is_own k g.id) (request_of k job g) (list_of lists g.latch)
    (was_in (of_caller k) (request_of k job g) (list_of lists g.latch)
    (subst (λ z. Contains z (request_of k job g)) (sym (w.listed g.latch))
    ((all_back (λ h. Contains (asked k job h.latch (held ++ g ∷ [])) (request_of k job h)) held (g ∷ [])
    (asked_all k job (held ++ g ∷ []))).0)))
    (rw (eq-eqb g.id g.id refl, eq-eqb k k refl) refl)

-- a latch that is held is there with the number that the job last had there
pub free_stands : (lists : List (List Request)) (k job latch id : ℕ) (requests : ℕ → Option ℕ) (held : List Grant)
    → Owns lists k job held [] → AllByRecursion (λ g. requests g.latch ≡ Some g.id) held → requests latch ≡ Some id
    → list_any (λ g. g.latch == latch) held ≡ true
    → list_any (is_own k id) (list_of lists latch) ≡ true
free_stands lists k job latch id requests held w last e has =
    finds (is_own k id) (request_of k job it.0) (list_of lists latch)
    (was_in (of_caller k) (request_of k job it.0) (list_of lists latch) there)
    (rw (eq-eqb (it.0).id id number, eq-eqb k k refl) refl) where
      it : (g : Grant) × Contains held g × ((g.latch == latch) ≡ true)
      it = found (λ g. g.latch == latch) held has

      at : (it.0).latch ≡ latch
      at = eqb-true (it.0).latch latch it.2

      number : (it.0).id ≡ id
      number = some_same (sym (all_at (λ g. requests g.latch ≡ Some g.id) held it.0 last it.1) ∙ ap requests at ∙ e) where
        some_same : Some (it.0).id ≡ Some id → (it.0).id ≡ id
        some_same q = cc q

      there : Contains (mine k (list_of lists latch)) (request_of k job it.0)
      there = subst (λ z. Contains z (request_of k job it.0)) (sym (listed_plain lists k job held w latch))
          (subst (λ l. Contains (asked k job l held) (request_of k job it.0)) at
          (all_at (λ g. Contains (asked k job g.latch held) (request_of k job g)) held it.0 (asked_all k job held) it.1))

module _ (k place job latch id : ℕ) (lists : List (List Request)) (held : List Grant) where
  abbrev after_free : List (List Request)
  after_free = (latch_step k place (LatchOp.Release latch id false) lists).0

  free_owns : (requests : ℕ → Option ℕ) → latch < length lists → list_any (is_own k id) (list_of lists latch) ≡ true
      → AllByRecursion (λ g. requests g.latch ≡ Some g.id) held → requests latch ≡ Some id → Owns lists k job held []
      → Owns after_free k job (without_latch latch held) []
  free_owns requests lt there last e w = owns_plain after_free k job (without_latch latch held) now
      (holds_still lists after_free place k job (without_latch latch held) []
      (latch_changes k place (LatchOp.Release latch id false) lists)
      (subst (Listed after_free k job) (sym (append-nil (without_latch latch held))) now)
      (all_filter (λ g. Contains (granted (list_of lists g.latch)) (request_of k job g))
      (λ g. not (g.latch == latch)) held w.holds)) where
        was : Listed lists k job held
        was = listed_plain lists k job held w

        now : Listed after_free k job (without_latch latch held)
        now = everywhere (λ x. mine k (list_of after_free x) ≡ asked k job x (without_latch latch held)) latch
            (ap (mine k) (released_list k place latch id lists lt there) ∙ mine_without k id (list_of lists latch)
            ∙ ap (λ z. filter (λ q. not (is_own k id q)) z) (was latch)
            ∙ filter_none (λ q. not (is_own k id q)) (asked k job latch held) (asked_named k job latch id requests held last e)
            ∙ sym (asked_freed k job latch held))
            (λ other n. ap (mine k) (released_elsewhere k place latch id other lists n) ∙ was other
            ∙ sym (asked_kept k job latch other held n))

-- a purge takes out all of the job's
purge_owns : (k place job : ℕ) (lists : List (List Request)) (held : List Grant) → Owns lists k job held []
    → HasNone (latch_step k place (LatchOp.Purge (job + 1)) lists).0 k
purge_owns k place job lists held w = search (rules, mine, list_purged, mine_purged, listed_plain, filter_none, all_map, eq-eqb, asked_of)

-- ---- the initiator's next point

module _ (lists : List (List Request)) (k : ℕ) where
  abbrev OwnsAt : Point InitiatorAt → Type 0
  OwnsAt p = OwnsBy lists k (grip p)

  steps_own : (run : Running) (hand : Hand) (steps : List Step) → Owns lists k run.job hand.holding []
      → OwnsAt (steps_at run hand steps)
  steps_own run hand (Print text ∷ steps) w = steps_own run hand steps w
  steps_own run hand (Free latch ∷ steps) w = freeing_lands OwnsAt tt run hand latch (hand.requests latch) steps (λ id e. w)
  steps_own run hand steps w = w

  -- a job starts with no latch
  pub start_owns : (run : Running) (job : JobData) (skipped : Bool) → HasNone lists k → OwnsAt (job_start skipped run job)
  start_owns run job true w = record { listed = w; holds = tt }
  start_owns run job false w = steps_own run empty_hand job.steps (record { listed = w; holds = tt })

  given_owns : (deck : List JobData) (more : ℕ) (before : List ℕ) (code g : ℕ) → HasNone lists k
      → OwnsAt (given_at deck more before code g)
  given_owns deck more before code g w = given_lands OwnsAt tt deck more before code g (λ z. w)
      (λ named left e t m. start_owns (running named before (suc left) g) (job_at deck named.job) named.skipped w)

  counting_owns : (run : Running) (hand : Hand) (volume amount : ℕ) (steps : List Step) (number : ℕ)
      → Owns lists k run.job hand.holding [] → OwnsAt (counting_at run hand volume amount steps number)
  counting_owns run hand volume amount steps number w = counting_lands OwnsAt tt run hand volume amount steps number w

-- ---- replies of the latch set

granted_reply : (b : Bool) (place id : ℕ)
    → Reply.Latch (LatchReply.Granted id) ≡ Reply.Latch (if b then LatchReply.Granted place else LatchReply.Queued place)
    → (b ≡ true) × (place ≡ id)
granted_reply x place id e = grind (arith, common_steps)

queued_reply : (b : Bool) (place id : ℕ)
    → Reply.Latch (LatchReply.Queued id) ≡ Reply.Latch (if b then LatchReply.Granted place else LatchReply.Queued place)
    → place ≡ id
queued_reply x place id e = grind (arith, common_steps)

pub has_latch : (latch : ℕ) (gs : List Grant) → list_any (is_held latch) (held_of gs) ≡ list_any (λ g. g.latch == latch) gs
has_latch latch [] = refl
has_latch latch (g ∷ gs) = ap (λ b. (g.latch == latch) || b) (has_latch latch gs)

-- ---- the initiator that moves

module _ (c : Setup) (s : System) (deck : List JobData) (i : ℕ) where
  abbrev k : ℕ
  k = initiator i

  abbrev lists : List (List Request)
  lists = s.latches.state

  abbrev place : ℕ
  place = s.latches.place

  abbrev after_asks : InitiatorAt → List (List Request)
  after_asks x = (moved s k (initiator_asks (length deck) i x).0 (initiator_asks (length deck) i x).1).latches.state

  abbrev OwnsNext : InitiatorAt → Reply → Type 0
  OwnsNext x r = OwnsBy (after_asks x) k (grip (initiator_goes deck x r))

  own_next : (x : InitiatorAt) (p : ℕ) (r : Reply)
      → IsNext c s (entry_of k (initiator_asks (length deck) i x).0 p (initiator_asks (length deck) i x).1 r)
      → IsInitiatorAt deck (At x) → OwnsBy lists k (grip (At x))
      → OwnsNext x r
  own_next (Pausing more before g) p (Reply.Element (ElementReply.Given code now)) h a w = given_owns lists k deck more before code now w
  own_next (Resuming more before g) p (Reply.Element (ElementReply.Given code now)) h a w = given_owns lists k deck more before code now w
  own_next (InJob run (Obtaining hand latch mode steps)) p (Reply.Latch (LatchReply.Granted id)) h a w =
      let op = LatchOp.Obtain latch (run.job + 1) mode LatchForm.Waiting in
      let e = granted_reply _ place id
      (latches_answer c s k p op (Reply.Latch (LatchReply.Granted id)) h
      ∙ ap (λ y. Reply.Latch y) (obtained_reply k place latch (run.job + 1) mode lists)) in
      subst (λ n. OwnsNext (InJob run (Obtaining hand latch mode steps)) (Reply.Latch (LatchReply.Granted n))) e.1
      (steps_own (after_asks (InJob run (Obtaining hand latch mode steps))) k run _ steps
      (obtain_holds k place run.job latch mode lists hand.holding (names_of c s k op h.admits) e.0 w))
  own_next (InJob run (Obtaining hand latch mode steps)) p (Reply.Latch (LatchReply.Queued id)) h a w =
      let op = LatchOp.Obtain latch (run.job + 1) mode LatchForm.Waiting in
      subst (λ n. OwnsNext (InJob run (Obtaining hand latch mode steps)) (Reply.Latch (LatchReply.Queued n)))
      (queued_reply _ place id
      (latches_answer c s k p op (Reply.Latch (LatchReply.Queued id)) h
      ∙ ap (λ y. Reply.Latch y) (obtained_reply k place latch (run.job + 1) mode lists)))
      (obtain_owns k place run.job latch mode lists hand.holding (names_of c s k op h.admits) w)
  own_next (InJob run (Confirming hand latch mode id steps)) p (Reply.Latch (LatchReply.Granted same)) h a w =
      let said = latches_answer c s k p (LatchOp.Confirm latch id) (Reply.Latch (LatchReply.Granted same)) h in
      steps_own lists k run _ steps
      (confirm_owns lists k run.job hand.holding (record { latch = latch; mode = mode; id = id }) a.sound.1
      (confirm_granted k id same (list_of lists latch) (cc said)) w)
  own_next (InJob run (Freeing hand latch id steps)) p (Reply.Latch (LatchReply.Released count)) h a w =
      steps_own (after_asks (InJob run (Freeing hand latch id steps))) k run _ steps
      (free_owns k place run.job latch id lists hand.holding hand.requests
      (names_of c s k (LatchOp.Release latch id false) h.admits)
      (free_stands lists k run.job latch id hand.requests hand.holding w a.0.holds.last a.1
      (sym (has_latch latch hand.holding) ∙ a.0.sound.1)) a.0.holds.last a.1 w)
  own_next (InJob run (Reading hand volume (ToAdd amount) steps)) p (Reply.Volume (VolumeReply.Value number)) h a w =
      counting_owns lists k run hand volume amount steps number w
  own_next (InJob run (Writing hand volume amount number steps)) p (Reply.Volume VolumeReply.Stored) h a w =
      steps_own lists k run hand steps w
  own_next (InJob run (Reading hand volume (Compares number) steps)) p (Reply.Volume (VolumeReply.Value again)) h a w =
      steps_own lists k run hand steps w
  own_next (InJob run (Purging hand code)) p (Reply.Latch (LatchReply.Purged removed count)) h a w =
      purge_owns k place run.job lists hand.holding w
  own_next (InJob run (Ending OfJob code counts)) p r h a w = grind (arith, common_steps)
  own_next x p r h a w = grind (arith, common_steps)

-- ---- the others

-- it is no purge of the job at hand
abbrev pub SparesOn : Object → Op → Grip → Type 0
SparesOn Latches (Op.Latch op) st = SparesJob op st
SparesOn o op st = Unit {0}

pub other_next : (c : Setup) (s : System) (k j : ℕ) (o : Object) (p : ℕ) (op : Op) (r : Reply) (st : Grip) → (k ≡ j → ⊥)
    → IsNext c s (entry_of j o p op r) → SparesOn o op st
    → OwnsBy s.latches.state k st → OwnsBy (moved s j o op).latches.state k st
other_next c s k j Latches p (Op.Latch op) r st n h sp w = grind (arith, common_steps, other_owns, names_of)
other_next c s k j o p op r st n h sp w = grind (arith, common_steps)

known_next : (c : Setup) (s : System) (initiators k : ℕ) (o : Object) (p : ℕ) (op : Op) (r : Reply) → IsNext c s (entry_of k o p op r)
    → ((i : ℕ) × (i < initiators) × (k ≡ initiator i))
    → AllAsked (IsKnown initiators) s.latches.state → AllAsked (IsKnown initiators) (moved s k o op).latches.state
known_next c s initiators k Latches p (Op.Latch op) r h own w =
    all_asked (IsKnown initiators) k s.latches.place op s.latches.state (names_of c s k op h.admits)
    (λ q e. (own.0, own.1, e ∙ own.2)) w
known_next c s initiators k o p op r h own w = grind (arith, common_steps)

-- ---- where no two initiators run one job

abbrev pub job_of : Grip → Option ℕ
job_of (Works job held more) = Some job
job_of st = None

-- the job whose requests may stand
abbrev pub works : Point InitiatorAt → Option ℕ
works p = job_of (grip p)

abbrev pub Apart : ℕ → (ℕ → Point InitiatorAt) → Type 0
Apart initiators points = (i m job : ℕ) → i < initiators → m < initiators → works (points i) ≡ Some job → works (points m) ≡ Some job
    → i ≡ m

spares_job : (job : ℕ) (st : Grip) → (job_of st ≡ Some job → ⊥) → SparesJob (LatchOp.Purge (job + 1)) st
spares_job job x n = grind (arith, common_steps)

pub spares : (n i : ℕ) (x : InitiatorAt) (st : Grip) → ((job : ℕ) → works (At x) ≡ Some job → job_of st ≡ Some job → ⊥)
    → SparesOn (initiator_asks n i x).0 (initiator_asks n i x).1 st
spares n i (InJob run (Purging hand code)) st apart = spares_job run.job st (apart run.job refl)
spares n i x st apart = tt

-- ---- one move

-- an event on a block or an element keeps the latches
latches_same : (s : System) (k : ℕ) (o : Object) (op : Op) → IsSignal o → (moved s k o op).latches.state ≡ s.latches.state
latches_same s k o op free = grind (arith, common_steps)

-- what is so of the entry is so of what is said
pub of_entry : (P : ℕ → Object → Op → Type 0) (e : Entry) (k : ℕ) (o : Object) (op : Op) → e.caller ≡ k → e.object ≡ o → e.op ≡ op
    → P e.caller e.object e.op → P k o op
of_entry P e k o op a b d p = subst (λ z. P k o z) d (subst (λ y. P k y e.op) b (subst (λ x. P x e.object e.op) a p))

pub hands_next : (c : Setup) (deck : List JobData) (initiators : ℕ) (s : System) (t u : Points) (e : Entry) → IsNext c s e
    → Move deck initiators t e u → ((i : ℕ) → i < initiators → IsInitiatorAt deck (t.initiators i)) → Apart initiators t.initiators
    → Hands initiators s.latches.state t.initiators → Hands initiators (next s e).latches.state u.initiators
hands_next c deck initiators s t u e h moves stand apart w = elim (who_moved deck initiators t u e moves) [
  | inl a ↦ subst (λ l. Hands initiators l u.initiators) (sym (latches_same s e.caller e.object e.op a.signal))
      (subst (Hands initiators s.latches.state) (sym a.same) w)
  | inr m ↦ subst (Hands initiators (next s e).latches.state) (sym m.moved) (record {
    owns = λ k less. all_but (λ k p. OwnsBy (next s e).latches.state (initiator k) (grip p)) t.initiators m.number
        (initiator_goes deck m.point e.reply) k (there m) (elsewhere m k less);
    known = known_next c s initiators e.caller e.object e.place e.op e.reply h (m.number, m.below, m.caller) w.known;
  })
] where
  there : (m : Mover deck initiators t u e)
      → OwnsBy (next s e).latches.state (initiator m.number) (grip (initiator_goes deck m.point e.reply))
  there m = mover_asked deck initiators t u e m (λ j o op. IsNext c s (entry_of j o e.place op e.reply)
      → OwnsBy (moved s j o op).latches.state (initiator m.number) (grip (initiator_goes deck m.point e.reply)))
      (λ h. own_next c s deck m.number m.point e.place e.reply h (subst (IsInitiatorAt deck) m.stands (stand m.number m.below))
      (subst (λ p. OwnsBy s.latches.state (initiator m.number) (grip p)) m.stands (w.owns m.number m.below))) h

  elsewhere : (m : Mover deck initiators t u e) (k : ℕ) → k < initiators → (m.number ≡ k → ⊥)
      → OwnsBy (next s e).latches.state (initiator k) (grip (t.initiators k))
  elsewhere m k less other = other_next c s (initiator k) e.caller e.object e.place e.op e.reply (grip (t.initiators k))
      (let same = m.caller in λ q. other (omega arith)) h
      (mover_asked deck initiators t u e m (λ j o op. SparesOn o op (grip (t.initiators k)))
      (spares (length deck) m.number m.point (grip (t.initiators k))
      (λ job a b. other (apart m.number k job m.below less (ap works m.stands ∙ a) b))))
      (w.owns k less)

pub hands_start : (latches initiators : ℕ) → Hands initiators (replicate latches []) (λ i. At Opening)
hands_start latches initiators = grind (arith, common_steps)
