-- How an initiator, its block, its element and what the scheduler has of it fit together, in one row; and each move keeps all rows. An
-- idle block's code is the generation with which its initiator goes on to pause; the scheduler releases only what it has cleared; and
-- the element's generation is the point's. Used by all that looks at elements.
use Rattle.mv_plan.proofs.Words.{◌≡◌, ℕ, suc, ◌+◌, ◌==◌, if◌then◌else◌, List, [], length, Option, Some, None, refl, sym, ap, arith, eq-eqb}
use Rattle.mv_plan.proofs.Words.{EcbState, Complete, ElementState, free, reset, prereleased, element_step, Reply, System, moved, reply_to}
use Rattle.mv_plan.proofs.Words.{with_at, advanced, JobData, job_at, initiator, idle, ElementOp, Phase, common_steps, ◌<◌, ◌⊎◌, inl, inr}
use Rattle.mv_plan.proofs.Words.{◌∙◌, subst, cases_eq, Entry, IsNext, next, Setup, opening, Kept, reader, scheduler, writer, ElementReply}
use Rattle.mv_element.specs.Element.{paused, released}
use Rattle.mv_plan.proofs.points.{IsInitiatorAt, Point, At, Finished, SchedulerAt, Releases, Running, InitiatorAt, Opening, Offering}
use Rattle.mv_plan.proofs.points.{Pausing, Resuming, Closing, initiator_asks, initiator_goes, rounds_from, given_at, running, on_opened}
use Rattle.mv_plan.proofs.points.{on_paused, on_resumed, on_closed, InJob, RunsOn, start_run, GoesOn, run_goes, run_asks, run_sound, run_of}
use Rattle.mv_plan.proofs.points.{given_lands, IsReaderAt, IsWriterAt, Stage, Awaited, WaitAt, wait_asks, ReaderAt, Entering, reader_asks}
use Rattle.mv_plan.proofs.points.{reader_goes, Waits, Clears, awaited_blocks, scheduler_asks, scheduler_goes, WriterAt, writer_asks}
use Rattle.mv_plan.proofs.points.{writer_goes, IsSchedulerAt, IsWaitAt, no_clear, writer_no_clear, NoClear, Elsewhere, AllNext, goes_next}
use Rattle.mv_plan.proofs.walks.{same_talk, Stand, Points, start_points, Move, entry_of, Each, of_move}
use Rattle.mv_plan.proofs.standing.Finds.{Finds, stay_moved, finds_kept, finds_next}
use Rattle.mv_plan.proofs.lists.{with_at-same, with_at-other, all_but}

-- where an initiator stands, as far as its block and its element go
pub data Stance : Type 0 where
  Starts : Stance
  Works : (g : ℕ) → Stance
  -- it has posted its block, or goes on from there: it is to pause, or pauses
  Offers : (g : ℕ) → Stance
  Parks : (g : ℕ) → Stance
  Ends : Stance
  Loses : Stance

abbrev pub stance_in : Option Running → Stance
stance_in None = Loses
stance_in (Some run) = Works run.generation

abbrev pub stance : Point InitiatorAt → Stance
stance (At Opening) = Starts
stance (At (Offering more before g)) = Works g
stance (At (Pausing more before g)) = Offers g
stance (At (Resuming more before g)) = Parks g
stance (At (Closing g)) = Works g
stance (Finished answer) = Ends
stance p = stance_in (run_of p)

-- the code of a block that is complete
abbrev pub code_in : EcbState → Option ℕ
code_in (Complete code) = Some code
code_in v = None

-- An initiator that is to pause with generation g: its block still says so; or the scheduler has cleared that and holds the
-- generation; or a code is in its element.
pub data Offer (g : ℕ) (bare : ElementState) (full : ℕ → ElementState) (offer hold : Option ℕ) (x : ElementState) : Type 0 where
  offered : offer ≡ Some g → hold ≡ None → x ≡ bare → Offer g bare full offer hold x
  taken : offer ≡ None → hold ≡ Some g → x ≡ bare → Offer g bare full offer hold x
  handed : (code : ℕ) → offer ≡ None → hold ≡ None → x ≡ full code → Offer g bare full offer hold x

-- by its block's code, the generation that the scheduler holds of it, and its element
abbrev pub Row : Stance → Option ℕ → Option ℕ → ElementState → Type 0
Row Starts offer hold x = (offer ≡ None) × (hold ≡ None) × (x ≡ free 0)
Row (Works g) offer hold x = (offer ≡ None) × (hold ≡ None) × (x ≡ reset g)
Row (Offers g) offer hold x = Offer g (reset g) (λ code. prereleased g code) offer hold x
Row (Parks g) offer hold x = Offer g (paused g) (λ code. released g code) offer hold x
Row Ends offer hold x = (offer ≡ None) × (hold ≡ None) × (x.phase ≡ Phase.Free)
Row Loses offer hold x = Unit {0}

-- the generation that the scheduler holds of initiator i: it has cleared its block and is to release it
abbrev pub hold_for : ℕ → Point SchedulerAt → Option ℕ
hold_for i (At (Releases m g code after)) = if m == i then Some g else None
hold_for i p = None

abbrev pub offer_of : ℕ → System → ℕ → Option ℕ
offer_of n s i = code_in (s.ecb (idle n i)).state

abbrev pub element_of : System → ℕ → ElementState
element_of s i = (s.element (initiator i)).state

abbrev pub RowAt : ℕ → System → Point SchedulerAt → ℕ → Point InitiatorAt → Type 0
RowAt n s q i p = Row (stance p) (offer_of n s i) (hold_for i q) (element_of s i)

-- ---- an initiator's own event

stance_run : (p : Point InitiatorAt) (run : Running) → run_of p ≡ Some run → stance p ≡ Works run.generation
stance_run p run e = grind (arith, common_steps)

pub row_at : (st st' : Stance) (o o' h h' : Option ℕ) (x x' : ElementState) → st' ≡ st → o' ≡ o → h' ≡ h → x' ≡ x → Row st o h x
    → Row st' o' h' x'
row_at st st' o o' h h' x x' a b d e r = rw (a, b, d, e) r

module _ (o h : Option ℕ) where
  rounds_row : (m : ℕ) (before : List ℕ) (g : ℕ) (x : ElementState) → Row (Works g) o h x → Row (stance (rounds_from m before g)) o h x
  rounds_row x before g y r = grind (arith, common_steps)

  run_row : (p : Point InitiatorAt) (run : Running) (x : ElementState) → RunsOn run p → Row (Works run.generation) o h x
      → Row (stance p) o h x
  run_row p run x y r = grind (arith, common_steps)

  goes_row : (p : Point InitiatorAt) (run : Running) (x : ElementState) → GoesOn run p → Row (Works run.generation) o h x
      → Row (stance p) o h x
  goes_row p run x y r = grind (arith, common_steps)

  given_row : (deck : List JobData) (more : ℕ) (before : List ℕ) (code g : ℕ) (x : ElementState) → Row (Works g) o h x
      → Row (stance (given_at deck more before code g)) o h x
  given_row deck more before code g x r = given_lands (λ p. Row (stance p) o h x) tt deck more before code g (λ z. r)
      (λ named left e t m. run_row _ (running named before (suc left) g) x
      (start_run named.skipped (running named before (suc left) g) (job_at deck named.job)) r)

  -- the element's events, by its state
  opened_row : (n : ℕ) (y : ElementState) (r : Reply) → r ≡ Reply.Element (element_step ElementOp.Open y).1 → Row Starts o h y
      → Row (stance (on_opened r n)) o h (element_step ElementOp.Open y).0
  opened_row n y r e w = rw (e, w.2) (rounds_row (n + 1) [] 0 (reset 0) (w.0, w.1, refl))

  paused_row : (deck : List JobData) (more : ℕ) (before : List ℕ) (g : ℕ) (y : ElementState) (r : Reply)
      → r ≡ Reply.Element (element_step (ElementOp.Pause g) y).1 → Row (Offers g) o h y
      → Row (stance (on_paused deck more before g r)) o h (element_step (ElementOp.Pause g) y).0
  paused_row deck more before g y r e x = grind (arith, common_steps, eq-eqb, offered, taken, given_row)

  resumed_row : (deck : List JobData) (more : ℕ) (before : List ℕ) (g : ℕ) (y : ElementState) (r : Reply)
      → r ≡ Reply.Element (element_step (ElementOp.Resume g) y).1 → Row (Parks g) o h y
      → Row (stance (on_resumed deck more before r)) o h (element_step (ElementOp.Resume g) y).0
  resumed_row deck more before g y r e x = grind (arith, common_steps, eq-eqb, given_row)

  closed_row : (g : ℕ) (y : ElementState) (r : Reply) → r ≡ Reply.Element (element_step (ElementOp.Close g) y).1 → Row (Works g) o h y
      → Row (stance (on_closed r)) o h (element_step (ElementOp.Close g) y).0
  closed_row g y r e w = rw (e, w.2, eq-eqb g g refl) (w.0, w.1, refl)

module _ (deck : List JobData) (s : System) (q : Point SchedulerAt) (i : ℕ) where
  abbrev n : ℕ
  n = length deck

  abbrev then_s : InitiatorAt → System
  then_s x = moved s (initiator i) (initiator_asks n i x).0 (initiator_asks n i x).1

  abbrev Answered : InitiatorAt → Reply → Type 0
  Answered x r = Some r ≡ reply_to s (initiator i) (initiator_asks n i x).0 (initiator_asks n i x).1

  -- its own event keeps its row
  on_element : (p : Point InitiatorAt) (o : Option ℕ) (h : Option ℕ) (y : ElementState) → Row (stance p) o h y
      → Row (stance p) o h (with_at s.element (initiator i) (advanced (s.element (initiator i)) y) (initiator i)).state
  on_element p o h y w = grind (arith, common_steps)

  runs_row : (x : InitiatorAt) (r : Reply) (run : Running) → run_of (At x) ≡ Some run → IsInitiatorAt deck (At x) → RowAt n s q i (At x)
      → RowAt n (then_s x) q i (initiator_goes deck x r)
  runs_row x r run e sound w =
      let same = same_talk n s (initiator i) (initiator_asks n i x).0 (initiator_asks n i x).1 (run_asks n i x run e (run_sound deck x run e
      sound).job) in
      row_at _ _ (offer_of n s i) _ (hold_for i q) _ (element_of s i) _ refl (ap (λ z. code_in z.state) (same.idles i)) refl
      (ap (λ z. z.state) (same.elements (initiator i)))
      (goes_row _ _ (initiator_goes deck x r) run (element_of s i) (run_goes deck x r run e)
      (row_at _ _ _ _ _ _ _ _ (sym (stance_run (At x) run e)) refl refl refl w))

  pub own_row : (x : InitiatorAt) (r : Reply) → IsInitiatorAt deck (At x) → Answered x r → RowAt n s q i (At x)
      → RowAt n (then_s x) q i (initiator_goes deck x r)
  own_row Opening r sound a w = on_element (initiator_goes deck Opening r) _ _ _ (opened_row _ _ n (element_of s i) r (cc a) w)
  own_row (Offering more before g) r sound a w = grind (arith, common_steps)
  own_row (Pausing more before g) r sound a w =
      on_element (initiator_goes deck (Pausing more before g) r) _ _ _ (paused_row _ _ deck more before g (element_of s i) r (cc a) w)
  own_row (Resuming more before g) r sound a w =
      on_element (initiator_goes deck (Resuming more before g) r) _ _ _ (resumed_row _ _ deck more before g (element_of s i) r (cc a) w)
  own_row (InJob run job) r sound a w = runs_row (InJob run job) r run refl sound w
  own_row (Closing g) r sound a w = on_element (initiator_goes deck (Closing g) r) _ _ _ (closed_row _ _ g (element_of s i) r (cc a) w)

  -- and the others' blocks and elements
  pub record Apart (z : System) : Type 0 where
    pub elements : (m : ℕ) → (m ≡ initiator i → ⊥) → z.element m ≡ s.element m
    pub idles : (m : ℕ) → (m ≡ i → ⊥) → z.ecb (idle n m) ≡ s.ecb (idle n m)

  pub apart : (x : InitiatorAt) → IsInitiatorAt deck (At x) → Apart (then_s x)
  apart x sound = grind (arith, common_steps)

-- ---- what the scheduler does to a row

bare_early : (g m code : ℕ) (x : ElementState) → g ≡ m → x ≡ reset m → ((element_step (ElementOp.Release g code) x).0 ≡ prereleased m code)
    × ((element_step (ElementOp.Release g code) x).1 ≡ ElementReply.Early)
bare_early g m code x e q = rw (q, e, eq-eqb m m refl) (refl, refl)

bare_woke : (g m code : ℕ) (x : ElementState) → g ≡ m → x ≡ paused m → ((element_step (ElementOp.Release g code) x).0 ≡ released m code)
    × ((element_step (ElementOp.Release g code) x).1 ≡ ElementReply.Woke)
bare_woke g m code x e q = rw (q, e, eq-eqb m m refl) (refl, refl)

-- the release of what it holds: its code is in the element
pub row_released : (st : Stance) (g code : ℕ) (o : Option ℕ) (x : ElementState) → Row st o (Some g) x
    → Row st o None (element_step (ElementOp.Release g code) x).0
row_released (Offers m) g code o x (offered a b q) = absurd (cc b)
row_released (Offers m) g code o x (taken a b q) = let e : g ≡ m = cc b in handed code a refl (bare_early g m code x e q).0
row_released (Offers m) g code o x (handed c a b q) = absurd (cc b)
row_released (Parks m) g code o x (offered a b q) = absurd (cc b)
row_released (Parks m) g code o x (taken a b q) = let e : g ≡ m = cc b in handed code a refl (bare_woke g m code x e q).0
row_released (Parks m) g code o x (handed c a b q) = absurd (cc b)
row_released Loses g code o x w = tt
row_released y g code o x w = absurd (cc (w.1))

-- ---- points at which it holds nothing

abbrev pub NoHold : Point SchedulerAt → Type 0
NoHold p = (i : ℕ) → hold_for i p ≡ None

-- a generation is held from a clear on until the release
abbrev NoClears : SchedulerAt → Type 0
NoClears (Clears i g code after) = ⊥
NoClears x = Unit {0}

module _ (n initiators : ℕ) where
  nexts_no_hold : (x : SchedulerAt) → NoClears x → AllNext n initiators NoHold x
  nexts_no_hold x d = grind (arith, common_steps)

  -- nothing is held behind any other step
  goes_no_hold : (x : SchedulerAt) (r : Reply) → NoClears x → NoHold (scheduler_goes n initiators x r)
  goes_no_hold x r d = goes_next n initiators NoHold x r (λ i. refl) (λ i. refl) (nexts_no_hold x d)

-- ---- a wait keeps the codes of blocks

pub wait_codes : (s : System) (k b : ℕ) (w : WaitAt)
    → code_in ((moved s k (wait_asks w).0 (wait_asks w).1).ecb b).state ≡ code_in (s.ecb b).state
wait_codes s k b x = grind (arith, common_steps)

wait_elements : (s : System) (k m : ℕ) (w : WaitAt) → (moved s k (wait_asks w).0 (wait_asks w).1).element m ≡ s.element m
wait_elements s k m x = grind (arith, common_steps)

-- ---- one row by the scheduler's event

module _ (deck : List JobData) (initiators : ℕ) (s : System) (m : ℕ) (st : Stance) where
  abbrev size : ℕ
  size = length deck

  abbrev behind : SchedulerAt → System
  behind x = moved s scheduler (scheduler_asks size x).0 (scheduler_asks size x).1

  abbrev Now : SchedulerAt → Type 0
  Now x = Row st (offer_of size s m) (hold_for m (At x)) (element_of s m)

  abbrev Then : SchedulerAt → Point SchedulerAt → Type 0
  Then x q = Row st (offer_of size (behind x) m) (hold_for m q) (element_of (behind x) m)

  released_row : (i g code : ℕ) (after : Stage) (q : Point SchedulerAt) → NoHold q → (i ≡ m) ⊎ (i ≡ m → ⊥)
      → Now (Releases i g code after) → Then (Releases i g code after) q
  released_row i g code after q none (inl same) w = grind (arith, common_steps, row_at, m, with_at-same, row_released, st, eq-eqb)
  released_row i g code after q none (inr other) w = grind (arith, common_steps)

  pub scheduled_row : (x : SchedulerAt) (r : Reply) → IsSchedulerAt deck initiators (At x)
      → Some r ≡ reply_to s scheduler (scheduler_asks size x).0 (scheduler_asks size x).1 → Finds size initiators s.ecb (At x)
      → Now x → Then x (scheduler_goes size initiators x r)
  scheduled_row (Waits a v) r sound e f w =
      row_at _ _ _ _ None _ _ _ refl (wait_codes s scheduler (idle size m) v) (goes_no_hold size initiators (Waits a v) r tt m)
      (ap (λ z. z.state) (wait_elements s scheduler (initiator m) v)) w
  scheduled_row (Releases i g code after) r sound e f w =
      released_row i g code after _ (goes_no_hold size initiators (Releases i g code after) r tt) (cases_eq i m) w
  scheduled_row x r sound e f w = grind (arith, common_steps)

-- ---- all together

-- Each initiator's row; elements that are no initiator's are free; and what the scheduler has found stands in its blocks.
pub record Rows (deck : List JobData) (initiators : ℕ) (s : System) (t : Points) : Type 0 where
  pub rows : (i : ℕ) → i < initiators → RowAt (length deck) s t.scheduler i (t.initiators i)
  pub others : (m : ℕ) → ((i : ℕ) → i < initiators → m ≡ initiator i → ⊥) → (s.element m).state ≡ free 0
  pub finds : Finds (length deck) initiators s.ecb t.scheduler

row_moved : (n : ℕ) (s z : System) (q : Point SchedulerAt) (i : ℕ) (p : Point InitiatorAt) → z.ecb (idle n i) ≡ s.ecb (idle n i)
    → z.element (initiator i) ≡ s.element (initiator i) → RowAt n s q i p → RowAt n z q i p
row_moved n s z q i p a b w = row_at _ _ _ _ (hold_for i q) _ _ _ refl (ap (λ y. code_in y.state) a) refl (ap (λ y. y.state) b) w

pub reader_low : (n : ℕ) (x : ReaderAt) → IsReaderAt n (At x) → Elsewhere n (reader_asks x).0
reader_low n (Entering j more) at = omega arith

pub writer_low : (n : ℕ) (x : WriterAt) → IsWriterAt n (At x) → Elsewhere n (writer_asks x).0
writer_low n x at = grind (arith, common_steps)

wait_sound : (deck : List JobData) (initiators : ℕ) (x : SchedulerAt) → IsSchedulerAt deck initiators (At x) → (a : Awaited) (w : WaitAt)
    → x ≡ Waits a w → IsWaitAt (awaited_blocks (length deck) initiators a) w
wait_sound deck initiators x sound a w e = (subst (λ y. IsSchedulerAt deck initiators (At y)) e sound).1

scheduled_others : (n initiators : ℕ) (deck : List JobData) (s : System) (x : SchedulerAt) (m : ℕ) → n ≡ length deck
    → IsSchedulerAt deck initiators (At x) → ((i : ℕ) → i < initiators → m ≡ initiator i → ⊥)
    → (moved s scheduler (scheduler_asks n x).0 (scheduler_asks n x).1).element m ≡ s.element m
scheduled_others n initiators deck s (Releases i g code after) m e sound d =
    with_at-other s.element (initiator i) m _ (λ z. d i sound.0 (sym z))
scheduled_others n initiators deck s x m e sound d = grind (arith, common_steps, wait_elements)

module _ (c : Setup) (deck : List JobData) (initiators : ℕ) (kept : ℕ → Kept) where
  abbrev Kept_by : System → Points → Entry → Points → Type 0
  Kept_by s t e u = Stand deck initiators kept t → Rows deck initiators s t → Rows deck initiators (next s e) u

  -- a task that touches no element and no initiator's block
  quiet : (s : System) (t : Points) (e : Entry) (p : Point ReaderAt) (q : Point WriterAt) → Elsewhere (length deck) e.object → NoClear e.op
      → Rows deck initiators s t → Rows deck initiators (next s e) (record t { reader = p; writer = q })
  quiet s t e p q low clear w =
      let same = same_talk (length deck) s e.caller e.object e.op low in record {
        rows = λ i lt. row_moved (length deck) s (next s e) t.scheduler i (t.initiators i) (same.idles i) (same.elements (initiator i))
            (w.rows i lt);
        others = λ m d. ap (λ y. y.state) (same.elements m) ∙ w.others m d;
        finds = finds_kept (length deck) initiators s.ecb (next s e).ecb t.scheduler (stay_moved s e.caller e.object e.op clear) w.finds;
      }

  each_kept : Each c deck initiators Kept_by
  each_kept = record {
    of_reader = λ s t x p r at n st w. quiet s t (entry_of reader p (reader_asks x) r) (reader_goes x r) t.writer
        (reader_low (length deck) x (subst (λ q. IsReaderAt (length deck) q) at st.at_reader)) (reader_clear x) w;
    of_scheduler = λ s t x p r at n st w. scheduled s t x p r at n (subst (λ q. IsSchedulerAt deck initiators q) at st.at_scheduler.0) w;
    of_initiator = λ s t i x p r lt at n st w. initiated s t i x p r lt at n
        (subst (λ q. IsInitiatorAt deck q) at (st.at_initiator i lt).0) w;
    of_writer = λ s t x p r at n st w. quiet s t (entry_of (writer initiators) p (writer_asks x) r) t.reader (writer_goes (length deck) x r)
        (writer_low (length deck) x (subst (λ q. IsWriterAt (length deck) q) at st.at_writer)) (writer_no_clear x) w;
  } where
    reader_clear : (x : ReaderAt) → NoClear (reader_asks x).1
    reader_clear (Entering j more) = tt

    scheduled : (s : System) (t : Points) (x : SchedulerAt) (p : ℕ) (r : Reply) → t.scheduler ≡ At x
        → IsNext c s (entry_of scheduler p (scheduler_asks (length deck) x) r) → IsSchedulerAt deck initiators (At x)
        → Rows deck initiators s t → Rows deck initiators (next s (entry_of scheduler p (scheduler_asks (length deck) x) r))
        (record t { scheduler = scheduler_goes (length deck) initiators x r })
    scheduled s t x p r at n sound w = grind (arith, common_steps, scheduled_row, scheduled_others, finds_next, wait_sound)

    initiated : (s : System) (t : Points) (i : ℕ) (x : InitiatorAt) (p : ℕ) (r : Reply) → i < initiators → t.initiators i ≡ At x
        → IsNext c s (entry_of (initiator i) p (initiator_asks (length deck) i x) r) → IsInitiatorAt deck (At x)
        → Rows deck initiators s t → Rows deck initiators (next s (entry_of (initiator i) p (initiator_asks (length deck) i x) r))
        (record t { initiators = with_at t.initiators i (initiator_goes deck x r) })
    initiated s t i x p r lt at n sound w = record {
      rows = λ m less. all_but (λ m p. RowAt (length deck) then_s t.scheduler m p) t.initiators i (initiator_goes deck x r) m
          (own_row deck s t.scheduler i x r sound n.reply (subst (λ q. RowAt (length deck) s t.scheduler i q) at (w.rows i lt)))
          (λ other. row_moved (length deck) s then_s t.scheduler m (t.initiators m) (far.idles m (λ z. other (sym z)))
          (far.elements (initiator m) (λ z. other (omega arith))) (w.rows m less));
      others = λ m d. ap (λ y. y.state) (far.elements m (λ z. d i lt z)) ∙ w.others m d;
      finds = finds_kept (length deck) initiators s.ecb then_s.ecb t.scheduler
          (stay_moved s (initiator i) (initiator_asks (length deck) i x).0 (initiator_asks (length deck) i x).1
          (no_clear (length deck) i x)) w.finds;
    } where
      then_s : System
      then_s = moved s (initiator i) (initiator_asks (length deck) i x).0 (initiator_asks (length deck) i x).1

      far : Apart deck s t.scheduler i then_s
      far = apart deck s t.scheduler i x sound

  pub rows_next : (s : System) (t u : Points) (e : Entry) → Stand deck initiators kept t → IsNext c s e → Move deck initiators t e u
      → Rows deck initiators s t → Rows deck initiators (next s e) u
  rows_next s t u e st n m w = of_move c deck initiators Kept_by each_kept s t u e n m st w

pub rows_start : (c : Setup) (deck : List JobData) (initiators : ℕ) → Rows deck initiators (opening c) (start_points deck initiators)
rows_start c deck initiators = grind (arith, common_steps)
