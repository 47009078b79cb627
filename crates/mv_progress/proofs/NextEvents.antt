-- An event that is possible at the points where a history has led the tasks: with its entry the history still follows the plan. And a
-- history whose tasks have all ended is a run.
use Rattle.mv_plan.proofs.Words.{◌≡◌, ℕ, ◌+◌, ◌<◌, ◌≤◌, List, [], ◌∷◌, ◌++◌, length, Some, refl, sym, ap, ◌∙◌, subst, arith, common_steps}
use Rattle.mv_plan.proofs.Words.{Entry, IsNext, Setup, System, after, opening, Object, Op, Reply, JobData, Program, Done, Early, asks}
use Rattle.mv_plan.proofs.Words.{left_in, reader, scheduler, initiator, writer, task_program, spool_setup, Follows, IsRun, programs_after}
use Rattle.mv_plan.proofs.Words.{reply_to, admitted, false≢true, Ecb, Element, Volume, Latches, ecb_step, element_step, latch_step, true}
use Rattle.mv_plan.proofs.Words.{nothing_kept}
use Rattle.mv_machine.specs.System.{place_of, volume_step}
use Rattle.mv_calls.proofs.Interleaved.{follow_from, left_in_is}
use Rattle.mv_plan.proofs.deck.Planned.{IsPlanned}
use Rattle.mv_plan.proofs.deck.Setup.{facts}
use Rattle.mv_plan.proofs.points.Points.{Point, At, Finished, TooSoon, reader_asks, reader_goes, scheduler_asks, scheduler_goes}
use Rattle.mv_plan.proofs.points.Points.{writer_asks, writer_goes, initiator_asks, initiator_goes, ReaderAt, SchedulerAt, InitiatorAt}
use Rattle.mv_plan.proofs.points.Points.{WriterAt, IsNotLost}
use Rattle.mv_plan.proofs.points.Programs.{program_at, reader_says, writer_says, reader_program, scheduler_program, writer_program}
use Rattle.mv_plan.proofs.points.Programs.{initiator_program}
use Rattle.mv_plan.proofs.points.Initiator.{initiator_says}
use Rattle.mv_plan.proofs.points.Scheduler.{scheduler_says}
use Rattle.mv_plan.proofs.walks.Walks.{Points, Move, reads, schedules, initiates, writes, all_tasks, entry_of, start_points}
use Rattle.mv_plan.proofs.walks.Histories.{Stood, stood, AreInTime, AreFinished, tasks_start}
use Rattle.mv_plan.proofs.walks.Following.{Who, who, is_reader, is_scheduler, is_initiator, is_writer, moves, Moved, TasksAt}
use Rattle.mv_plan.proofs.walks.Along.{NoneLost, move_same}
use Rattle.mv_plan.proofs.walks.Stands.{Fits}
use Rattle.mv_plan.proofs.lists.{all_but}
use Rattle.mv_plan.proofs.results.NoneWrong.{none_lost_at_start}
use Rattle.mv_progress.specs.Progress.{IsNoEarlySettle, HasNoEarlySettle}
use Rattle.mv_progress.proofs.Longer.{left_after, programs_push, follow_push, follows_by}

-- the task's wait did not end too soon
abbrev pub IsInTime : {X : Type 0} → Point X → Type 0
IsInTime TooSoon = ⊥
IsInTime p = Unit {0}

pub in_time_of : {X : Type 0} (p : Point X) → IsInTime p → p ≡ TooSoon → ⊥
in_time_of p w e = subst (λ q. IsInTime q) e w

lost_in_time : {X : Type 0} (p : Point X) → IsNotLost p → p ≡ TooSoon → ⊥
lost_in_time p w e = subst (λ q. IsNotLost q) e w

-- the history follows the plan and has no early settle
pub record IsTimely (deck : List JobData) (initiators : ℕ) (es : List Entry) : Type 0 where
  pub follows : Follows deck initiators es
  pub settles : HasNoEarlySettle deck es

-- the history with some further entry is timely too
abbrev pub HasTimelyNext : List JobData → ℕ → List Entry → Type 0
HasTimelyNext deck initiators es = (e : Entry) × IsTimely deck initiators (es ++ e ∷ [])

-- An event that is possible now: its entry is the machine's next, its caller moves by it, no wait ends too soon, and it is no early
-- settle
pub record PossibleEvent (c : Setup) (deck : List JobData) (initiators : ℕ) (s : System) (t : Points) : Type 0 where
  pub entry : Entry
  pub points : Points
  pub next : IsNext c s entry
  pub move : Move deck initiators t entry points
  pub in_time : AreInTime initiators points
  pub settles : IsNoEarlySettle deck entry

-- ---- from a point

-- the machine replies to what it admits
pub replies : (c : Setup) (s : System) (k : ℕ) (o : Object) (op : Op) → admitted c s k o op ≡ true
    → (r : Reply) × (Some r ≡ reply_to s k o op)
replies c s k (Ecb n) (Op.Ecb op) a = (Reply.Ecb (ecb_step op (s.ecb n).state).1, refl)
replies c s k (Element n) (Op.Element op) a = (Reply.Element (element_step op (s.element n).state).1, refl)
replies c s k (Volume n) (Op.Volume op) a = (Reply.Volume (volume_step op (s.volume n).state).1, refl)
replies c s k Latches (Op.Latch op) a = (Reply.Latch (latch_step k s.latches.place op s.latches.state).1, refl)
replies c s k o op a = absurd (false≢true a)

-- A task's event at this point is enabled: the machine admits it, and whatever the machine replies, no wait ends too soon and the event is
-- no early settle.
pub record IsEnabled {X : Type 0} (c : Setup) (deck : List JobData) (s : System) (k : ℕ) (ask : Object × Op) (goes : Reply → Point X)
    : Type 0 where
  pub admits : admitted c s k ask.0 ask.1 ≡ true
  pub in_time : (r : Reply) → Some r ≡ reply_to s k ask.0 ask.1 → IsInTime (goes r)
  pub settles : (r : Reply) → Some r ≡ reply_to s k ask.0 ask.1 → IsNoEarlySettle deck (entry_of k (place_of s ask.0) ask r)

module _ (c : Setup) (deck : List JobData) (initiators : ℕ) (s : System) (t : Points) (found : NoneLost initiators t) where
  abbrev n : ℕ
  n = length deck

  -- no wait of the other tasks ended too soon
  others : AreInTime initiators t
  others = all_tasks initiators _ t (lost_in_time t.reader found.at_reader) (lost_in_time t.scheduler found.at_scheduler)
      (λ i lt. lost_in_time (t.initiators i) (found.at_initiator i lt)) (lost_in_time t.writer found.at_writer)

  module _ {X : Type 0} (k : ℕ) (ask : Object × Op) (goes : Reply → Point X) (w : IsEnabled c deck s k ask goes) where
    abbrev said : (r : Reply) × (Some r ≡ reply_to s k ask.0 ask.1)
    said = replies c s k ask.0 ask.1 w.admits

    abbrev made : Entry
    made = entry_of k (place_of s ask.0) ask said.0

    made_next : IsNext c s made
    made_next = record { admits = w.admits; place = refl; reply = said.1 }

    later : goes said.0 ≡ TooSoon → ⊥
    later = in_time_of (goes said.0) (w.in_time said.0 said.1)

    event : (u : Points) → Move deck initiators t made u → AreInTime initiators u → PossibleEvent c deck initiators s t
    event u m f = record { entry = made; points = u; next = made_next; move = m; in_time = f; settles = w.settles said.0 said.1 }

  pub reader_event : (x : ReaderAt) → t.reader ≡ At x → IsEnabled c deck s reader (reader_asks x) (reader_goes x)
      → PossibleEvent c deck initiators s t
  reader_event x at w = event reader (reader_asks x) (reader_goes x) w _ (reads x refl at refl refl refl)
      (all_tasks initiators _ _ (later reader (reader_asks x) (reader_goes x) w) others.at_scheduler others.at_initiator others.at_writer)

  pub scheduler_event : (x : SchedulerAt) → t.scheduler ≡ At x
      → IsEnabled c deck s scheduler (scheduler_asks n x) (scheduler_goes n initiators x) → PossibleEvent c deck initiators s t
  scheduler_event x at w = event scheduler (scheduler_asks n x) (scheduler_goes n initiators x) w _ (schedules x refl at refl refl refl)
      (all_tasks initiators _ _ others.at_reader (later scheduler (scheduler_asks n x) (scheduler_goes n initiators x) w)
      others.at_initiator others.at_writer)

  pub initiator_event : (i : ℕ) (x : InitiatorAt) → i < initiators → t.initiators i ≡ At x
      → IsEnabled c deck s (initiator i) (initiator_asks n i x) (initiator_goes deck x) → PossibleEvent c deck initiators s t
  initiator_event i x lt at w =
      event (initiator i) (initiator_asks n i x) (initiator_goes deck x) w _ (initiates i x lt refl at refl refl refl)
      (all_tasks initiators _ _ others.at_reader others.at_scheduler
      (λ m less. all_but (λ m p. p ≡ TooSoon → ⊥) t.initiators i _ m
      (later (initiator i) (initiator_asks n i x) (initiator_goes deck x) w) (λ other. others.at_initiator m less)) others.at_writer)

  pub writer_event : (x : WriterAt) → t.writer ≡ At x → IsEnabled c deck s (writer initiators) (writer_asks x) (writer_goes n x)
      → PossibleEvent c deck initiators s t
  writer_event x at w = event (writer initiators) (writer_asks x) (writer_goes n x) w _ (writes x refl at refl refl refl)
      (all_tasks initiators _ _ others.at_reader others.at_scheduler others.at_initiator
      (later (writer initiators) (writer_asks x) (writer_goes n x) w))

-- ---- the history with the entry follows

early_point : {X : Type 0} (f : X → Program (List ℕ)) (ask : X → Object × Op) (says : (x : X) → asks (f x) ≡ Some (ask x))
    (p : Point X) → program_at f p ≡ Early → p ≡ TooSoon
early_point f ask says x e = grind (arith, common_steps)

module _ (deck : List JobData) (initiators : ℕ) (some : 1 ≤ initiators) (sound : IsPlanned deck initiators) (es : List Entry)
    (follows : Follows deck initiators es) where
  abbrev c' : Setup
  c' = spool_setup deck initiators

  abbrev programs : ℕ → Program (List ℕ)
  programs = task_program deck initiators

  abbrev st : Stood deck initiators some sound es
  st = stood deck initiators some sound es follows

  abbrev all_after : ℕ → Program (List ℕ)
  all_after = programs_after (opening c') programs es

  tasks : TasksAt c' deck initiators st.kept st.points all_after
  tasks = subst (TasksAt c' deck initiators st.kept st.points) (λ i k. left_in_is c' programs es k i) st.tasks

  -- the program of a task at a point says that point's event
  point_says : {X : Type 0} (f : X → Program (List ℕ)) (ask : X → Object × Op) (says : (x : X) → asks (f x) ≡ Some (ask x))
      (q : Program (List ℕ)) (p : Point X) (x : X) (o : Object) (op : Op) → q ≡ program_at f p → p ≡ At x → o ≡ (ask x).0 → op ≡ (ask x).1
      → asks q ≡ Some (o, op)
  point_says f ask says q p x o op is at a b =
      ap asks (is ∙ ap (λ z. program_at f z) at) ∙ says x ∙ sym (ap (λ z. Some (z, op)) a ∙ ap (λ z. Some ((ask x).0, z)) b)

  move_says : (e : Entry) (u : Points) → Move deck initiators st.points e u → asks (all_after e.caller) ≡ Some (e.object, e.op)
  move_says e u (reads x k at o op moved) = subst (λ j. asks (all_after j) ≡ Some (e.object, e.op)) (sym k)
      (point_says (reader_program c' (st.kept reader)) reader_asks (reader_says c' (st.kept reader)) (all_after reader) st.points.reader x
      e.object e.op tasks.at_reader at o op)
  move_says e u (schedules x k at o op moved) = subst (λ j. asks (all_after j) ≡ Some (e.object, e.op)) (sym k)
      (point_says (scheduler_program c' (length deck) initiators (st.kept scheduler)) (scheduler_asks (length deck))
      (scheduler_says c' (length deck) initiators (st.kept scheduler)) (all_after scheduler) st.points.scheduler x
      e.object e.op tasks.at_scheduler at o op)
  move_says e u (initiates i x lt k at o op moved) = subst (λ j. asks (all_after j) ≡ Some (e.object, e.op)) (sym k)
      (point_says (initiator_program c' deck i (st.kept (initiator i))) (initiator_asks (length deck) i)
      (initiator_says c' deck i (st.kept (initiator i))) (all_after (initiator i)) (st.points.initiators i) x
      e.object e.op (tasks.at_initiator i lt) at o op)
  move_says e u (writes x k at o op moved) = subst (λ j. asks (all_after j) ≡ Some (e.object, e.op)) (sym k)
      (point_says (writer_program c' (length deck) (st.kept (writer initiators))) writer_asks (writer_says c' (length deck)
      (st.kept (writer initiators))) (all_after (writer initiators)) st.points.writer x e.object e.op tasks.at_writer at o op)

  -- the caller of a move is one of the configuration's
  move_caller : (e : Entry) (t u : Points) → Move deck initiators t e u → e.caller < initiators + 3
  move_caller e t u m = grind (arith, common_steps)

  module _ (fits : Fits c' (after c' es)) (o : PossibleEvent c' deck initiators (after c' es) st.points) where
    abbrev e : Entry
    e = o.entry

    then_at : Moved c' deck initiators (facts deck initiators some) sound.jobs (after c' es) st.kept st.points all_after e
    then_at = moves c' deck initiators (facts deck initiators some) sound.jobs (after c' es) st.kept st.points all_after e
        (move_caller e st.points o.points o.move) fits o.next st.stand tasks (move_says e o.points o.move)

    same : o.points ≡ then_at.points
    same = move_same deck initiators st.points o.points then_at.points e o.move then_at.move

    in_time : AreInTime initiators then_at.points
    in_time = subst (AreInTime initiators) same o.in_time

    left_then : (k : ℕ) → left_in c' programs k (es ++ e ∷ []) ≡ left_after (after c' es) all_after e k
    left_then k = left_in_is c' programs (es ++ e ∷ []) k ∙ ap (λ f. f k) (programs_push (opening c') programs es e)

    task_in_time : {X : Type 0} (k : ℕ) (f : X → Program (List ℕ)) (ask : X → Object × Op) → ((x : X) → asks (f x) ≡ Some (ask x))
        → (p : Point X) → left_after (after c' es) all_after e k ≡ program_at f p → (p ≡ TooSoon → ⊥)
        → left_in c' programs k (es ++ e ∷ []) ≡ Early → ⊥
    task_in_time k f ask says p is early q = early (early_point f ask says p (sym is ∙ sym (left_then k) ∙ q))

    waits : (k : ℕ) → k < initiators + 3 → left_in c' programs k (es ++ e ∷ []) ≡ Early → ⊥
    waits k lt q = by (who initiators k lt) where
      by : Who initiators k → ⊥
      by (is_reader r) = task_in_time reader _ reader_asks (reader_says c' _) then_at.points.reader then_at.tasks.at_reader
          in_time.at_reader (subst (λ j. left_in c' programs j (es ++ e ∷ []) ≡ Early) r q)
      by (is_scheduler r) = task_in_time scheduler _ (scheduler_asks (length deck)) (scheduler_says c' (length deck) initiators _)
          then_at.points.scheduler then_at.tasks.at_scheduler in_time.at_scheduler
          (subst (λ j. left_in c' programs j (es ++ e ∷ []) ≡ Early) r q)
      by (is_initiator i less r) = task_in_time (initiator i) _ (initiator_asks (length deck) i) (initiator_says c' deck i _)
          (then_at.points.initiators i) (then_at.tasks.at_initiator i less) (in_time.at_initiator i less)
          (subst (λ j. left_in c' programs j (es ++ e ∷ []) ≡ Early) r q)
      by (is_writer r) = task_in_time (writer initiators) _ writer_asks (writer_says c' (length deck) _)
          then_at.points.writer then_at.tasks.at_writer in_time.at_writer
          (subst (λ j. left_in c' programs j (es ++ e ∷ []) ≡ Early) r q)

    pub event_follows : Follows deck initiators (es ++ e ∷ [])
    event_follows = follows_by c' programs (es ++ e ∷ [])
        (follow_push c' (opening c') programs es e (follow_from c' programs es follows) o.next (move_says e o.points o.move)) waits

  -- ---- a history whose tasks have all ended is a run

  abbrev Ends : ℕ → Type 0
  Ends k = (a : List ℕ) × (left_in c' programs k es ≡ Done a)

  ended_done : {X : Type 0} (f : X → Program (List ℕ)) (q : Program (List ℕ)) (p : Point X) → q ≡ program_at f p
      → (a : List ℕ) × (p ≡ Finished a) → (a : List ℕ) × (q ≡ Done a)
  ended_done f q p is w = (w.0, is ∙ ap (λ z. program_at f z) w.1)

  pub finished_run : AreFinished initiators st.points → IsRun deck initiators es
  finished_run w = record { follow = follows; done = λ k lt. by k (who initiators k lt) } where
    by : (k : ℕ) → Who initiators k → Ends k
    by k (is_reader r) = subst Ends (sym r) (ended_done (reader_program c' (st.kept reader)) _ st.points.reader st.tasks.at_reader
        w.at_reader)
    by k (is_scheduler r) = subst Ends (sym r)
        (ended_done (scheduler_program c' (length deck) initiators (st.kept scheduler)) _ st.points.scheduler st.tasks.at_scheduler
        w.at_scheduler)
    by k (is_initiator i less r) = subst Ends (sym r)
        (ended_done (initiator_program c' deck i (st.kept (initiator i))) _ (st.points.initiators i) (st.tasks.at_initiator i less)
        (w.at_initiator i less))
    by k (is_writer r) = subst Ends (sym r)
        (ended_done (writer_program c' (length deck) (st.kept (writer initiators))) _ st.points.writer st.tasks.at_writer w.at_writer)

-- ---- the empty history

point_in_time : {X : Type 0} (f : X → Program (List ℕ)) (ask : X → Object × Op) → ((x : X) → asks (f x) ≡ Some (ask x))
    → (q : Program (List ℕ)) (p : Point X) → q ≡ program_at f p → IsNotLost p → q ≡ Early → ⊥
point_in_time f ask says q p is found early = lost_in_time p found (early_point f ask says p (sym is ∙ early))

pub none_follow : (deck : List JobData) (initiators : ℕ) → 1 ≤ initiators → IsPlanned deck initiators → Follows deck initiators []
none_follow deck initiators some sound = follows_by (spool_setup deck initiators) (task_program deck initiators) [] tt
    (λ k lt early. by k early (who initiators k lt)) where
      found : NoneLost initiators (start_points deck initiators)
      found = none_lost_at_start deck initiators

      tasks : TasksAt (spool_setup deck initiators) deck initiators nothing_kept (start_points deck initiators)
          (task_program deck initiators)
      tasks = tasks_start deck initiators some sound

      by : (k : ℕ) → task_program deck initiators k ≡ Early → Who initiators k → ⊥
      by k early (is_reader r) = point_in_time _ reader_asks (reader_says (spool_setup deck initiators) (nothing_kept reader))
          (task_program deck initiators reader) (start_points deck initiators).reader tasks.at_reader found.at_reader
          (subst (λ j. task_program deck initiators j ≡ Early) r early)
      by k early (is_scheduler r) = point_in_time _ (scheduler_asks (length deck))
          (scheduler_says (spool_setup deck initiators) (length deck) initiators (nothing_kept scheduler))
          (task_program deck initiators scheduler) (start_points deck initiators).scheduler tasks.at_scheduler found.at_scheduler
          (subst (λ j. task_program deck initiators j ≡ Early) r early)
      by k early (is_initiator i less r) = point_in_time _ (initiator_asks (length deck) i)
          (initiator_says (spool_setup deck initiators) deck i (nothing_kept (initiator i)))
          (task_program deck initiators (initiator i)) ((start_points deck initiators).initiators i) (tasks.at_initiator i less)
          (found.at_initiator i less) (subst (λ j. task_program deck initiators j ≡ Early) r early)
      by k early (is_writer r) = point_in_time _ writer_asks
          (writer_says (spool_setup deck initiators) (length deck) (nothing_kept (writer initiators)))
          (task_program deck initiators (writer initiators)) (start_points deck initiators).writer tasks.at_writer found.at_writer
          (subst (λ j. task_program deck initiators j ≡ Early) r early)
