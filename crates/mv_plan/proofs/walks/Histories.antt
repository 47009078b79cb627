-- Each history that follows is a walk from the start, with sound points; where it is a run, all tasks have finished. The
-- results begin here.
use Rattle.mv_plan.proofs.Words.{◌≡◌, ℕ, ◌+◌, ◌-◌, ◌<◌, ◌≤◌, ◌==◌, Bool, false, if◌then◌else◌, List, [], length, Some, refl, sym, ap, ◌∙◌}
use Rattle.mv_plan.proofs.Words.{arith, ne_eqb, Entry, Object, Op, opening, JobData, Kept, nothing_kept, Program, Done, Setup, Wrong, asks}
use Rattle.mv_plan.proofs.Words.{left_in, Follows, IsRun, spool_setup, reader, scheduler, initiator, writer, task_program, common_steps}
use Rattle.mv_calls.proofs.Interleaved.{follow_from, left_in_is}
use Rattle.mv_plan.specs.SpoolTasks.{reading, scheduling, writing, initiating}
use Rattle.mv_plan.proofs.deck.{IsPlanned, facts}
use Rattle.mv_plan.proofs.points.{Point, Finished, TooSoon, Astray, Dispatching, reader_asks, scheduler_asks, writer_asks, initiator_asks}
use Rattle.mv_plan.proofs.points.{program_at, reader_enters, reader_says, writer_enters, writer_says, initiator_says, opening_enters}
use Rattle.mv_plan.proofs.points.{scheduler_says, stage_enters, later_all}
use Rattle.mv_plan.proofs.walks.Stands.{fits_opening, Stand, stand_start}
use Rattle.mv_plan.proofs.walks.Following.{TasksAt, walk_from}
use Rattle.mv_plan.proofs.walks.Walks.{Points, start_points, WalkTo, AllTasks}

fourth : {A : Type 0} (a b d : Bool) (w x y z : A) → a ≡ false → b ≡ false → d ≡ false
    → (if a then w else if b then x else if d then y else z) ≡ z
fourth a b d w x y z p q r = rw (p, q, r) refl

module _ (deck : List JobData) (initiators : ℕ) (some : 1 ≤ initiators) (sound : IsPlanned deck initiators) where
  abbrev c : Setup
  c = spool_setup deck initiators

  pub tasks_start : TasksAt c deck initiators nothing_kept (start_points deck initiators) (task_program deck initiators)
  tasks_start = record {
    at_reader = reader_enters c 0 (length deck) (nothing_kept reader) blocks;
    at_scheduler = stage_enters c deck initiators (facts deck initiators some) sound.jobs
        (Dispatching 0 deck) (nothing_kept scheduler) (later_all deck) (record { caller = refl; within = λ e held. absurd (cc held) });
    at_initiator = λ i lt. task_of i lt ∙ opening_enters c deck initiators i (facts deck initiators some) sound.jobs;
    at_writer = writer_task ∙ writer_enters c (length deck) initiators 0 (length deck) []
        (nothing_kept (writer initiators)) (facts deck initiators some) (stand_start deck initiators).writer_kept (omega arith);
  } where
    blocks : 1 ≤ length c.owners
    blocks = grind (arith, common_steps)

    task_of : (i : ℕ) → i < initiators → task_program deck initiators (initiator i) ≡ initiating c deck i (nothing_kept (initiator i))
    task_of i lt = ap (λ call. call (nothing_kept (initiator i)))
        (fourth (initiator i == reader) (initiator i == scheduler) (initiator i == writer initiators)
        (reading c (length deck)) (scheduling c initiators deck)
        (writing c (length deck)) (initiating c deck (initiator i - 2))
        (ne_eqb (initiator i) reader (λ q. absurd (omega arith))) (ne_eqb (initiator i) scheduler (λ q. absurd (omega arith)))
        (ne_eqb (initiator i) (writer initiators) (λ q. absurd (omega arith))))
        ∙ ap (λ m. initiating c deck m (nothing_kept (initiator i))) (two_less i) where
          two_less : (i : ℕ) → i + 2 - 2 ≡ i
          two_less i = omega arith

    writer_task : task_program deck initiators (writer initiators) ≡ writing c (length deck) (nothing_kept (writer initiators))
    writer_task = grind (arith, common_steps)

  -- the points at which the tasks stand behind a history
  pub record Stood (es : List Entry) : Type 0 where
    pub points : Points
    pub walk : WalkTo c deck initiators (opening c) (start_points deck initiators) es points
    pub kept : ℕ → Kept
    pub stand : Stand deck initiators kept points
    pub tasks : TasksAt c deck initiators kept points (λ k. left_in c (task_program deck initiators) k es)

  pub stood : (es : List Entry) → Follows deck initiators es → Stood es
  stood es f =
      let w = walk_from c deck initiators (facts deck initiators some) sound.jobs (opening c) nothing_kept (start_points deck initiators)
      (task_program deck initiators) es f.callers (fits_opening c) (stand_start deck initiators) tasks_start
      (follow_from c (task_program deck initiators) es f) in
      record {
        points = w.points;
        walk = w.walk;
        kept = w.kept;
        stand = w.stand;
        tasks = record {
          at_reader = left_in_is c (task_program deck initiators) es reader ∙ w.tasks.at_reader;
          at_scheduler = left_in_is c (task_program deck initiators) es scheduler ∙ w.tasks.at_scheduler;
          at_initiator = λ i lt. left_in_is c (task_program deck initiators) es (initiator i) ∙ w.tasks.at_initiator i lt;
          at_writer = left_in_is c (task_program deck initiators) es (writer initiators) ∙ w.tasks.at_writer;
        };
      }

-- ---- what is left of a task says where it stands

pub done_point : {X : Type 0} (f : X → Program (List ℕ)) (ask : X → Object × Op) (says : (x : X) → asks (f x) ≡ Some (ask x))
    (p : Point X) (a : List ℕ) → program_at f p ≡ Done a → p ≡ Finished a
done_point f ask says x a e = grind (arith, common_steps)

-- a task that is not astray is not at a reply that nothing foresees
pub wrong_point : {X : Type 0} (f : X → Program (List ℕ)) (ask : X → Object × Op) (says : (x : X) → asks (f x) ≡ Some (ask x))
    (p : Point X) → program_at f p ≡ Wrong → p ≡ Astray
wrong_point f ask says x e = grind (arith, common_steps)

-- all tasks stand at their ends
abbrev pub AreFinished : ℕ → Points → Type 0
AreFinished initiators t = AllTasks initiators (λ X p. (a : List ℕ) × (p ≡ Finished a)) t

-- no task's wait ended too soon
abbrev pub AreInTime : ℕ → Points → Type 0
AreInTime initiators t = AllTasks initiators (λ X p. p ≡ TooSoon → ⊥) t

module _ (deck : List JobData) (initiators : ℕ) (some : 1 ≤ initiators) (sound : IsPlanned deck initiators) (es : List Entry) where
  abbrev setup : Setup
  setup = spool_setup deck initiators

  task_done : {X : Type 0} (k : ℕ) (f : X → Program (List ℕ)) (ask : X → Object × Op) → ((x : X) → asks (f x) ≡ Some (ask x))
      → (p : Point X) → left_in setup (task_program deck initiators) k es ≡ program_at f p
      → (a : List ℕ) × (left_in setup (task_program deck initiators) k es ≡ Done a) → (a : List ℕ) × (p ≡ Finished a)
  task_done k f ask says p is d = (d.0, done_point f ask says p d.0 (sym is ∙ d.1))

  pub run_finished : (run : IsRun deck initiators es) → (st : Stood deck initiators some sound es) → AreFinished initiators st.points
  run_finished run st = record {
    at_reader = task_done reader _ reader_asks (reader_says setup (st.kept reader)) st.points.reader st.tasks.at_reader
        (run.done reader (omega arith));
    at_scheduler = task_done scheduler _ (scheduler_asks (length deck))
        (scheduler_says setup (length deck) initiators (st.kept scheduler)) st.points.scheduler st.tasks.at_scheduler
        (run.done scheduler (omega arith));
    at_initiator = λ i lt. task_done (initiator i) _ (initiator_asks (length deck) i)
        (initiator_says setup deck i (st.kept (initiator i))) (st.points.initiators i) (st.tasks.at_initiator i lt)
        (run.done (initiator i) (omega arith));
    at_writer = task_done (writer initiators) _ writer_asks (writer_says setup (length deck) (st.kept (writer initiators)))
        st.points.writer st.tasks.at_writer (run.done (writer initiators) (omega arith));
  }

  pub in_time : (f : Follows deck initiators es) → (st : Stood deck initiators some sound es) → AreInTime initiators st.points
  in_time f st = grind (arith, common_steps)
