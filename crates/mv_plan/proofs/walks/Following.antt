-- A history that follows is a walk: the tasks' programs are what is left of them at the points. The bridge from the definition
-- of a history, caller by caller, to walks.
use Rattle.mv_plan.proofs.Words.{◌≡◌, ℕ, zero, suc, ◌+◌, ◌*◌, ◌<◌, ◌≤◌, true, List, [], ◌∷◌, length, Some, inl, inr, refl, ap, ◌∙◌, subst}
use Rattle.mv_plan.proofs.Words.{arith, AllByRecursion, cases_eq, ecb_step, Wake, Entry, Object, Ecb, Op, Reply, IsNext, next, Setup, Kept}
use Rattle.mv_plan.proofs.Words.{is_exit_of, System, reply_to, with_at, JobData, Program, asks, heard, entered, idle, reader, scheduler}
use Rattle.mv_plan.proofs.Words.{initiator, writer, programs_after, done, EcbOp, EcbReply, common_steps}
use Rattle.mv_calls.proofs.Interleaved.{FollowFrom}
use Rattle.mv_calls.proofs.Hearing.{hearing}
use Rattle.mv_plan.proofs.deck.{ArePlannedJobs, Facts}
use Rattle.mv_plan.proofs.points.{Point, At, ReaderAt, Entering, reader_asks, reader_goes, SchedulerAt, scheduler_asks, scheduler_goes}
use Rattle.mv_plan.proofs.points.{WriterAt, writer_asks, writer_goes, InitiatorAt, Offering, Freeing, Purging, Ending, OfJob, end_block}
use Rattle.mv_plan.proofs.points.{initiator_asks, initiator_goes, InJob, program_at, reader_program, scheduler_program, writer_program}
use Rattle.mv_plan.proofs.points.{initiator_program, IsPlainPost, keeps, IsReaderAt, IsWriterAt, reader_says, reader_hears, writer_says}
use Rattle.mv_plan.proofs.points.{writer_hears, IsPlainReply, WokeAs, PostNothing, initiator_says, initiator_hears, InitiatorStands}
use Rattle.mv_plan.proofs.points.{scheduler_says, scheduler_hears, SchedulerStands}
use Rattle.mv_plan.proofs.walks.Stands.{Fits, fits_next, fits_wakes, fits_woke, Stand, stand_next, kept_next}
use Rattle.mv_plan.proofs.walks.Walks.{Points, Move, reads, schedules, initiates, writes, WalkTo}
use Rattle.mv_plan.proofs.lists.{all_but}

-- what is left of each task's program is the program of its point
pub record TasksAt (c : Setup) (deck : List JobData) (initiators : ℕ) (kept : ℕ → Kept) (t : Points)
    (programs : ℕ → Program (List ℕ)) : Type 0 where
  pub at_reader : programs reader ≡ program_at (reader_program c (kept reader)) t.reader
  pub at_scheduler : programs scheduler ≡ program_at (scheduler_program c (length deck) initiators (kept scheduler)) t.scheduler
  pub at_initiator : (i : ℕ) → i < initiators
      → programs (initiator i) ≡ program_at (initiator_program c deck i (kept (initiator i))) (t.initiators i)
  pub at_writer : programs (writer initiators) ≡ program_at (writer_program c (length deck) (kept (writer initiators))) t.writer

-- a program that says an event is at a point, which says it
pub at_point : {X : Type 0} (f : X → Program (List ℕ)) (ask : X → Object × Op) (says : (x : X) → asks (f x) ≡ Some (ask x))
    (q : Program (List ℕ)) (p : Point X) (o : Object) (op : Op)
    → q ≡ program_at f p → asks q ≡ Some (o, op) → (x : X) × (p ≡ At x) × (o ≡ (ask x).0) × (op ≡ (ask x).1)
at_point f ask says q p o op e a = grind (arith, common_steps)

-- the machine's reply
pub reply_is : (c : Setup) (s : System) (e : Entry) (ask : Object × Op) → IsNext c s e → e.object ≡ ask.0 → e.op ≡ ask.1
    → Some e.reply ≡ reply_to s e.caller ask.0 ask.1
reply_is c s e ask n o op = n.reply ∙ ap (λ x. reply_to s e.caller x e.op) o ∙ ap (λ x. reply_to s e.caller ask.0 x) op

-- a post of a block that starts no exit is plain
plain_post : (c : Setup) (s : System) (k m code : ℕ) (r : Reply) → Fits c s → ((x : ℕ) → is_exit_of c x m ≡ true → ⊥)
    → Some r ≡ reply_to s k (Ecb m) (Op.Ecb (EcbOp.Post code)) → IsPlainPost r
plain_post c s k m code (Reply.Ecb (EcbReply.Woke (suc x))) f none e =
    absurd (none (suc x) (fits_woke c s m code x f
    (let q : ◌≡◌ {A = Reply} (Reply.Ecb (EcbReply.Woke (suc x)))
    (Reply.Ecb (ecb_step (EcbOp.Post code) (s.ecb m).state).1) = cc e in cc q)))
plain_post c s k m code r f none e = tt

-- one of a done block has the exit of its number
woke_as : (c : Setup) (s : System) (k m j code : ℕ) (r : Reply) → Fits c s → ((x : ℕ) → is_exit_of c x m ≡ true → x ≡ j + 1)
    → Some r ≡ reply_to s k (Ecb m) (Op.Ecb (EcbOp.Post code)) → WokeAs j r
woke_as c s k m j code (Reply.Ecb (EcbReply.Woke (suc x))) f only e =
    only (suc x) (fits_woke c s m code x f
    (let q : ◌≡◌ {A = Reply} (Reply.Ecb (EcbReply.Woke (suc x)))
    (Reply.Ecb (ecb_step (EcbOp.Post code) (s.ecb m).state).1) = cc e in cc q))
woke_as c s k m j code r f only e = tt

-- who made an entry
pub data Who (initiators k : ℕ) : Type 0 where
  is_reader : k ≡ reader → Who initiators k
  is_scheduler : k ≡ scheduler → Who initiators k
  is_initiator : (i : ℕ) → i < initiators → k ≡ initiator i → Who initiators k
  is_writer : k ≡ writer initiators → Who initiators k

pub who : (initiators k : ℕ) → k < initiators + 3 → Who initiators k
who initiators zero lt = is_reader refl
who initiators (suc zero) lt = is_scheduler refl
who initiators (suc (suc i)) lt = elim (cases_eq i initiators) [
  | inl e ↦ is_writer (omega arith)
  | inr n ↦ is_initiator i (omega arith) (omega arith)
]

module _ (c : Setup) (deck : List JobData) (initiators : ℕ) (facts : Facts c (length deck) initiators) (sound : ArePlannedJobs 0 deck) where
  no_exit : (m : ℕ) → ((j : ℕ) → j < length deck → m ≡ done (length deck) j → ⊥) → (x : ℕ) → is_exit_of c x m ≡ true → ⊥
  no_exit m n x e = let r : (j : ℕ) × (j < length deck) × (x ≡ j + 1) × (m ≡ done (length deck) j) = facts.sources x m e in
      n r.0 r.1 r.3

  -- at each of an initiator's points the machine's reply is foreseen
  foreseen : (s : System) (i : ℕ) (kept : Kept) (k : ℕ) (x : InitiatorAt) (r : Reply) (ws : List Wake) → Fits c s
      → InitiatorStands deck i kept (At x) → PostNothing ws
      → Some r ≡ reply_to s k (initiator_asks (length deck) i x).0 (initiator_asks (length deck) i x).1 → IsPlainReply x r ws
  foreseen s i kept k (Offering more before g) r ws f st w e =
      plain_post c s k (idle (length deck) i) g r f (no_exit (idle (length deck) i) (λ j lt q. absurd (omega arith))) e
  foreseen s i kept k (InJob run (Ending OfJob code counts)) r ws f st w e = woke_as c s k (done (length deck) run.job) run.job code r f
      (λ x q. let r : (j : ℕ) × (j < length deck) × (x ≡ j + 1) × (done (length deck) run.job ≡ done (length deck) j) = facts.sources x
      (done (length deck) run.job) q in only x r.0 r.2 r.3) e where
        only : (x j : ℕ) → x ≡ j + 1 → done (length deck) run.job ≡ done (length deck) j → x ≡ run.job + 1
        only x j a b = omega arith
  foreseen s i kept k (InJob run (Ending post code counts)) r ws f st w e =
      plain_post c s k (end_block (length deck) run.job post) code r f
      (no_exit (end_block (length deck) run.job post) (λ j lt q. absurd (omega arith))) e
  foreseen s i kept k (InJob run (Freeing hand latch id steps)) r ws f st w e = w
  foreseen s i kept k (InJob run (Purging hand code)) r ws f st w e = w
  foreseen s i kept k x r ws f st w e = tt

  -- ---- the tables after an entry
  module _ (s : System) (kept : ℕ → Kept) (t : Points) (programs : ℕ → Program (List ℕ)) (e : Entry) where
    other_is : {X : Type 0} (f : Kept → X → Program (List ℕ)) (k j : ℕ) (p : Point X) → e.caller ≡ k → (k ≡ j → ⊥)
        → programs j ≡ program_at (f (kept j)) p
        → with_at programs e.caller (heard (programs e.caller) (hearing s e)) j ≡ program_at (f (kept_next kept e j)) p
    other_is f k j p same n q = grind (arith, common_steps)

    own_is : {X : Type 0} (f : Kept → X → Program (List ℕ)) (ask : Object × Op) (k : ℕ) (x : X) (p : Point X) → e.caller ≡ k
        → e.object ≡ ask.0 → e.op ≡ ask.1 → programs k ≡ f (kept k) x
        → heard (f (kept k) x) (hearing s e) ≡ program_at (f (keeps (kept k) ask e.reply)) p
        → with_at programs e.caller (heard (programs e.caller) (hearing s e)) k ≡ program_at (f (kept_next kept e k)) p
    own_is f ask k x p same o op q h = grind (arith, common_steps)

    pub record Moved : Type 0 where
      pub points : Points
      pub move : Move deck initiators t e points
      pub tasks : TasksAt c deck initiators (kept_next kept e) points (with_at programs e.caller (heard (programs e.caller) (hearing s e)))

    -- an entry that is the machine's next and what its caller's program says is a move
    pub moves : e.caller < initiators + 3 → Fits c s → IsNext c s e → Stand deck initiators kept t
        → TasksAt c deck initiators kept t programs → asks (programs e.caller) ≡ Some (e.object, e.op) → Moved
    moves below f n st tasks says = by (who initiators e.caller below) where
      by_reader : e.caller ≡ reader → (x : ReaderAt) × (t.reader ≡ At x) × (e.object ≡ (reader_asks x).0) × (e.op ≡ (reader_asks x).1)
          → Moved
      by_reader k a = record {
        points = record t { reader = reader_goes a.0 e.reply };
        move = reads a.0 k a.1 a.2 a.3 refl;
        tasks = record {
          at_reader = own_is (reader_program c) (reader_asks a.0) reader a.0 (reader_goes a.0 e.reply) k a.2 a.3
              (tasks.at_reader ∙ ap (λ p. program_at (reader_program c (kept reader)) p) a.1)
              (reader_hears c (kept reader) a.0 (hearing s e) (some_blocks facts.size facts.some)
              (plain a.0 (subst (λ p. IsReaderAt (length deck) p) a.1 st.at_reader) (reply_is c s e (reader_asks a.0) n a.2 a.3)));
          at_scheduler = other_is (scheduler_program c (length deck) initiators) reader scheduler t.scheduler k
              (λ q. absurd (omega arith)) tasks.at_scheduler;
          at_initiator = λ i lt. other_is (initiator_program c deck i) reader (initiator i) (t.initiators i) k
              (λ q. absurd (omega arith)) (tasks.at_initiator i lt);
          at_writer = other_is (writer_program c (length deck)) reader (writer initiators) t.writer k
              (λ q. absurd (omega arith)) tasks.at_writer;
        };
      } where
        some_blocks : length c.owners ≡ 4 * length deck + initiators → 1 ≤ initiators → 1 ≤ length c.owners
        some_blocks p q = omega arith

        plain : (x : ReaderAt) → IsReaderAt (length deck) (At x) → Some e.reply ≡ reply_to s e.caller (reader_asks x).0 (reader_asks x).1
            → IsPlainPost e.reply
        plain (Entering j more) at r = plain_post c s e.caller (entered j) 0 e.reply f
            (no_exit (entered j) (λ m lt q. absurd (omega arith))) r

      by_scheduler : e.caller ≡ scheduler → (x : SchedulerAt) × (t.scheduler ≡ At x) × (e.object ≡ (scheduler_asks (length deck) x).0)
          × (e.op ≡ (scheduler_asks (length deck) x).1) → Moved
      by_scheduler k a = record {
        points = record t { scheduler = scheduler_goes (length deck) initiators a.0 e.reply };
        move = schedules a.0 k a.1 a.2 a.3 refl;
        tasks = record {
          at_reader = other_is (reader_program c) scheduler reader t.reader k (λ q. absurd (omega arith)) tasks.at_reader;
          at_scheduler = own_is (scheduler_program c (length deck) initiators)
              (scheduler_asks (length deck) a.0) scheduler a.0 (scheduler_goes (length deck) initiators a.0 e.reply) k a.2 a.3
              (tasks.at_scheduler ∙ ap (λ p. program_at (scheduler_program c (length deck) initiators (kept scheduler)) p) a.1)
              (scheduler_hears c deck initiators facts sound (kept scheduler) a.0 (hearing s e)
              (subst (λ p. SchedulerStands deck initiators (kept scheduler) p) a.1 st.at_scheduler));
          at_initiator = λ i lt. other_is (initiator_program c deck i) scheduler (initiator i) (t.initiators i) k
              (λ q. absurd (omega arith)) (tasks.at_initiator i lt);
          at_writer = other_is (writer_program c (length deck)) scheduler (writer initiators) t.writer k
              (λ q. absurd (omega arith)) tasks.at_writer;
        };
      }

      by_initiator : (i : ℕ) → i < initiators → e.caller ≡ initiator i
          → (x : InitiatorAt) × (t.initiators i ≡ At x) × (e.object ≡ (initiator_asks (length deck) i x).0)
          × (e.op ≡ (initiator_asks (length deck) i x).1) → Moved
      by_initiator i lt k a = record {
        points = record t { initiators = with_at t.initiators i (initiator_goes deck a.0 e.reply) };
        move = initiates i a.0 lt k a.1 a.2 a.3 refl;
        tasks = record {
          at_reader = other_is (reader_program c) (initiator i) reader t.reader k (λ q. absurd (omega arith)) tasks.at_reader;
          at_scheduler = other_is (scheduler_program c (length deck) initiators) (initiator i) scheduler t.scheduler k
              (λ q. absurd (omega arith)) tasks.at_scheduler;
          at_initiator = λ m less. all_but (λ m p. with_at programs e.caller (heard (programs e.caller) (hearing s e)) (initiator m)
              ≡ program_at (initiator_program c deck m (kept_next kept e (initiator m))) p) t.initiators i (initiator_goes deck a.0 e.reply)
              m there (λ other. other_is (initiator_program c deck m) (initiator i) (initiator m) (t.initiators m) k
              (λ q. other (omega arith)) (tasks.at_initiator m less));
          at_writer = other_is (writer_program c (length deck)) (initiator i) (writer initiators) t.writer k
              (λ q. absurd (omega arith)) tasks.at_writer;
        };
      } where
        stands : InitiatorStands deck i (kept (initiator i)) (At a.0)
        stands = subst (λ p. InitiatorStands deck i (kept (initiator i)) p) a.1 (st.at_initiator i lt)

        there : with_at programs e.caller (heard (programs e.caller) (hearing s e)) (initiator i) ≡ program_at
            (initiator_program c deck i (kept_next kept e (initiator i))) (initiator_goes deck a.0 e.reply)
        there = own_is (initiator_program c deck i) (initiator_asks (length deck) i a.0) (initiator i) a.0
            (initiator_goes deck a.0 e.reply) k a.2 a.3
            (tasks.at_initiator i lt ∙ ap (λ p. program_at (initiator_program c deck i (kept (initiator i))) p) a.1)
            (initiator_hears c deck initiators i facts sound (kept (initiator i)) a.0 (hearing s e) stands
            (foreseen s i (kept (initiator i)) e.caller a.0 e.reply (hearing s e).wakes f stands (fits_wakes c s e.caller e.object e.op f)
            (reply_is c s e (initiator_asks (length deck) i a.0) n a.2 a.3)))

      by_writer : e.caller ≡ writer initiators → (x : WriterAt) × (t.writer ≡ At x) × (e.object ≡ (writer_asks x).0)
          × (e.op ≡ (writer_asks x).1) → Moved
      by_writer k a = record {
        points = record t { writer = writer_goes (length deck) a.0 e.reply };
        move = writes a.0 k a.1 a.2 a.3 refl;
        tasks = record {
          at_reader = other_is (reader_program c) (writer initiators) reader t.reader k (λ q. absurd (omega arith)) tasks.at_reader;
          at_scheduler = other_is (scheduler_program c (length deck) initiators)
              (writer initiators) scheduler t.scheduler k (λ q. absurd (omega arith)) tasks.at_scheduler;
          at_initiator = λ i lt. other_is (initiator_program c deck i) (writer initiators) (initiator i)
              (t.initiators i) k (λ q. absurd (omega arith)) (tasks.at_initiator i lt);
          at_writer = own_is (writer_program c (length deck)) (writer_asks a.0) (writer initiators) a.0
              (writer_goes (length deck) a.0 e.reply) k a.2 a.3
              (tasks.at_writer ∙ ap (λ p. program_at (writer_program c (length deck) (kept (writer initiators))) p) a.1)
              (writer_hears c (length deck) initiators facts (kept (writer initiators)) a.0 (hearing s e) st.writer_kept
              (subst (λ p. IsWriterAt (length deck) p) a.1 st.at_writer));
        };
      }

      by : Who initiators e.caller → Moved
      by (is_reader k) = by_reader k (at_point (reader_program c (kept reader)) reader_asks (reader_says c (kept reader))
          (programs reader) t.reader e.object e.op tasks.at_reader (subst (λ j. asks (programs j) ≡ Some (e.object, e.op)) k says))
      by (is_scheduler k) = by_scheduler k
          (at_point (scheduler_program c (length deck) initiators (kept scheduler)) (scheduler_asks (length deck))
          (scheduler_says c (length deck) initiators (kept scheduler)) (programs scheduler) t.scheduler e.object e.op tasks.at_scheduler
          (subst (λ j. asks (programs j) ≡ Some (e.object, e.op)) k says))
      by (is_initiator i lt k) = by_initiator i lt k
          (at_point (initiator_program c deck i (kept (initiator i))) (initiator_asks (length deck) i)
          (initiator_says c deck i (kept (initiator i))) (programs (initiator i)) (t.initiators i) e.object e.op (tasks.at_initiator i lt)
          (subst (λ j. asks (programs j) ≡ Some (e.object, e.op)) k says))
      by (is_writer k) = by_writer k (at_point (writer_program c (length deck) (kept (writer initiators))) writer_asks
          (writer_says c (length deck) (kept (writer initiators))) (programs (writer initiators)) t.writer e.object e.op tasks.at_writer
          (subst (λ j. asks (programs j) ≡ Some (e.object, e.op)) k says))

  pub record Walked (s : System) (t : Points) (es : List Entry) (programs : ℕ → Program (List ℕ)) : Type 0 where
    pub points : Points
    pub walk : WalkTo c deck initiators s t es points
    pub kept : ℕ → Kept
    pub stand : Stand deck initiators kept points
    pub tasks : TasksAt c deck initiators kept points programs

  pub walk_from : (s : System) (kept : ℕ → Kept) (t : Points) (programs : ℕ → Program (List ℕ)) (es : List Entry)
      → AllByRecursion (λ e. e.caller < initiators + 3) es → Fits c s → Stand deck initiators kept t
      → TasksAt c deck initiators kept t programs → FollowFrom c s programs es → Walked s t es (programs_after s programs es)
  walk_from s kept t programs [] below f st tasks follow = record { points = t; walk = refl; kept = kept; stand = st; tasks = tasks }
  walk_from s kept t programs (e ∷ es) below f st tasks follow =
      let m : Moved s kept t programs e = moves s kept t programs e below.0 f follow.0 st tasks follow.1 in
      let w : Walked (next s e) m.points es
      (programs_after (next s e) (with_at programs e.caller (heard (programs e.caller) (hearing s e))) es) =
      walk_from (next s e) (kept_next kept e) m.points (with_at programs e.caller (heard (programs e.caller) (hearing s e))) es below.1
      (fits_next c s e facts.posted follow.0 f)
      (stand_next c deck initiators facts sound kept t m.points e m.move st) m.tasks follow.2 in
      record { points = w.points; walk = (m.points, follow.0, m.move, w.walk); kept = w.kept; stand = w.stand; tasks = w.tasks }
