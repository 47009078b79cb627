-- A walk on which no wait ended too soon loses no task, where an invariant shows that the other replies lead nobody astray; and a task
-- that is not lost is not wrong. So no task of the spool goes wrong: what stands of blocks, of elements and rounds, and of latches and
-- volumes, put together.
use Rattle.mv_plan.proofs.Words.{◌≡◌, ℕ, ◌+◌, ◌<◌, ◌≤◌, List, [], ◌∷◌, ◌++◌, length, ◌⊎◌, inl, inr, refl, sym, ◌∙◌, subst, arith, Some}
use Rattle.mv_plan.proofs.Words.{Bool, AllByRecursion, Entry, IsNext, next, after_from, Setup, System, opening, Reply, JobData, Wrong}
use Rattle.mv_plan.proofs.Words.{left_in, spool_setup, reader, scheduler, initiator, writer, not_to_run, task_program, Object, Op, Program}
use Rattle.mv_plan.proofs.Words.{asks, EcbReply, common_steps, after, Follows}
use Rattle.mv_plan.proofs.deck.{ArePlannedJobs, IsPlanned, Facts, few_jobs, facts}
use Rattle.mv_plan.proofs.standing.{Armed, armed_next, armed_start, RowAt}
use Rattle.mv_plan.proofs.points.{IsWriterAt, reader_says, writer_says, IsInitiatorAt, program_at, initiator_says, Point, At, TooSoon}
use Rattle.mv_plan.proofs.points.{Astray, reader_asks, SchedulerAt, Extends, scheduler_asks, scheduler_goes, writer_asks, InitiatorAt}
use Rattle.mv_plan.proofs.points.{initiator_asks, initiator_goes, scheduler_says, IsSchedulerAt, jobs_of, IsNotLost, IsOfRounds, IsForeseen}
use Rattle.mv_plan.proofs.points.{foreseen_of}
use Rattle.mv_plan.proofs.results.Foreseen.{reader_foreseen, writer_foreseen, scheduler_foreseen, extend_foreseen, initiator_foreseen}
use Rattle.mv_plan.proofs.walks.{who, is_reader, is_scheduler, is_initiator, is_writer, Stood, AreInTime, in_time, wrong_point, Points}
use Rattle.mv_plan.proofs.walks.{start_points, Move, WalkTo, walk_keeps, AllTasks, all_tasks, all_before, entry_of, Each, of_move, NoneLost}
use Rattle.mv_plan.proofs.walks.{entry_next, stood, standing}
use Rattle.mv_plan.proofs.places.{Moment, onward, start_moment, element_code, held_new}
use Rattle.mv_plan.proofs.lists.{all_but}
use Rattle.mv_plan.proofs.ends.{IsCode, extend_is_armed}
use Rattle.mv_plan.proofs.results.EndsPosted.{Ends, ends_first, ends_next}
use Rattle.mv_plan.proofs.serving.{Served, served_start, served_next, served_foreseen}

-- a wait that ended too soon stays so
at_in_time : {X : Type 0} (x : X) (p : Point X) → p ≡ At x → p ≡ TooSoon → ⊥
at_in_time x p at z = cc (at, z)

in_time_before : (deck : List JobData) (initiators : ℕ) (t u : Points) (e : Entry) → Move deck initiators t e u → AreInTime initiators u
    → AreInTime initiators t
in_time_before deck initiators t u e m f = all_before (λ X p. p ≡ TooSoon → ⊥) (λ X x p at. at_in_time x p at) deck initiators t u e m f

-- no task is astray
abbrev pub AllForeseen : ℕ → Points → Type 0
AllForeseen initiators t = AllTasks initiators (λ X p. IsForeseen p) t

pub none_lost_of : (initiators : ℕ) (t : Points) → AllForeseen initiators t → AreInTime initiators t → NoneLost initiators t
none_lost_of initiators t w d = grind (arith, common_steps)

of_rounds_or : (x : InitiatorAt) → (IsOfRounds x) ⊎ (IsOfRounds x → ⊥)
of_rounds_or x = grind (arith, common_steps)

-- What the other laws show of an entry: a code in an element is 0 or a job's, the extend of a done block is answered Armed, and no
-- reply to a job's step leads astray.
pub record OthersForeseen (deck : List JobData) (initiators : ℕ) (s : System) (t : Points) (e : Entry) : Type 0 where
  pub codes : (i code : ℕ) → i < initiators → element_code s i ≡ Some code → IsCode deck code
  pub extends : (j : ℕ) (job : JobData) (jobs : List JobData) (skipped : Bool) → e.caller ≡ scheduler
      → t.scheduler ≡ At (Extends j job jobs skipped) → e.reply ≡ Reply.Ecb EcbReply.Armed
  pub steps : (i : ℕ) (x : InitiatorAt) → i < initiators → e.caller ≡ initiator i → t.initiators i ≡ At x → (IsOfRounds x → ⊥)
      → IsForeseen (initiator_goes deck x e.reply)

-- a moment, with which blocks are armed
pub record Safe (c : Setup) (deck : List JobData) (initiators : ℕ) (s : System) (t : Points) (past : List Entry) : Type 0 where
  pub now : Moment c deck initiators s t past
  pub arms : Armed c (length deck) initiators s t

module _ (c : Setup) (deck : List JobData) (initiators : ℕ) (facts : Facts c (length deck) initiators) (sound : ArePlannedJobs 0 deck)
    (small : length deck ≤ not_to_run) where
  abbrev n : ℕ
  n = length deck

  abbrev Seen : List Entry → System → Points → Entry → Points → Type 0
  Seen past s t e u = Safe c deck initiators s t past → OthersForeseen deck initiators s t e → AllForeseen initiators u

  module _ (past : List Entry) where
    scheduled : (s : System) (t : Points) (x : SchedulerAt) (p : ℕ) (r : Reply) → t.scheduler ≡ At x
        → IsNext c s (entry_of scheduler p (scheduler_asks n x) r) → Safe c deck initiators s t past
        → OthersForeseen deck initiators s t (entry_of scheduler p (scheduler_asks n x) r)
        → IsForeseen (scheduler_goes n initiators x r)
    scheduled s t (Extends j job jobs skipped) p r at nx w others =
        subst (λ z. IsForeseen (scheduler_goes n initiators (Extends j job jobs skipped) z))
        (sym (others.extends j job jobs skipped refl at)) (extend_foreseen n initiators j job jobs skipped facts.some)
    scheduled s t x p r at nx w others =
        scheduler_foreseen c deck initiators facts s w.now.fits t w.arms x r at tt w.now.rows.rows w.now.none_lost.at_initiator
        (subst (IsSchedulerAt deck initiators) at w.now.stand.at_scheduler.0) nx.admits nx.reply

    initiated : (s : System) (t : Points) (i : ℕ) (x : InitiatorAt) (p : ℕ) (r : Reply) → i < initiators → t.initiators i ≡ At x
        → IsNext c s (entry_of (initiator i) p (initiator_asks n i x) r) → Safe c deck initiators s t past
        → OthersForeseen deck initiators s t (entry_of (initiator i) p (initiator_asks n i x) r) → IsForeseen (initiator_goes deck x r)
    initiated s t i x p r lt at nx w others = elim (of_rounds_or x) [
      | inl d ↦ initiator_foreseen deck initiators sound small s t.scheduler i lt others.codes x r d
          (subst (λ z. IsInitiatorAt deck z) at (w.now.stand.at_initiator i lt).0)
          (λ j skipped less e. subst (λ z. AllByRecursion (λ k. k ≡ j → ⊥) (jobs_of z)) at
          (held_new deck initiators s t past w.now.ledger j less i i skipped lt lt e))
          (subst (λ z. RowAt n s t.scheduler i z) at (w.now.rows.rows i lt)) nx.reply
      | inr d ↦ others.steps i x lt refl at d
    ]

    all_foreseen : (t : Points) → NoneLost initiators t → AllForeseen initiators t
    all_foreseen t f = grind (arith, common_steps, all_tasks, foreseen_of)

    each_seen : Each c deck initiators (Seen past)
    each_seen = record {
      of_reader = λ s t x p r at nx w others. let f = all_foreseen t w.now.none_lost in
          all_tasks initiators _ _ (reader_foreseen s x r nx.reply) f.at_scheduler f.at_initiator f.at_writer;
      of_scheduler = λ s t x p r at nx w others. let f = all_foreseen t w.now.none_lost in
          all_tasks initiators _ _ f.at_reader (scheduled s t x p r at nx w others) f.at_initiator f.at_writer;
      of_initiator = λ s t i x p r lt at nx w others. let f = all_foreseen t w.now.none_lost in
          all_tasks initiators _ _ f.at_reader f.at_scheduler (λ m less. all_but (λ m p. IsForeseen p) t.initiators i
          (initiator_goes deck x r) m (initiated s t i x p r lt at nx w others) (λ other. f.at_initiator m less)) f.at_writer;
      of_writer = λ s t x p r at nx w others. let f = all_foreseen t w.now.none_lost in
          all_tasks initiators _ _ f.at_reader f.at_scheduler f.at_initiator
          (writer_foreseen c deck initiators facts s w.now.fits t w.arms x r at
          (subst (λ z. IsWriterAt n z) at w.now.stand.at_writer) nx.admits nx.reply);
    }

  -- no task is astray behind a safe moment
  pub seen_next : (s : System) (t u : Points) (past : List Entry) (e : Entry) → IsNext c s e → Move deck initiators t e u
      → Safe c deck initiators s t past → OthersForeseen deck initiators s t e → AllForeseen initiators u
  seen_next s t u past e nx m w others = of_move c deck initiators (Seen past) (each_seen past) s t u e nx m w others

  -- the next safe moment
  pub safe_onward : (s : System) (t : Points) (past : List Entry) (e : Entry) (u : Points) → Safe c deck initiators s t past
      → IsNext c s e → Move deck initiators t e u → NoneLost initiators u → Safe c deck initiators (next s e) u (past ++ e ∷ [])
  safe_onward s t past e u safe nx m f = record {
    now = onward c deck initiators facts sound small s t past e u safe.now nx m f;
    arms = armed_next c deck initiators facts sound safe.now.kept s t u e nx m safe.now.stand f safe.arms;
  }

  -- What holds at the start and is kept, where it shows of each entry what the other laws are about, holds in the end, where no
  -- wait ended too soon; and no task is lost.
  pub walk_safe : (P : System → Points → List Entry → Type 0)
      → ((s : System) (t u : Points) (past : List Entry) (e : Entry) → Safe c deck initiators s t past → IsNext c s e
      → Move deck initiators t e u → P s t past → OthersForeseen deck initiators s t e)
      → ((s : System) (t u : Points) (past : List Entry) (e : Entry) → Safe c deck initiators s t past → IsNext c s e
      → Move deck initiators t e u → P s t past → P (next s e) u (past ++ e ∷ []))
      → P (opening c) (start_points deck initiators) []
      → (es : List Entry) (u : Points) → WalkTo c deck initiators (opening c) (start_points deck initiators) es u
      → NoneLost initiators (start_points deck initiators) → AreInTime initiators u
      → Safe c deck initiators (after_from (opening c) es) u es × P (after_from (opening c) es) u es
  walk_safe P shows keeps start es u walk begins in_time =
      walk_keeps (λ s t past. AreInTime initiators t → Safe c deck initiators s t past × P s t past) c deck initiators
      (λ s t v past e n m p f.
      let w = p (in_time_before deck initiators t v e m f) in
      let found = none_lost_of initiators v (seen_next s t v past e n m w.0 (shows s t v past e w.0 n m w.1)) f in
      (safe_onward s t past e v w.0 n m found, keeps s t v past e w.0 n m w.1))
      (opening c) (start_points deck initiators) u [] es walk
      (λ f. (
        record {
          now = start_moment c deck initiators facts sound small begins;
          arms = armed_start c n initiators (start_points deck initiators);
        },
        start,
      )) in_time

-- ---- no program is wrong where no task is lost

lost_wrong : {X : Type 0} (p : Point X) → p ≡ Astray → IsNotLost p → ⊥
lost_wrong p e f = subst (λ z. IsNotLost z) e f

module _ (deck : List JobData) (initiators : ℕ) (some : 1 ≤ initiators) (sound : IsPlanned deck initiators) (es : List Entry)
    (st : Stood deck initiators some sound es) (found : NoneLost initiators st.points) where
  abbrev c : Setup
  c = spool_setup deck initiators

  abbrev IsNotWrong : ℕ → Type 0
  IsNotWrong k = left_in c (task_program deck initiators) k es ≡ Wrong → ⊥

  of_point : {X : Type 0} (k : ℕ) (f : X → Program (List ℕ)) (ask : X → Object × Op) → ((x : X) → asks (f x) ≡ Some (ask x))
      → (p : Point X) → left_in c (task_program deck initiators) k es ≡ program_at f p → IsNotLost p → IsNotWrong k
  of_point k f ask says p is sees e = lost_wrong p (wrong_point f ask says p (sym is ∙ e)) sees

  pub not_wrong : (k : ℕ) → k < initiators + 3 → IsNotWrong k
  not_wrong k lt = elim (who initiators k lt) [
    | is_reader e ↦ subst IsNotWrong (sym e) (of_point reader _ reader_asks (reader_says c (st.kept reader)) st.points.reader
        st.tasks.at_reader found.at_reader)
    | is_scheduler e ↦ subst IsNotWrong (sym e) (of_point scheduler _ (scheduler_asks (length deck))
        (scheduler_says c (length deck) initiators (st.kept scheduler)) st.points.scheduler st.tasks.at_scheduler found.at_scheduler)
    | is_initiator i less e ↦ subst IsNotWrong (sym e) (of_point (initiator i) _ (initiator_asks (length deck) i)
        (initiator_says c deck i (st.kept (initiator i))) (st.points.initiators i) (st.tasks.at_initiator i less)
        (found.at_initiator i less))
    | is_writer e ↦ subst IsNotWrong (sym e) (of_point (writer initiators) _ writer_asks
        (writer_says c (length deck) (st.kept (writer initiators))) st.points.writer st.tasks.at_writer found.at_writer)
  ]

-- ---- at the start

pub none_lost_at_start : (deck : List JobData) (initiators : ℕ) → NoneLost initiators (start_points deck initiators)
none_lost_at_start deck initiators = grind (arith, common_steps)

-- ---- what stands of blocks, of elements and rounds, and of latches and volumes, put together

module _ (deck : List JobData) (initiators : ℕ) where
  -- the entry of a caller is what its point says
  initiator_asked : (t u : Points) (e : Entry) (i : ℕ) (x : InitiatorAt) → Move deck initiators t e u → i < initiators
      → e.caller ≡ initiator i → t.initiators i ≡ At x
      → (e.object ≡ (initiator_asks (length deck) i x).0) × (e.op ≡ (initiator_asks (length deck) i x).1)
  initiator_asked t u e i x y lt c given = grind (arith, common_steps)

  scheduler_asked : (t u : Points) (e : Entry) (x : SchedulerAt) → Move deck initiators t e u → e.caller ≡ scheduler → t.scheduler ≡ At x
      → (e.object ≡ (scheduler_asks (length deck) x).0) × (e.op ≡ (scheduler_asks (length deck) x).1)
  scheduler_asked t u e x y c given = grind (arith, common_steps)

  module _ (some : 1 ≤ initiators) (sound : IsPlanned deck initiators) where
    abbrev setup : Setup
    setup = spool_setup deck initiators

    abbrev BothHold : System → Points → List Entry → Type 0
    BothHold s t past = Ends setup deck initiators s t past × Served deck initiators s t past

    others : (s : System) (t u : Points) (past : List Entry) (e : Entry) → Safe setup deck initiators s t past → IsNext setup s e
        → Move deck initiators t e u → BothHold s t past → OthersForeseen deck initiators s t e
    others s t u past e safe n m h = record {
      codes = λ i code lt held. h.0.codes.elements (initiator i) code held;
      extends = λ j job jobs skipped k at.
          let w = scheduler_asked t u e (Extends j job jobs skipped) m k at in
          extend_is_armed deck initiators setup s t j job jobs skipped scheduler e.place e.reply at
          (standing deck initiators safe.now.kept t safe.now.stand) h.0.posted
          (entry_next setup s e scheduler (scheduler_asks (length deck) (Extends j job jobs skipped)) n k w.0 w.1);
      steps = λ i x lt k at other.
          let w = initiator_asked t u e i x m lt k at in
          served_foreseen setup deck initiators s t past e i x some sound safe.now h.1 n other lt k at w.0 w.1;
    }

    -- no task of a following history is lost; and at its end the laws of ends and of latches hold
    pub following_is_safe : (es : List Entry) → Follows deck initiators es → (st : Stood deck initiators some sound es)
        → Safe setup deck initiators (after setup es) st.points es × BothHold (after setup es) st.points es
    following_is_safe es f st = walk_safe setup deck initiators (facts deck initiators some) sound.jobs (few_jobs deck initiators sound)
        BothHold
        (λ s t u past e safe n m h. others s t u past e safe n m h)
        (λ s t u past e safe n m h. (
          ends_next setup deck initiators (facts deck initiators some) sound s t u past e safe.now n m h.0,
          served_next setup deck initiators s t u past e (few_jobs deck initiators sound) safe.now n m h.1,
        ))
        (ends_first setup deck initiators sound, served_start setup deck initiators) es st.points st.walk
        (none_lost_at_start deck initiators) (in_time deck initiators some sound es f st)

    -- where a history follows, no task's program is Wrong on its part of it
    pub none_wrong : (es : List Entry) → Follows deck initiators es → (k : ℕ) → k < initiators + 3
        → left_in setup (task_program deck initiators) k es ≡ Wrong → ⊥
    none_wrong es f k lt w =
        let st : Stood deck initiators some sound es = stood deck initiators some sound es f in
        not_wrong deck initiators some sound es st (following_is_safe es f st).0.now.none_lost k lt w
