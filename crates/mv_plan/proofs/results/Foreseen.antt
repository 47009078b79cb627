-- No reply leads the reader, the scheduler or the writer astray, nor an initiator in its rounds: one that is named a job that it was
-- not named before has a round left for it.
use Rattle.mv_plan.proofs.Words.{◌≡◌, ℕ, ◌<◌, ◌≤◌, ◌==◌, Bool, false, List, [], ◌∷◌, length, Some, arith, AllByRecursion, list_any, code_of}
use Rattle.mv_plan.proofs.Words.{job_named, not_to_run, AreDistinct, common_steps, zero, suc, ◌+◌, true, IsTrue, if◌then◌else◌, ◌++◌}
use Rattle.mv_plan.proofs.Words.{Option, ◌⊎◌, inl, inr, refl, sym, ap, ◌∙◌, subst, eq-eqb, leb-true, ecb_step, EcbState, Extended, Reply}
use Rattle.mv_plan.proofs.Words.{ElementState, element_step, Setup, owner_of, System, admitted, reply_to, JobData, After, Step, job_at}
use Rattle.mv_plan.proofs.Words.{reader, scheduler, initiator, writer, end_for_writer, complete_count, done, EcbOp, EcbReply, ElementOp}
use Rattle.mv_plan.proofs.Words.{WaitSlot}
use Rattle.mv_calls.proofs.Distinct.{few, none_found}
use Rattle.mv_ecb.specs.Word.{Waiting}
use Rattle.mv_plan.proofs.deck.{ArePlannedJobs, Facts}
use Rattle.mv_plan.proofs.walks.{Points, Fits}
use Rattle.mv_plan.proofs.standing.{Armed, In, in_middle, in_all, IsNoDone, awaited_no_done, SchedulerArms, WriterArms, Starts, Works, Row}
use Rattle.mv_plan.proofs.standing.{Offers, Parks, RowAt, element_of}
use Rattle.mv_plan.proofs.points.{IsWriterAt, IsInitiatorAt, IsRound, IsRunning, job_sound, Point, At, TooSoon, Astray, Awaited, ForEntry}
use Rattle.mv_plan.proofs.points.{ForEnds, ForIdle, ToDismiss, Arming, Settling, ReaderAt, Entering, reader_asks, reader_goes, SchedulerAt}
use Rattle.mv_plan.proofs.points.{Waits, Extends, awaited_blocks, awaited_count, scheduler_asks, scheduler_goes, arming_first, arming_from}
use Rattle.mv_plan.proofs.points.{settling_from, found_at, ends_at, lowest_at, on_armed, on_settled, WriterAt, Keeping, writer_asks}
use Rattle.mv_plan.proofs.points.{writer_goes, writing_from, writer_arming, end_found, Running, running, InitiatorAt, Opening, Pausing}
use Rattle.mv_plan.proofs.points.{Resuming, Ending, Closing, initiator_asks, initiator_goes, rounds_from, job_start, named_at, given_at}
use Rattle.mv_plan.proofs.points.{on_opened, on_paused, on_resumed, on_closed, InJob, code_held, IsSchedulerAt, jobs_of, IsNotLost}
use Rattle.mv_plan.proofs.points.{IsOfRounds, IsForeseen, foreseen_of, steps_found}
use Rattle.mv_plan.proofs.places.{element_code}
use Rattle.mv_plan.proofs.ends.{IsCode}

-- different jobs of n, before another one, are fewer
pub fewer : (n : ℕ) (before : List ℕ) (job : ℕ) → AllByRecursion (λ j. j < n) before → AreDistinct before → job < n
    → AllByRecursion (λ j. j ≡ job → ⊥) before → length before < n
fewer n before job below d lt new = let le : length (job ∷ before) ≤ n = few n (job ∷ before) (lt, below) (new, d) in omega arith

-- a job that a test does not find is none of these
pub not_found : (js : List ℕ) (job : ℕ) → list_any (λ j. j == job) js ≡ false → AllByRecursion (λ j. j ≡ job → ⊥) js
not_found [] job e = tt
not_found (j ∷ js) job e = grind (arith, common_steps, not_found js job)

-- the job that a code names
pub code_named : (n j : ℕ) (skipped : Bool) → n ≤ not_to_run → j < n
    → job_named n (code_of j skipped) ≡ Some (record { job = j; skipped = skipped })
code_named n j x small lt = grind (arith, common_steps)

-- ---- replies of blocks

arm_foreseen : {X : Type 0} (p : Point X) (v : EcbState) (r : Reply) → r ≡ Reply.Ecb (ecb_step EcbOp.Arm v).1 → (v ≡ Waiting → ⊥)
    → ((y : ℕ) → v ≡ Extended y → ⊥) → IsForeseen p → IsForeseen (on_armed p r)
arm_foreseen p x r e a b w = grind (arith, common_steps)

settle_foreseen : {X : Type 0} (f : WaitSlot → Point X) (v : EcbState) (r : Reply) → r ≡ Reply.Ecb (ecb_step EcbOp.Settle v).1
    → ((y : ℕ) → v ≡ Extended y → ⊥) → ((slot : WaitSlot) → IsForeseen (f slot)) → IsForeseen (on_settled f r)
settle_foreseen f x r e b w = grind (arith, common_steps)

-- where one is complete, the lowest is found
lowest_foreseen : {X : Type 0} (f : ℕ → ℕ → Point X) → ((p code : ℕ) → IsForeseen (f p code)) → (k : ℕ) (found : List WaitSlot)
    → 1 ≤ complete_count found → IsForeseen (lowest_at f k found)
lowest_foreseen f w k [] le = absurd (omega arith)
lowest_foreseen f w k (WaitSlot.Complete code ∷ found) le = w k code
lowest_foreseen f w k (WaitSlot.Open ∷ found) le = lowest_foreseen f w (k + 1) found le

-- ---- the reader
pub reader_foreseen : (s : System) (x : ReaderAt) (r : Reply) → Some r ≡ reply_to s reader (reader_asks x).0 (reader_asks x).1
    → IsForeseen (reader_goes x r)
reader_foreseen s (Entering j more) r e = grind (arith, common_steps)

-- ---- the scheduler

module _ (n initiators : ℕ) where
  ends_foreseen : (j : ℕ) (name : List ℕ) (after : List After) (steps : List Step) (jobs : List JobData)
      → IsForeseen (ends_at n j (record { name = name; after = after; steps = steps }) jobs)
  ends_foreseen j name x steps jobs = grind (arith, common_steps)

  found_foreseen : (a : Awaited) (found : List WaitSlot) → awaited_count a ≤ complete_count found → IsForeseen (found_at n a found)
  found_foreseen (ForEntry j job jobs) found le = grind (arith, common_steps, lowest_foreseen, ends_foreseen)
  found_foreseen (ForEnds j job jobs) found le = tt
  found_foreseen (ForIdle j job jobs skipped) found le = grind (arith, common_steps, lowest_foreseen)
  found_foreseen (ToDismiss i more) found le = grind (arith, common_steps, lowest_foreseen)

  settling_foreseen : (a : Awaited) (es : List ℕ) (found : List WaitSlot) → IsForeseen (settling_from n a es found)
  settling_foreseen a [] found = grind (arith, common_steps, TooSoon, found_foreseen, leb-true)
  settling_foreseen a (e ∷ es) found = tt

  arming_foreseen : (a : Awaited) (es : List ℕ) → IsForeseen (arming_from n initiators a es)
  arming_foreseen a x = grind (arith, common_steps)

first_foreseen : (n initiators j : ℕ) (job : JobData) (jobs : List JobData) (skipped : Bool) → 1 ≤ initiators
    → IsForeseen (arming_first (ForIdle j job jobs skipped) (awaited_blocks n initiators (ForIdle j job jobs skipped)))
first_foreseen n x j job jobs skipped some = grind (arith, common_steps)

-- an extend that is answered Armed
pub extend_foreseen : (n initiators j : ℕ) (job : JobData) (jobs : List JobData) (skipped : Bool) → 1 ≤ initiators
    → IsForeseen (scheduler_goes n initiators (Extends j job jobs skipped) (Reply.Ecb EcbReply.Armed))
extend_foreseen n initiators j job jobs skipped some = first_foreseen n initiators j job jobs skipped some

-- whether a point is no extend
abbrev pub NoExtend : SchedulerAt → Type 0
NoExtend (Extends j job jobs skipped) = ⊥
NoExtend x = Unit {0}

-- a block that is no done block is not extended
plain_block : (c : Setup) (n initiators : ℕ) (s : System) (e : ℕ) → Facts c n initiators → Fits c s → IsNoDone n e → (y : ℕ)
    → (s.ecb e).state ≡ Extended y → ⊥
plain_block c n initiators s e facts fits (inl low) y q = let z : (j : ℕ) × (j < n) × (y ≡ j + 1) × (e ≡ done n j) =
    facts.sources y e (fits.exits e y q) in let lt : z.0 < n = z.1 in let is : e ≡ n + z.0 = z.3 in omega arith
plain_block c n initiators s e facts fits (inr high) y q = let z : (j : ℕ) × (j < n) × (y ≡ j + 1) × (e ≡ done n j) =
    facts.sources y e (fits.exits e y q) in let lt : z.0 < n = z.1 in let is : e ≡ n + z.0 = z.3 in omega arith

module _ (c : Setup) (deck : List JobData) (initiators : ℕ) (facts : Facts c (length deck) initiators) (s : System) (fits : Fits c s)
    (t : Points) (arms : Armed c (length deck) initiators s t) where
  abbrev n : ℕ
  n = length deck

  pub scheduler_foreseen : (x : SchedulerAt) (r : Reply) → t.scheduler ≡ At x → NoExtend x
      → ((i : ℕ) → i < initiators → RowAt n s t.scheduler i (t.initiators i)) → ((i : ℕ) → i < initiators → IsNotLost (t.initiators i))
      → IsSchedulerAt deck initiators (At x) → IsTrue (admitted c s scheduler (scheduler_asks n x).0 (scheduler_asks n x).1)
      → Some r ≡ reply_to s scheduler (scheduler_asks n x).0 (scheduler_asks n x).1
      → IsForeseen (scheduler_goes n initiators x r)
  scheduler_foreseen (Waits a (Arming e todo)) r at d rows found sound adm ans =
      arm_foreseen (arming_from n initiators a todo) (s.ecb e).state r (cc ans) (λ z. no_wait (arms.armed e z))
      (plain_block c n initiators s e facts fits
      (in_all (IsNoDone n) (awaited_blocks n initiators a) e (awaited_no_done deck initiators a sound.0)
      (subst (λ l. In l e) sound.1.1 (in_middle sound.1.0 e todo))))
      (arming_foreseen n initiators a todo) where
        no_wait : ((owner_of c e ≡ scheduler) × SchedulerArms n initiators t.scheduler e)
            ⊎ ((owner_of c e ≡ writer initiators) × WriterArms n t.writer e) → ⊥
        no_wait (inl u) = (subst (λ z. SchedulerArms n initiators z e) at u.1).1 (inl refl)
        no_wait (inr u) = grind (arith, common_steps)
  scheduler_foreseen (Waits a (Settling e todo found)) r at d rows fnd sound adm ans =
      settle_foreseen (λ slot. settling_from n a todo (found ++ slot ∷ [])) (s.ecb e).state r (cc ans)
      (plain_block c n initiators s e facts fits
      (in_all (IsNoDone n) (awaited_blocks n initiators a) e (awaited_no_done deck initiators a sound.0)
      (subst (λ l. In l e) sound.1.1 (in_middle sound.1.0 e todo))))
      (λ slot. settling_foreseen n initiators a todo (found ++ slot ∷ []))
  scheduler_foreseen x r at d rows found sound adm ans = grind (arith, common_steps)

  -- ---- the writer
  writing_foreseen : (j more : ℕ) (ends : List ℕ) → IsForeseen (writing_from n j more ends)
  writing_foreseen j x ends = grind (arith, common_steps)

  end_foreseen : (j more : ℕ) (ends : List ℕ) (found : List WaitSlot) → IsForeseen (end_found n j more ends found)
  end_foreseen j more ends found = grind (arith, common_steps, TooSoon, lowest_foreseen, writing_foreseen, leb-true)

  writer_block : (j e : ℕ) → e ≡ end_for_writer n j → (y : ℕ) → (s.ecb e).state ≡ Extended y → ⊥
  writer_block j e is = plain_block c n initiators s e facts fits (inr (omega arith))

  pub writer_foreseen : (x : WriterAt) (r : Reply) → t.writer ≡ At x
      → IsWriterAt n (At x) → IsTrue (admitted c s (writer initiators) (writer_asks x).0 (writer_asks x).1)
      → Some r ≡ reply_to s (writer initiators) (writer_asks x).0 (writer_asks x).1 → IsForeseen (writer_goes n x r)
  writer_foreseen (Keeping j more ends (Arming e [])) r at sound adm ans =
      arm_foreseen (writer_arming n j more ends []) (s.ecb e).state r (cc ans) (λ z. no_wait (arms.armed e z))
      (writer_block j e sound.1) tt where
        no_wait : ((owner_of c e ≡ scheduler) × SchedulerArms n initiators t.scheduler e)
            ⊎ ((owner_of c e ≡ writer initiators) × WriterArms n t.writer e) → ⊥
        no_wait (inl u) = grind (arith, common_steps)
        no_wait (inr u) = (subst (λ z. WriterArms n z e) at u.1).1 (inl refl)
  writer_foreseen (Keeping j more ends (Arming e (d ∷ todo))) r at sound adm ans = absurd (cc sound.2)
  writer_foreseen (Keeping j more ends (Settling e [] found)) r at sound adm ans =
      settle_foreseen (λ slot. end_found n j more ends (found ++ slot ∷ [])) (s.ecb e).state r (cc ans) (writer_block j e sound.1)
      (λ slot. end_foreseen j more ends (found ++ slot ∷ []))
  writer_foreseen (Keeping j more ends (Settling e (d ∷ todo) found)) r at sound adm ans = absurd (cc sound.2)

-- ---- an initiator

start_found : (deck : List JobData) (skipped : Bool) (run : Running) (j : ℕ) → ArePlannedJobs 0 deck → j < length deck
    → IsForeseen (job_start skipped run (job_at deck j))
start_found deck true run j sound lt = tt
start_found deck false run j sound lt = grind (arith, common_steps, foreseen_of, steps_found, job_sound)

rounds_foreseen : (m : ℕ) (before : List ℕ) (g : ℕ) → 1 ≤ m → IsForeseen (rounds_from m before g)
rounds_foreseen x before g le = grind (arith, common_steps)

-- a running job leaves a round for what follows
pub round_left : (n : ℕ) (run : Running) → IsRunning n run → 1 ≤ run.more
round_left n run r =
    let lt = fewer n run.before run.job r.round.below r.round.distinct r.job (not_found run.before run.job r.new) in
    let whole = r.round.count in omega arith

-- where a given code is right, and names no job that was named before
module _ (deck : List JobData) (sound : ArePlannedJobs 0 deck) (small : length deck ≤ not_to_run) (before : List ℕ) (more : ℕ)
    (round : IsRound (length deck) more before) where
  left_for : (j : ℕ) → j < length deck → AllByRecursion (λ k. k ≡ j → ⊥) before → 1 ≤ more
  left_for j lt new =
      let less : length before < length deck = fewer (length deck) before j round.below round.distinct lt new in
      let whole : length before + more ≡ length deck = round.count in omega arith

  named_foreseen : (m : ℕ) (j : ℕ) (skipped : Bool) (g : ℕ) → 1 ≤ m → j < length deck → AllByRecursion (λ k. k ≡ j → ⊥) before
      → IsForeseen (named_at deck (Some (record { job = j; skipped = skipped })) before m g)
  named_foreseen zero j skipped g le lt new = absurd (omega arith)
  named_foreseen (suc m) j skipped g le lt new =
      subst (λ b. IsForeseen (if b then Astray else job_start skipped (running (record { job = j; skipped = skipped }) before (suc m) g)
      (job_at deck j))) (sym (none_found before j new))
      (start_found deck skipped (running (record { job = j; skipped = skipped }) before (suc m) g) j sound lt)

  pub given_foreseen : (code g : ℕ) → IsCode deck code
      → ((j : ℕ) (skipped : Bool) → j < length deck → code ≡ code_of j skipped → AllByRecursion (λ k. k ≡ j → ⊥) before)
      → IsForeseen (given_at deck more before code g)
  given_foreseen code g (inl e) new = grind (arith, common_steps)
  given_foreseen code g (inr (j, lt, e)) new = grind (arith, common_steps, At, more, code_named, named_foreseen, left_for)

module _ (deck : List JobData) (o h : Option ℕ) where
  opened_foreseen : (y : ElementState) (r : Reply) → r ≡ Reply.Element (element_step ElementOp.Open y).1 → Row Starts o h y
      → IsForeseen (on_opened r (length deck))
  opened_foreseen y r e w = rw (e, w.2) (rounds_foreseen (length deck + 1) [] 0 (omega arith))

  paused_foreseen : (more : ℕ) (before : List ℕ) (g : ℕ) (y : ElementState) (r : Reply)
      → r ≡ Reply.Element (element_step (ElementOp.Pause g) y).1 → Row (Offers g) o h y
      → ((code : ℕ) → code_held y ≡ Some code → IsForeseen (given_at deck more before code (g + 1)))
      → IsForeseen (on_paused deck more before g r)
  paused_foreseen more before g y r e x given = grind (arith, common_steps)

  resumed_foreseen : (more : ℕ) (before : List ℕ) (g : ℕ) (y : ElementState) (r : Reply)
      → r ≡ Reply.Element (element_step (ElementOp.Resume g) y).1 → Row (Parks g) o h y
      → ((code : ℕ) → code_held y ≡ Some code → IsForeseen (given_at deck more before code (g + 1)))
      → IsForeseen (on_resumed deck more before r)
  resumed_foreseen more before g y r e x given = grind (arith, common_steps)

  closed_foreseen : (g : ℕ) (y : ElementState) (r : Reply) → r ≡ Reply.Element (element_step (ElementOp.Close g) y).1
      → Row (Works g) o h y → IsForeseen (on_closed r)
  closed_foreseen g y r e w = rw (e, w.2, eq-eqb g g refl) tt

module _ (deck : List JobData) (initiators : ℕ) (sound : ArePlannedJobs 0 deck) (small : length deck ≤ not_to_run) (s : System)
    (q : Point SchedulerAt) (i : ℕ) (lt : i < initiators)
    (held : (i code : ℕ) → i < initiators → element_code s i ≡ Some code → IsCode deck code) where
  abbrev size : ℕ
  size = length deck

  -- the job that is named is another than these
  abbrev IsNewTo : List ℕ → Type 0
  IsNewTo before = (j : ℕ) (skipped : Bool) → j < size → element_code s i ≡ Some (code_of j skipped)
      → AllByRecursion (λ k. k ≡ j → ⊥) before

  gift_foreseen : (more : ℕ) (before : List ℕ) (g : ℕ) → IsRound size more before → IsNewTo before
      → (code : ℕ) → element_code s i ≡ Some code → IsForeseen (given_at deck more before code (g + 1))
  gift_foreseen more before g round new code e =
      given_foreseen deck sound small before more round code (g + 1) (held i code lt e)
      (λ j skipped less is. new j skipped less (e ∙ ap (λ z. Some z) is))

  pub initiator_foreseen : (x : InitiatorAt) (r : Reply) → IsOfRounds x → IsInitiatorAt deck (At x)
      → IsNewTo (jobs_of (At x)) → RowAt size s q i (At x)
      → Some r ≡ reply_to s (initiator i) (initiator_asks size i x).0 (initiator_asks size i x).1 → IsForeseen (initiator_goes deck x r)
  initiator_foreseen Opening r d st over w a = opened_foreseen deck _ _ (element_of s i) r (cc a) w
  initiator_foreseen (Pausing more before g) r d st over w a = grind (arith, common_steps, paused_foreseen, gift_foreseen)
  initiator_foreseen (Resuming more before g) r d st over w a = grind (arith, common_steps, resumed_foreseen, gift_foreseen)
  initiator_foreseen (InJob run (Ending post code counts)) r d st over w a =
      let next = rounds_foreseen run.more (run.before ++ run.job ∷ []) run.generation (round_left size run st.round) in
      grind (arith, common_steps)
  initiator_foreseen (Closing g) r d st over w a = closed_foreseen deck _ _ g (element_of s i) r (cc a) w
  initiator_foreseen x r d st over w a = grind (arith, common_steps)
