-- How many events each task may still make, by its point, and that each event takes one of them; so no task makes more than its
-- budget, behind each entry of a walk.
use Rattle.mv_plan.proofs.Words.{◌≡◌, ℕ, suc, ◌+◌, ◌*◌, ◌≤◌, nat_le, true, false, cond, List, [], ◌∷◌, ◌++◌, length, arith, Reply}
use Rattle.mv_plan.proofs.Words.{length-map, length-map-range_with_len, After, Step, JobData, complete_count, EcbReply, common_steps, rules}
use Rattle.mv_plan.proofs.Words.{◌<◌, ◌==◌, Bool, if◌then◌else◌, refl, ap, list_any, eq-eqb, ne_eqb, job_at, slice_index, Some, sym, subst}
use Rattle.mv_plan.proofs.Words.{Entry, Object, Op, of, opening, asks, left_in, Follows, spool_setup, task_budgets, initiator, task_program}
use Rattle.mv_plan.proofs.Words.{Program, cases_eq, inl, inr, step_events, sum_by, sum_by-cons, WaitSlot}
use Rattle.mv_plan.proofs.deck.{IsPlanned}
use Rattle.mv_plan.proofs.points.{Point, At, TooSoon, ReaderAt, Entering, entering_from, reader_goes, Arming, Settling, Stage, Dispatching}
use Rattle.mv_plan.proofs.points.{Dismissing, Awaited, ForEntry, ForEnds, ForIdle, ToDismiss, SchedulerAt, Waits, Extends, Clears, Releases}
use Rattle.mv_plan.proofs.points.{awaited_blocks, arming_first, ends_at, stage_at, found_at, settling_from, arming_from, scheduler_goes}
use Rattle.mv_plan.proofs.points.{WriterAt, Keeping, writing_from, end_found, lowest_at, writer_goes, on_armed_keeps, on_settled_keeps}
use Rattle.mv_plan.proofs.points.{lowest_keeps, Running, Hand, InitiatorAt, Opening, Offering, Pausing, Resuming, Obtaining, Confirming}
use Rattle.mv_plan.proofs.points.{Freeing, Reading, Writing, Compares, Purging, Ending, OfJob, ForScheduler, ForWriter, Closing, steps_at}
use Rattle.mv_plan.proofs.points.{initiator_goes, rounds_from, running, job_start, given_at, InJob, given_lands, named_is, program_at}
use Rattle.mv_plan.proofs.points.{initiator_program, ToAdd, ToCompare}
use Rattle.mv_plan.proofs.lists.{sum_to, sum_front, sum_change}
use Rattle.mv_plan.specs.StayingWithin.{IsWithinBudgets}
use Rattle.mv_plan.proofs.walks.{Who, is_reader, is_scheduler, is_initiator, is_writer, who, Stood, stood, Points, start_points, Move}
use Rattle.mv_plan.proofs.walks.{reads, schedules, initiates, writes, walk_keeps}
use Rattle.mv_deck.specs.Weight.{all_events, after_parts}

-- the events of some steps
abbrev steps_events : List Step → ℕ
steps_events steps = sum_by step_events steps

-- ---- the reader: one event for each job

-- what the reader may still do
abbrev pub reader_events : Point ReaderAt → ℕ
reader_events (At (Entering j more)) = suc more
reader_events p = 0

-- where it begins
pub entering_few : (j more : ℕ) → reader_events (entering_from j more) ≤ more
entering_few j x = grind (arith, common_steps)

-- each event takes one
pub reader_pays : (x : ReaderAt) (r : Reply) → suc (reader_events (reader_goes x r)) ≤ reader_events (At x)
reader_pays (Entering j more) r = grind (arith, common_steps)

-- ---- the writer: two events for each job

-- what the writer may still do
abbrev pub writer_events : Point WriterAt → ℕ
writer_events (At (Keeping j more ends (Arming e todo))) = suc (length todo) + suc (2 * more)
writer_events (At (Keeping j more ends (Settling e todo found))) = suc (length todo) + 2 * more
writer_events p = 0

module _ (n : ℕ) where
  -- where it begins with a job
  pub writing_few : (j more : ℕ) (ends : List ℕ) → writer_events (writing_from n j more ends) ≤ 2 * more
  writing_few j x ends = grind (arith, common_steps)

  -- where it has found an end, or ended too soon
  end_few : (j more : ℕ) (ends : List ℕ) (found : List WaitSlot) → writer_events (end_found n j more ends found) ≤ 2 * more
  end_few j more ends found = elim (nat_le 1 (complete_count found)) as
      (λ b. writer_events (cond b (lowest_at (λ p end. writing_from n (j + 1) more (ends ++ end ∷ [])) 0 found) TooSoon) ≤ 2 * more) [
        | true ↦ lowest_keeps (λ p. writer_events p ≤ 2 * more) (λ p end. writing_from n (j + 1) more (ends ++ end ∷ [])) 0 found
            (λ i end. writing_few (j + 1) more (ends ++ end ∷ [])) (omega arith)
        | false ↦ omega arith
      ]

  -- each event takes one
  pub writer_pays : (x : WriterAt) (r : Reply) → suc (writer_events (writer_goes n x r)) ≤ writer_events (At x)
  writer_pays x r = search (rules, on_settled_keeps, end_few)

-- ---- the scheduler

module _ (n initiators : ℕ) where
  -- what the jobs that are still to be handed out take
  abbrev pub jobs_events : List JobData → ℕ
  jobs_events [] = 0
  jobs_events (job ∷ jobs) = 5 + 2 * initiators + 2 * length job.after + jobs_events jobs

  -- what a stage takes
  abbrev pub stage_events : Stage → ℕ
  stage_events (Dispatching j jobs) = jobs_events jobs + 4 * initiators
  stage_events (Dismissing i more) = 4 * more

  -- how many blocks are waited for, and what comes behind the wait
  abbrev block_count : Awaited → ℕ
  block_count (ForEntry j job jobs) = 1
  block_count (ForEnds j job jobs) = length job.after
  block_count (ForIdle j job jobs skipped) = initiators
  block_count (ToDismiss i more) = 1

  -- what comes behind a wait
  abbrev behind_wait : Awaited → ℕ
  behind_wait (ForEntry j job jobs) = 2 * length job.after + (3 + 2 * initiators + (jobs_events jobs + 4 * initiators))
  behind_wait (ForEnds j job jobs) = 3 + 2 * initiators + (jobs_events jobs + 4 * initiators)
  behind_wait (ForIdle j job jobs skipped) = 2 + (jobs_events jobs + 4 * initiators)
  behind_wait (ToDismiss i more) = 2 + 4 * more

  -- what the scheduler may still do
  abbrev pub scheduler_events : Point SchedulerAt → ℕ
  scheduler_events (At (Waits a (Arming e todo))) = suc (length todo) + (block_count a + behind_wait a)
  scheduler_events (At (Waits a (Settling e todo found))) = suc (length todo) + behind_wait a
  scheduler_events (At (Extends j job jobs skipped)) = 3 + 2 * initiators + (jobs_events jobs + 4 * initiators)
  scheduler_events (At (Clears i g code after)) = 2 + stage_events after
  scheduler_events (At (Releases i g code after)) = 1 + stage_events after
  scheduler_events p = 0

  -- so many blocks are waited for
  blocks : (a : Awaited) → length (awaited_blocks n initiators a) ≡ block_count a
  blocks a = grind (arith, common_steps, length-map, length-map-range_with_len)

  -- where it begins a stage
  pub stage_starts : (after : Stage) → scheduler_events (stage_at n initiators after) ≤ stage_events after
  stage_starts x = grind (arith, common_steps)

  -- where a job was entered
  ends_few : (j : ℕ) (name : List ℕ) (after : List After) (steps : List Step) (jobs : List JobData)
      → scheduler_events (ends_at n j (record { name = name; after = after; steps = steps }) jobs)
      ≤ 2 * length after + (3 + 2 * initiators + (jobs_events jobs + 4 * initiators))
  ends_few j name x steps jobs = grind (arith, common_steps)

  -- where a wait has found enough
  found_few : (a : Awaited) (found : List WaitSlot) → scheduler_events (found_at n a found) ≤ behind_wait a
  found_few (ForEntry j job jobs) found =
      lowest_keeps (λ p. scheduler_events p ≤ behind_wait (ForEntry j job jobs)) (λ p code. ends_at n j job jobs) 0 found
      (λ p code. ends_few j job.name job.after job.steps jobs) (omega arith)
  found_few (ForEnds j job jobs) found = omega arith
  found_few (ForIdle j job jobs skipped) found =
      lowest_keeps (λ p. scheduler_events p ≤ behind_wait (ForIdle j job jobs skipped)) _ 0 found (λ i g. omega arith) (omega arith)
  found_few (ToDismiss i more) found =
      lowest_keeps (λ p. scheduler_events p ≤ behind_wait (ToDismiss i more)) _ 0 found (λ p g. omega arith) (omega arith)

  -- where blocks are still to be settled
  settling_few : (a : Awaited) (es : List ℕ) (found : List WaitSlot)
      → scheduler_events (settling_from n a es found) ≤ length es + behind_wait a
  settling_few a es found = grind (arith, common_steps, found_few)

  -- where blocks are still to be armed
  arming_few : (a : Awaited) (es : List ℕ) → scheduler_events (arming_from n initiators a es) ≤ length es + (block_count a + behind_wait a)
  arming_few a es = grind (arith, common_steps, settling_few, blocks)

  -- where a wait begins
  first_few : (a : Awaited) (es : List ℕ) → scheduler_events (arming_first a es) ≤ length es + (block_count a + behind_wait a)
  first_few a x = grind (arith, common_steps)

  -- each event takes one
  pub scheduler_pays : (x : SchedulerAt) (r : Reply) → suc (scheduler_events (scheduler_goes n initiators x r)) ≤ scheduler_events (At x)
  scheduler_pays (Waits a (Arming e todo)) r = grind (arith, common_steps, on_armed_keeps, initiators, arming_few)
  scheduler_pays (Waits a (Settling e todo found)) r = grind (arith, common_steps, on_settled_keeps, settling_few)
  scheduler_pays (Extends j job jobs skipped) (Reply.Ecb EcbReply.Armed) = search (rules, ForIdle, initiators, first_few, blocks)
  scheduler_pays x r = grind (arith, common_steps)

  -- all jobs together
  pub jobs_events_is : (jobs : List JobData) → jobs_events jobs ≡ 5 * length jobs + 2 * length jobs * initiators + 2 * after_parts jobs
  jobs_events_is [] = omega arith
  jobs_events_is (job ∷ jobs) = grind (arith, common_steps, jobs_events_is jobs, sum_by-cons)

-- ---- jobs that were not named before

-- the events of the round of a job
abbrev round_events : List JobData → ℕ → ℕ
round_events deck j = 7 + steps_events (job_at deck j).steps

-- whether a job was named before
abbrev is_among : ℕ → List ℕ → Bool
is_among j before = list_any (λ b. b == j) before

-- the events of a job that was not
abbrev round_to_come : List JobData → List ℕ → ℕ → ℕ
round_to_come deck before j = if is_among j before then 0 else round_events deck j

-- the rounds of the jobs that were not named before
abbrev pub rounds_to_come : List JobData → List ℕ → ℕ
rounds_to_come deck before = sum_to (length deck) (round_to_come deck before)

-- naming a job takes its round from those to come
pub round_taken : (deck : List JobData) (before : List ℕ) (j : ℕ) → j < length deck → is_among j before ≡ false
    → rounds_to_come deck (before ++ j ∷ []) + round_events deck j ≡ rounds_to_come deck before
round_taken deck before j lt new =
    let change = sum_change (length deck) j (round_to_come deck before) (round_to_come deck (before ++ j ∷ [])) lt others in
    let was : round_to_come deck before j ≡ round_events deck j = ap (λ b. if b then 0 else round_events deck j) new in
    let is : round_to_come deck (before ++ j ∷ []) j ≡ 0 = ap (λ b. if b then 0 else round_events deck j) (own before) in omega arith where
      own : (before : List ℕ) → is_among j (before ++ j ∷ []) ≡ true
      own [] = rw (eq-eqb j j refl) refl
      own (b ∷ before) = grind (arith, common_steps, own before)

      same : (before : List ℕ) (m : ℕ) → (j ≡ m → ⊥) → is_among m (before ++ j ∷ []) ≡ is_among m before
      same [] m d = rw (ne_eqb j m d) refl
      same (b ∷ before) m d = rw (same before m d) refl

      others : (m : ℕ) → (j ≡ m → ⊥) → round_to_come deck (before ++ j ∷ []) m ≡ round_to_come deck before m
      others m d = ap (λ b. if b then 0 else round_events deck m) (same before m d)

-- the rounds of all jobs
pub all_rounds : (deck : List JobData) → rounds_to_come deck [] ≡ 7 * length deck + all_events deck
all_rounds [] = refl
all_rounds (job ∷ jobs) = grind (arith, common_steps, sum_front, sum_by-cons, all_rounds jobs)

-- ---- what an initiator may still do

module _ (deck : List JobData) where
  -- behind the job that it runs
  abbrev behind_job : Running → ℕ
  behind_job run = 4 + rounds_to_come deck (run.before ++ run.job ∷ [])

  -- what an initiator may still do
  abbrev pub initiator_events : Point InitiatorAt → ℕ
  initiator_events (At Opening) = 5 + rounds_to_come deck []
  initiator_events (At (Offering more before g)) = 4 + rounds_to_come deck before
  initiator_events (At (Pausing more before g)) = 3 + rounds_to_come deck before
  initiator_events (At (Resuming more before g)) = 2 + rounds_to_come deck before
  initiator_events (At (InJob run (Obtaining hand latch mode steps))) = 6 + (steps_events steps + behind_job run)
  initiator_events (At (InJob run (Confirming hand latch mode id steps))) = 5 + (steps_events steps + behind_job run)
  initiator_events (At (InJob run (Freeing hand latch id steps))) = 5 + (steps_events steps + behind_job run)
  initiator_events (At (InJob run (Writing hand volume amount number steps))) = 5 + (steps_events steps + behind_job run)
  initiator_events (At (InJob run (Reading hand volume (ToAdd amount) steps))) = 6 + (steps_events steps + behind_job run)
  initiator_events (At (InJob run (Reading hand volume ToCompare steps))) = 6 + (steps_events steps + behind_job run)
  initiator_events (At (InJob run (Reading hand volume (Compares number) steps))) = 5 + (steps_events steps + behind_job run)
  initiator_events (At (InJob run (Purging hand code))) = 4 + behind_job run
  initiator_events (At (InJob run (Ending OfJob code counts))) = 3 + behind_job run
  initiator_events (At (InJob run (Ending ForScheduler code counts))) = 2 + behind_job run
  initiator_events (At (InJob run (Ending ForWriter code counts))) = 1 + behind_job run
  initiator_events (At (Closing g)) = 1
  initiator_events p = 0

  -- where a round begins
  rounds_few : (more : ℕ) (before : List ℕ) (g : ℕ) → initiator_events (rounds_from more before g) ≤ 4 + rounds_to_come deck before
  rounds_few more before g = grind (arith, common_steps)

  -- where a job's steps are to be done
  steps_few : (run : Running) (hand : Hand) (steps : List Step)
      → initiator_events (steps_at run hand steps) ≤ 4 + (steps_events steps + behind_job run)
  steps_few run hand [] = grind (arith, common_steps)
  steps_few run hand (first ∷ steps) = grind (arith, common_steps, sum_by-cons, steps_few run hand steps)

  -- where a job begins
  start_few : (skipped : Bool) (run : Running) (job : JobData)
      → initiator_events (job_start skipped run job) ≤ 4 + (steps_events job.steps + behind_job run)
  start_few skipped run job = grind (arith, common_steps, steps_few)

  -- where a code was given
  code_few : (more : ℕ) (before : List ℕ) (code g : ℕ)
      → initiator_events (given_at deck more before code g) ≤ 1 + rounds_to_come deck before
  code_few more before code g =
      given_lands (λ p. initiator_events p ≤ 1 + rounds_to_come deck before) (omega arith) deck more before code g (λ z. omega arith)
      (λ named left e t m.
      let le = start_few named.skipped (running named before (suc left) g) (job_at deck named.job) in
      let taken = round_taken deck before named.job (named_is (length deck) code named e).0 t in omega arith)

  -- each event takes one
  pub initiator_pays : (x : InitiatorAt) (r : Reply) → suc (initiator_events (initiator_goes deck x r)) ≤ initiator_events (At x)
  initiator_pays x r = grind (arith, common_steps, rounds_few, code_few, steps_few)

-- ---- how a caller's part grows by an entry

-- what a task has made and may still make, of its budget
paid : (k b : ℕ) (past : List Entry) (e : Entry) (before after : ℕ) → e.caller ≡ k → suc after ≤ before
    → length (of k past) + before ≤ b → length (of k (past ++ e ∷ [])) + after ≤ b
paid k b past e before after same pays le = grind (arith, common_steps)

-- an entry of another caller takes nothing
kept : (k b : ℕ) (past : List Entry) (e : Entry) (left : ℕ) → (e.caller ≡ k → ⊥)
    → length (of k past) + left ≤ b → length (of k (past ++ e ∷ [])) + left ≤ b
kept k b past e left other le = grind (arith, common_steps)

-- what a task's program says is said at a point, where it may still do something
one_left : {X : Type 0} (f : X → Program (List ℕ)) (events : Point X → ℕ) (q : Program (List ℕ)) (p : Point X) (o : Object) (op : Op)
    → q ≡ program_at f p → asks q ≡ Some (o, op) → ((x : X) → 1 ≤ events (At x)) → 1 ≤ events p
one_left f events q p o op e a some = grind (arith, common_steps)

-- ---- what each task has made and may still make is within its budget

module _ (deck : List JobData) (initiators : ℕ) where
  -- the budgets, task by task
  abbrev budget_of : {k : ℕ} → Who initiators k → ℕ
  budget_of (is_reader e) = length deck
  budget_of (is_scheduler e) = 5 * length deck + 2 * length deck * initiators + 2 * after_parts deck + 4 * initiators
  budget_of (is_initiator i lt e) = 5 + 7 * length deck + all_events deck
  budget_of (is_writer e) = 2 * length deck

  budget_is : (k : ℕ) (w : Who initiators k) → slice_index (task_budgets deck initiators) k ≡ budget_of w
  budget_is k w = grind (arith, common_steps)

  -- what each may still do
  abbrev events_of : Points → {k : ℕ} → Who initiators k → ℕ
  events_of t (is_reader e) = reader_events t.reader
  events_of t (is_scheduler e) = scheduler_events (length deck) initiators t.scheduler
  events_of t (is_initiator i lt e) = initiator_events deck (t.initiators i)
  events_of t (is_writer e) = writer_events t.writer

  abbrev pub Within : Points → List Entry → Type 0
  Within t past = (k : ℕ) (w : Who initiators k) → length (of k past) + events_of t w ≤ budget_of w

  -- before the first event
  within_start : Within (start_points deck initiators) []
  within_start k (is_reader e) = let le = entering_few 0 (length deck) in omega arith
  within_start k (is_scheduler e) =
      let le = stage_starts (length deck) initiators (Dispatching 0 deck) in
      omega (arith, jobs_events_is (length deck) initiators deck)
  within_start k (is_initiator i lt e) = omega (arith, all_rounds deck)
  within_start k (is_writer e) = let le = writing_few (length deck) 0 (length deck) [] in omega arith

  -- each event takes one of what its caller may still do, and none of what the others may
  pays : (t u : Points) (e : Entry) → Move deck initiators t e u → (k : ℕ) (w : Who initiators k) → e.caller ≡ k
      → suc (events_of u w) ≤ events_of t w
  pays t u e m k w same =
      grind (arith, common_steps, reads, reader_pays, schedules, scheduler_pays, initiates, initiator_pays, writes, writer_pays)

  stays : (t u : Points) (e : Entry) → Move deck initiators t e u → (k : ℕ) (w : Who initiators k) → (e.caller ≡ k → ⊥)
      → events_of u w ≡ events_of t w
  stays t u e m k w other = grind (arith, common_steps)

  -- and behind each
  within_next : (t u : Points) (past : List Entry) (e : Entry) → Move deck initiators t e u → Within t past → Within u (past ++ e ∷ [])
  within_next t u past e m h k w = elim (cases_eq e.caller k) [
    | inl same ↦ paid k (budget_of w) past e (events_of t w) (events_of u w) same (pays t u e m k w same) (h k w)
    | inr other ↦ kept k (budget_of w) past e (events_of u w) other
        (subst (λ n. length (of k past) + n ≤ budget_of w) (sym (stays t u e m k w other)) (h k w))
  ]

  -- any reply
  abbrev some_reply : Reply
  some_reply = Reply.Ecb EcbReply.Posted

  module _ (some : 1 ≤ initiators) (sound : IsPlanned deck initiators) (es : List Entry) (follows : Follows deck initiators es) where
    st : Stood deck initiators some sound es
    st = stood deck initiators some sound es follows

    within : Within st.points es
    within = walk_keeps (λ s t past. Within t past) (spool_setup deck initiators) deck initiators
        (λ s t u past e n m w. within_next t u past e m w)
        (opening (spool_setup deck initiators)) (start_points deck initiators) st.points [] es st.walk within_start

    abbrev says : ℕ → Program (List ℕ)
    says k = left_in (spool_setup deck initiators) (task_program deck initiators) k es

    some_event : (k : ℕ) (o : Object) (op : Op) (w : Who initiators k) → asks (says k) ≡ Some (o, op) → 1 ≤ events_of st.points w
    some_event k o op (is_reader e) a = grind (arith, common_steps, one_left, st, kept, reader_pays)
    some_event k o op (is_scheduler e) a = grind (arith, common_steps, one_left, st, kept, scheduler_pays)
    some_event k o op (is_initiator i lt e) a =
        one_left (initiator_program (spool_setup deck initiators) deck i (st.kept (initiator i))) (initiator_events deck)
        (says (initiator i)) (st.points.initiators i) o op (st.tasks.at_initiator i lt) (subst (λ k. asks (says k) ≡ Some (o, op)) e a)
        (λ x. let p = initiator_pays deck x some_reply in omega arith)
    some_event k o op (is_writer e) a = grind (arith, common_steps, one_left, st, kept, writer_pays)

    pub within_budgets : IsWithinBudgets deck initiators es
    within_budgets = record {
      made = λ k lt. omega (arith, within k (who initiators k lt), budget_is k (who initiators k lt));
      next = λ k o op lt a. omega
          (arith, within k (who initiators k lt), budget_is k (who initiators k lt), some_event k o op (who initiators k lt) a);
    }
