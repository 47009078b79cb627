-- The program of each task at each point. Posts and waits, which all tasks make, point by point: programs and points go alike, and what
-- holds of each point that may follow holds of the one that does. The reader's and the writer's programs go from point to point; where
-- these two may stand, and what the writer keeps. Used by Following.
use Rattle.mv_plan.proofs.Words.{ℕ, suc, ◌+◌, ◌-◌, List, [], ◌∷◌, ◌++◌, length, map, false, Some, Result, Ok, ◌==◌, if◌then◌else◌}
use Rattle.mv_plan.proofs.Words.{range_with_len, Ecb, Element, Volume, Latches, Setup, with_at, JobData, Step, Kept, Purged, obtained}
use Rattle.mv_plan.proofs.Words.{token_of, closed, release, deallocate, pause, PostAnswer, Woke, post, post_within, each_posted, wake_posted}
use Rattle.mv_plan.proofs.Words.{Program, Do, Done, Early, Wrong, Call, and_then, going_on, unrefused, finished, on_ecb, on_element}
use Rattle.mv_plan.proofs.Words.{on_latch, followed, accepted, Refusal, entered, end_for_scheduler, end_for_writer, idle, initiator, lowest}
use Rattle.mv_plan.proofs.Words.{some_end_above, ends_awaited, hand_over, code_of, granted_as, named_by, run_job, rounds, job_named}
use Rattle.mv_plan.proofs.Words.{first_of, arm_all, settle_all, enough, the_word, extended, extend, done, EcbOp, ElementOp, LatchOp}
use Rattle.mv_plan.proofs.Words.{LatchForm, Op, VolumeOp, Bool, ◌≡◌, ◌<◌, ◌≤◌, arith, Reply, posted_next, EcbReply, common_steps}
use Rattle.mv_plan.proofs.Words.{zero, refl, ap, Object, kept_after, Heard, asks, heard, writer, WaitSlot}
use Rattle.mv_calls.specs.LatchCalls.{confirmed, let_go, purged}
use Rattle.mv_calls.specs.declared.outcomes.Given.{Given}
use Rattle.mv_calls.specs.Pauses.{opened, paused, resumed}
use Rattle.mv_calls.specs.Program.{for_each, on_volume}
use Rattle.mv_calls.specs.Waits.{the_value, stored, read_volume, armed, settled}
use Rattle.mv_calls.specs.Endings.{end_of_job}
use Rattle.mv_plan.specs.SpoolTasks.{dispatch_all, dismiss, counted, run_steps, ends_kept}
use Rattle.mv_plan.proofs.points.Points.{Point, At, Finished, TooSoon, Astray, ReaderAt, Entering, WaitAt, Arming, Settling, Stage}
use Rattle.mv_plan.proofs.points.Points.{Dispatching, Dismissing, Awaited, ForEntry, ForEnds, ForIdle, ToDismiss, SchedulerAt, Waits}
use Rattle.mv_plan.proofs.points.Points.{Extends, Clears, Releases, awaited_blocks, awaited_count, WriterAt, Keeping, Running, Hand}
use Rattle.mv_plan.proofs.points.Points.{InitiatorAt, Opening, Offering, Pausing, Resuming, Obtaining, Confirming, Freeing, Reading, ToAdd}
use Rattle.mv_plan.proofs.points.Points.{Writing, ToCompare, Compares, Purging, Ending, OfJob, ForScheduler, ForWriter, Closing}
use Rattle.mv_plan.proofs.points.Points.{InJob, on_posted, on_armed, on_settled, lowest_at, if_enough, entering_from, reader_asks}
use Rattle.mv_plan.proofs.points.Points.{reader_goes, writing_from, writer_asks, writer_goes}
use Rattle.mv_calls.specs.Posts.{posting}
use Rattle.mv_plan.proofs.deck.{Facts}

-- a point's program, and those of programs that have ended
abbrev pub program_at : {X : Type 0} → (X → Program (List ℕ)) → Point X → Program (List ℕ)
program_at f (At x) = f x
program_at f (Finished answer) = Done answer
program_at f TooSoon = Early
program_at f Astray = Wrong

-- a post, and one that an exit asks for
abbrev pub posting_now : Setup → ℕ → ℕ → Program PostAnswer
posting_now c e code = post_within (suc (length c.owners - 1)) c code e

abbrev pub posting_next : Setup → ℕ → ℕ → Program PostAnswer
posting_next c code e = post_within (suc (length c.owners - 2)) c code e

-- ---- the reader, for any number of jobs

abbrev pub reading_later : Setup → ℕ → ℕ → Call (List ℕ)
reading_later c j more = for_each (range_with_len j more) (λ j. post c (entered j) 0) (finished [])

abbrev pub reader_program : Setup → Kept → ReaderAt → Program (List ℕ)
reader_program c kept (Entering j more) = going_on kept (posting_now c (entered j) 0) (λ posted. reading_later c (j + 1) more)

-- ---- a wait

abbrev pub wait_program : ℕ → List ℕ → WaitAt → Program (Result (List WaitSlot) Refusal)
wait_program count es (Arming e todo) = arm_all (e ∷ todo) (settle_all es [] (enough count))
wait_program count es (Settling e todo found) = settle_all (e ∷ todo) found (enough count)

-- ---- the scheduler, where there are n jobs

abbrev pub dismissals : Setup → ℕ → ℕ → ℕ → Call (List ℕ)
dismissals c n i more = for_each (range_with_len i more) (dismiss c n) (finished [])

-- what follows an initiator's code
abbrev pub stage_call : Setup → ℕ → ℕ → Stage → Call (List ℕ)
stage_call c n initiators (Dispatching j jobs) = dispatch_all c n initiators j jobs (dismissals c n 0 initiators)
stage_call c n initiators (Dismissing i more) = dismissals c n i more

-- a call within the dispatch of a job or the dismissal of an initiator, and what follows that
abbrev pub staged : Setup → ℕ → ℕ → Stage → Kept → Program (Unit {0}) → Program (List ℕ)
staged c n initiators after kept p = going_on kept p (λ handed. stage_call c n initiators after)

-- a job's wait for an initiator, and the extend in front of it
abbrev pub handing : Setup → ℕ → ℕ → ℕ → Bool → Call (Unit {0})
handing c n initiators j skipped = first_of c (map (idle n) (range_with_len 0 initiators)) (hand_over c n (code_of j skipped))

abbrev pub extending : Setup → ℕ → ℕ → ℕ → Bool → Call (Unit {0})
extending c n initiators j skipped = accepted (extend c (done n j) (j + 1)) (λ linked. handing c n initiators j skipped)

-- what follows the job's or the initiator's wait within it
abbrev pub awaited_then : Setup → ℕ → ℕ → Awaited → List WaitSlot → Call (Unit {0})
awaited_then c n initiators (ForEntry j job jobs) = lowest (λ position zero_code. ends_awaited c n job.after (extending c n initiators j)) 0
awaited_then c n initiators (ForEnds j job jobs) = λ slots. extending c n initiators j (some_end_above job.after slots)
awaited_then c n initiators (ForIdle j job jobs skipped) = lowest (hand_over c n (code_of j skipped)) 0
awaited_then c n initiators (ToDismiss i more) = lowest (λ position generation. hand_over c n 0 i generation) 0

abbrev pub awaited_stage : Awaited → Stage
awaited_stage (ForEntry j job jobs) = Dispatching (j + 1) jobs
awaited_stage (ForEnds j job jobs) = Dispatching (j + 1) jobs
awaited_stage (ForIdle j job jobs skipped) = Dispatching (j + 1) jobs
awaited_stage (ToDismiss i more) = Dismissing (i + 1) more

abbrev pub scheduler_program : Setup → ℕ → ℕ → Kept → SchedulerAt → Program (List ℕ)
scheduler_program c n initiators kept (Waits a w) = staged c n initiators (awaited_stage a) kept
    (going_on kept (wait_program (awaited_count a) (awaited_blocks n initiators a) w) (unrefused (awaited_then c n initiators a)))
scheduler_program c n initiators kept (Extends j job jobs skipped) = staged c n initiators (Dispatching (j + 1) jobs) kept
    (going_on kept (Do (Ecb (done n j)) (Op.Ecb (EcbOp.Extend (j + 1))) (λ h. on_ecb h.entry.reply extended))
    (unrefused (λ linked. handing c n initiators j skipped)))
scheduler_program c n initiators kept (Clears i g code after) = staged c n initiators after kept
    (going_on kept (Do (Ecb (idle n i)) (Op.Ecb EcbOp.Clear) (λ h. on_ecb h.entry.reply (the_word (λ w. Done (Ok w)))))
    (unrefused (λ word.
    accepted (release (token_of (initiator i) g) code) (λ reached. finished tt))))
scheduler_program c n initiators kept (Releases i g code after) = staged c n initiators after kept
    (accepted (release (token_of (initiator i) g) code) (λ reached. finished tt) kept)

-- ---- the writer

abbrev pub writing_later : Setup → ℕ → ℕ → ℕ → List ℕ → Call (List ℕ)
writing_later c n j more ends = ends_kept c n ends (range_with_len j more)

abbrev pub writer_program : Setup → ℕ → Kept → WriterAt → Program (List ℕ)
writer_program c n kept (Keeping j more ends w) =
    going_on kept (wait_program 1 (end_for_writer n j ∷ []) w)
    (unrefused (lowest (λ position end. writing_later c n (j + 1) more (ends ++ end ∷ [])) 0))

-- ---- initiator i

abbrev pub rounds_later : Setup → List JobData → ℕ → ℕ → List ℕ → ℕ → Call (List ℕ)
rounds_later c deck i more before g = rounds c deck i more before (token_of (initiator i) g)

-- what follows a pause that was given a code
abbrev pub given_later : Setup → List JobData → ℕ → ℕ → List ℕ → Given → Call (List ℕ)
given_later c deck i more before gift = if gift.code == 0 then accepted (deallocate c gift.next) (λ closed. finished [])
    else named_by (job_named (length deck) gift.code) before more (λ named.
    followed (run_job c deck named) (λ counts. rounds c deck i more (before ++ named.job ∷ []) gift.next))

-- what is left of a job's end, and then the rounds that are left
abbrev pub ending : Setup → List JobData → ℕ → Running → Kept → Program Purged → Program (List ℕ)
ending c deck i run kept p = going_on kept p (λ counts. rounds_later c deck i run.more (run.before ++ run.job ∷ []) run.generation)

-- what is left of a job's steps, and then its end
abbrev pub stepping : Setup → List JobData → ℕ → Running → Kept → Program ℕ → Program (List ℕ)
stepping c deck i run kept p = ending c deck i run kept
    (going_on kept p (λ code. end_of_job c (run.job + 1) (done (length deck) run.job) code))

abbrev pub steps_later : Setup → Running → Hand → List Step → Call ℕ
steps_later c run hand steps = run_steps c (run.job + 1) hand.requests steps

-- what follows an obtain
abbrev pub obtained_later : Setup → Running → Hand → ℕ → List Step → ℕ → Call ℕ
obtained_later c run hand latch steps id = run_steps c (run.job + 1) (with_at hand.requests latch (Some id)) steps

abbrev pub initiator_program : Setup → List JobData → ℕ → Kept → InitiatorAt → Program (List ℕ)
initiator_program c deck i kept Opening =
    going_on kept (Do (Element (initiator i)) (Op.Element ElementOp.Open) (λ h. on_element h.entry.reply (opened (initiator i))))
    (unrefused (rounds c deck i (length deck + 1) []))
initiator_program c deck i kept (Offering more before g) =
    going_on kept (posting_now c (idle (length deck) i) g)
    (λ posted. accepted (pause c (token_of (initiator i) g)) (given_later c deck i more before))
initiator_program c deck i kept (Pausing more before g) =
    going_on kept (Do (Element (initiator i)) (Op.Element (ElementOp.Pause g))
    (λ h. on_element h.entry.reply (paused (initiator i) g))) (unrefused (given_later c deck i more before))
initiator_program c deck i kept (Resuming more before g) =
    going_on kept (Do (Element (initiator i)) (Op.Element (ElementOp.Resume g))
    (λ h. on_element h.entry.reply (resumed (initiator i)))) (unrefused (given_later c deck i more before))
initiator_program c deck i kept (InJob run (Obtaining hand latch mode steps)) = stepping c deck i run kept (going_on kept
    (Do Latches (Op.Latch (LatchOp.Obtain latch (run.job + 1) mode LatchForm.Waiting))
    (λ h. on_latch h.entry.reply (obtained latch LatchForm.Waiting)))
    (unrefused (granted_as (obtained_later c run hand latch steps))))
initiator_program c deck i kept (InJob run (Confirming hand latch mode id steps)) = stepping c deck i run kept (going_on kept
    (Do Latches (Op.Latch (LatchOp.Confirm latch id)) (λ h. on_latch h.entry.reply (confirmed id)))
    (unrefused (granted_as (obtained_later c run hand latch steps))))
initiator_program c deck i kept (InJob run (Freeing hand latch id steps)) = stepping c deck i run kept (going_on kept
    (Do Latches (Op.Latch (LatchOp.Release latch id false)) (λ h. on_latch h.entry.reply (let_go c false h.wakes kept)))
    (unrefused (λ granted. steps_later c run hand steps)))
initiator_program c deck i kept (InJob run (Reading hand volume (ToAdd amount) steps)) = stepping c deck i run kept (going_on kept
    (Do (Volume volume) (Op.Volume VolumeOp.Read) (λ h. on_volume h.entry.reply the_value))
    (counted volume amount (steps_later c run hand steps)))
initiator_program c deck i kept (InJob run (Writing hand volume amount number steps)) = stepping c deck i run kept (going_on kept
    (Do (Volume volume) (Op.Volume (VolumeOp.Write (number + amount))) (λ h. on_volume h.entry.reply stored))
    (λ stored. steps_later c run hand steps))
initiator_program c deck i kept (InJob run (Reading hand volume ToCompare steps)) = stepping c deck i run kept (going_on kept
    (Do (Volume volume) (Op.Volume VolumeOp.Read) (λ h. on_volume h.entry.reply the_value))
    (λ once. followed (read_volume volume) (λ again. steps_later c run hand steps)))
initiator_program c deck i kept (InJob run (Reading hand volume (Compares number) steps)) = stepping c deck i run kept (going_on kept
    (Do (Volume volume) (Op.Volume VolumeOp.Read) (λ h. on_volume h.entry.reply the_value))
    (λ again. steps_later c run hand steps))
initiator_program c deck i kept (InJob run (Purging hand code)) = ending c deck i run kept (and_then
    (Do Latches (Op.Latch (LatchOp.Purge (run.job + 1))) (λ h. on_latch h.entry.reply (purged c h.wakes kept)))
    (λ counts. wake_posted c (Some (done (length deck) run.job)) code kept (Done counts)))
initiator_program c deck i kept (InJob run (Ending OfJob code counts)) =
    ending c deck i run kept (and_then (posting_now c (done (length deck) run.job) code) (λ p. Done counts))
initiator_program c deck i kept (InJob run (Ending ForScheduler code counts)) = ending c deck i run kept (and_then (and_then
    (posting_next c code (end_for_scheduler (length deck) run.job))
    (λ p. each_posted (posting_next c code) (end_for_writer (length deck) run.job ∷ []) Woke))
    (λ p. Done counts))
initiator_program c deck i kept (InJob run (Ending ForWriter code counts)) = ending c deck i run kept (and_then (and_then
    (posting_next c code (end_for_writer (length deck) run.job))
    (λ p. each_posted (posting_next c code) [] Woke))
    (λ p. Done counts))
initiator_program c deck i kept (Closing g) = going_on kept
    (Do (Element (initiator i)) (Op.Element (ElementOp.Close g)) (λ h. on_element h.entry.reply closed))
    (unrefused (λ closed. finished []))

-- ---- posts and waits

-- a post is its own first event
pub post_is_now : (c : Setup) (e code : ℕ) (kept : Kept) → 1 ≤ length c.owners → post c e code kept ≡ posting_now c e code
post_is_now c e code kept le = grind (arith, common_steps)

-- a reply to a post that starts no exit's posts
abbrev pub IsPlainPost : Reply → Type 0
IsPlainPost (Reply.Ecb (EcbReply.Woke (suc x))) = ⊥
IsPlainPost r = Unit {0}

-- what a reply to a plain post leads to, where g is what goes on
posted_goes : {X : Type 0} (c : Setup) (each : ℕ → Program PostAnswer) (g : Program PostAnswer → Program (List ℕ))
    (f : X → Program (List ℕ)) (pt : Point X) (r : Reply)
    → ((a : PostAnswer) → g (Done a) ≡ program_at f pt) → g Wrong ≡ Wrong → IsPlainPost r
    → g (on_ecb r (λ x. posting (λ a. each_posted each (posted_next c x) a) x)) ≡ program_at f (on_posted pt r)
posted_goes c each g f pt r done lost plain = grind (arith, common_steps)

-- what a reply to an arm leads to
pub armed_goes : {A X : Type 0} (g : Program A → Program (List ℕ)) (f : X → Program (List ℕ)) (p : Program A) (pt : Point X) (r : Reply)
    → g p ≡ program_at f pt → g Wrong ≡ Wrong → g (on_ecb r (armed p)) ≡ program_at f (on_armed pt r)
armed_goes g f p pt r same lost = grind (arith, common_steps)

-- and to a settle
pub settled_goes : {A X : Type 0} (g : Program A → Program (List ℕ)) (f : X → Program (List ℕ)) (p : WaitSlot → Program A)
    (pt : WaitSlot → Point X) (r : Reply)
    → ((slot : WaitSlot) → g (p slot) ≡ program_at f (pt slot)) → g Wrong ≡ Wrong
    → g (on_ecb r (settled p)) ≡ program_at f (on_settled pt r)
settled_goes g f p pt r same lost = grind (arith, common_steps)

-- the lowest that was found complete, at a position below a bound
pub lowest_goes : {A X : Type 0} (g : Program A → Program (List ℕ)) (f : X → Program (List ℕ)) (call : ℕ → ℕ → Call A)
    (pt : ℕ → ℕ → Point X) (kept : Kept)
    (p bound : ℕ) (found : List WaitSlot) → p + length found ≤ bound
    → ((i code : ℕ) → i < bound → g (call i code kept) ≡ program_at f (pt i code)) → g Wrong ≡ Wrong
    → g (lowest call p found kept) ≡ program_at f (lowest_at pt p found)
lowest_goes g f call pt kept p bound (WaitSlot.Open ∷ found) le same lost =
    lowest_goes g f call pt kept (p + 1) bound found (omega arith) same lost
lowest_goes g f call pt kept p bound found le same lost = grind (arith, common_steps)

-- enough were found, or the wait ended too soon
pub enough_goes : {X : Type 0} (g : Program (Result (List WaitSlot) Refusal) → Program (List ℕ)) (f : X → Program (List ℕ))
    (count : ℕ) (found : List WaitSlot) (pt : Point X)
    → g (Done (Ok found)) ≡ program_at f pt → g Early ≡ Early → g (enough count found) ≡ program_at f (if_enough count found pt)
enough_goes g f count found pt same early = grind (arith, common_steps)

-- ---- what holds of a point after a post, an arm or a settle

pub on_posted_keeps : {X : Type 0} (P : Point X → Type 0) (pt : Point X) (r : Reply) → P pt → P Astray → P (on_posted pt r)
on_posted_keeps x pt r p a = grind (arith, common_steps)

pub on_armed_keeps : {X : Type 0} (P : Point X → Type 0) (pt : Point X) (r : Reply) → P pt → P Astray → P (on_armed pt r)
on_armed_keeps x pt r p a = grind (arith, common_steps)

pub on_settled_keeps : {X : Type 0} (P : Point X → Type 0) (pt : WaitSlot → Point X) (r : Reply) → ((slot : WaitSlot) → P (pt slot))
    → P Astray → P (on_settled pt r)
on_settled_keeps x pt r p a = grind (arith, common_steps)

pub lowest_keeps : {X : Type 0} (P : Point X → Type 0) (f : ℕ → ℕ → Point X) (p : ℕ) (found : List WaitSlot)
    → ((i code : ℕ) → P (f i code)) → P Astray → P (lowest_at f p found)
lowest_keeps P f p (WaitSlot.Open ∷ found) each lost = lowest_keeps P f (p + 1) found each lost
lowest_keeps P f p found each lost = grind (arith, common_steps)

-- ---- what is kept after an event

-- what is kept after what was heard
abbrev pub keeps : Kept → Object × Op → Reply → Kept
keeps kept ask r = kept_after kept ask.0 ask.1 r

-- ---- the reader, from point to point

pub reader_enters : (c : Setup) (j more : ℕ) (kept : Kept) → 1 ≤ length c.owners
    → reading_later c j more kept ≡ program_at (reader_program c kept) (entering_from j more)
reader_enters c j zero kept le = refl
reader_enters c j (suc more) kept le =
    ap (λ p. going_on kept p (λ posted. reading_later c (j + 1) more)) (post_is_now c (entered j) 0 kept le)

pub reader_says : (c : Setup) (kept : Kept) (x : ReaderAt) → asks (reader_program c kept x) ≡ Some (reader_asks x)
reader_says c kept (Entering j more) = refl

pub reader_hears : (c : Setup) (kept : Kept) (x : ReaderAt) (h : Heard) → 1 ≤ length c.owners → IsPlainPost h.entry.reply
    → heard (reader_program c kept x) h ≡ program_at (reader_program c (keeps kept (reader_asks x) h.entry.reply))
    (reader_goes x h.entry.reply)
reader_hears c kept x h le plain = grind (arith, common_steps, posted_goes, reader_enters)

-- where it may stand, with n jobs
abbrev pub IsReaderAt : ℕ → Point ReaderAt → Type 0
IsReaderAt n (At (Entering j more)) = j + suc more ≡ n
IsReaderAt n p = Unit {0}

-- ---- the writer, from point to point

-- what the writer keeps: no block is extended
pub record WriterKept (initiators : ℕ) (kept : Kept) : Type 0 where
  pub caller : kept.caller ≡ writer initiators
  pub plain : (e : ℕ) → kept.extended e ≡ false

-- where it may stand, with n jobs
abbrev pub IsWriterAt : ℕ → Point WriterAt → Type 0
IsWriterAt n (At (Keeping j more ends (Arming e todo))) = (j + suc more ≡ n) × (e ≡ end_for_writer n j) × (todo ≡ [])
IsWriterAt n (At (Keeping j more ends (Settling e todo found))) = (j + suc more ≡ n) × (e ≡ end_for_writer n j) × (todo ≡ []) × (found ≡ [])
IsWriterAt n p = Unit {0}

pub writer_enters : (c : Setup) (n initiators j more : ℕ) (ends : List ℕ) (kept : Kept) → Facts c n initiators
    → WriterKept initiators kept → j + more ≡ n
    → writing_later c n j more ends kept ≡ program_at (writer_program c n kept) (writing_from n j more ends)
writer_enters c n initiators j x ends kept facts w e = grind (arith, common_steps)

pub writer_says : (c : Setup) (n : ℕ) (kept : Kept) (x : WriterAt) → asks (writer_program c n kept x) ≡ Some (writer_asks x)
writer_says c n kept x = grind (arith, common_steps)

module _ (c : Setup) (n initiators : ℕ) (facts : Facts c n initiators) where
  pub writer_hears : (kept : Kept) (x : WriterAt) (h : Heard) → WriterKept initiators kept → IsWriterAt n (At x)
      → heard (writer_program c n kept x) h ≡ program_at (writer_program c n (keeps kept (writer_asks x) h.entry.reply))
      (writer_goes n x h.entry.reply)
  writer_hears kept x h w at = grind (arith, common_steps)
