-- Where a task of the spool stands: the point of its program, the event that it says there, and the point that follows by the
-- reply. Points of the four tasks are four data; both functions compute, so all later cases are cases of points and replies. Then what
-- is read off a point or an element: whether a task is lost, which jobs an initiator was named, what the scheduler is about and which
-- job is next, and the code that an element holds. And where an initiator may land: what holds where it is astray, and at each point
-- that may follow, holds of the one that does.
use Rattle.mv_plan.proofs.Words.{ℕ, zero, suc, ◌+◌, ◌==◌, nat_le, nat_lt, Bool, true, false, not, List, [], ◌∷◌, ◌++◌, length, map, filter}
use Rattle.mv_plan.proofs.Words.{Option, Some, None, if◌then◌else◌, ◌^◌, list_any, range_with_len, Mode, Object, Ecb, Element, Volume, Op}
use Rattle.mv_plan.proofs.Words.{Latches, Reply, with_at, JobData, Step, Print, Use, Count, Scan, Abend, Return, job_at, not_run, Purged}
use Rattle.mv_plan.proofs.Words.{entered, end_for_scheduler, end_for_writer, idle, initiator, Named, job_named, code_of, some_end_above}
use Rattle.mv_plan.proofs.Words.{ends_of, complete_count, Free, done, EcbOp, EcbReply, ElementOp, ElementReply, LatchOp, LatchReply, ◌-◌}
use Rattle.mv_plan.proofs.Words.{LatchForm, VolumeOp, VolumeReply, ElementState, ◌≡◌, refl, eqb-true, rules, arith, common_steps, WaitSlot}
use Rattle.mv_element.specs.declared.element.Phase.{Phase}
use Rattle.mv_element.specs.declared.element.Phase.TheVariants.{Reset, Prereleased, Paused, Released}

-- a task is at a point of its program, or that has ended: with its answer, too soon, or by a reply that nothing foresees
pub data Point (X : Type 0) : Type 0 where
  At : (x : X) → Point X
  Finished : (answer : List ℕ) → Point X
  TooSoon : Point X
  Astray : Point X

-- ---- points by a reply

-- after a post that starts no exit
abbrev pub on_posted : {X : Type 0} → Point X → Reply → Point X
on_posted p (Reply.Ecb EcbReply.Posted) = p
on_posted p (Reply.Ecb (EcbReply.Woke x)) = p
on_posted p (Reply.Ecb (EcbReply.Already code)) = p
on_posted p r = Astray

abbrev pub on_armed : {X : Type 0} → Point X → Reply → Point X
on_armed p (Reply.Ecb EcbReply.Armed) = p
on_armed p (Reply.Ecb (EcbReply.Complete code)) = p
on_armed p r = Astray

abbrev pub on_settled : {X : Type 0} → (WaitSlot → Point X) → Reply → Point X
on_settled f (Reply.Ecb (EcbReply.Complete code)) = f (WaitSlot.Complete code)
on_settled f (Reply.Ecb EcbReply.Open) = f WaitSlot.Open
on_settled f r = Astray

-- ---- the reader: job j is entered, and as many later ones are still to be entered
pub data ReaderAt : Type 0 where
  Entering : (j more : ℕ) → ReaderAt

abbrev pub entering_from : ℕ → ℕ → Point ReaderAt
entering_from j zero = Finished []
entering_from j (suc more) = At (Entering j more)

abbrev pub reader_asks : ReaderAt → Object × Op
reader_asks (Entering j more) = (Ecb (entered j), Op.Ecb (EcbOp.Post 0))

abbrev pub reader_goes : ReaderAt → Reply → Point ReaderAt
reader_goes (Entering j more) r = on_posted (entering_from (j + 1) more) r

-- ---- a wait: a block is armed or settled, and then these; with what was found at those before
pub data WaitAt : Type 0 where
  Arming : (e : ℕ) (todo : List ℕ) → WaitAt
  Settling : (e : ℕ) (todo : List ℕ) (found : List WaitSlot) → WaitAt

abbrev pub wait_asks : WaitAt → Object × Op
wait_asks (Arming e todo) = (Ecb e, Op.Ecb EcbOp.Arm)
wait_asks (Settling e todo found) = (Ecb e, Op.Ecb EcbOp.Settle)

abbrev pub lowest_at : {X : Type 0} → (ℕ → ℕ → Point X) → ℕ → List WaitSlot → Point X
lowest_at f p [] = Astray
lowest_at f p (WaitSlot.Complete code ∷ slots) = f p code
lowest_at f p (WaitSlot.Open ∷ slots) = lowest_at f (p + 1) slots

-- where enough were found
abbrev pub if_enough : {X : Type 0} → ℕ → List WaitSlot → Point X → Point X
if_enough count found p = if nat_le count (complete_count found) then p else TooSoon

-- ---- the scheduler

-- what is still to be done after an initiator was handed a code: these jobs, the first of them with number j; or initiator i
-- and so many later ones are to be dismissed
pub data Stage : Type 0 where
  Dispatching : (j : ℕ) (jobs : List JobData) → Stage
  Dismissing : (i more : ℕ) → Stage

-- what it waits for: the entry of job j, the ends that the job waits for, an initiator for it, and an initiator that is to be
-- dismissed; with the jobs or initiators after it
pub data Awaited : Type 0 where
  ForEntry : (j : ℕ) (job : JobData) (jobs : List JobData) → Awaited
  ForEnds : (j : ℕ) (job : JobData) (jobs : List JobData) → Awaited
  ForIdle : (j : ℕ) (job : JobData) (jobs : List JobData) (skipped : Bool) → Awaited
  ToDismiss : (i more : ℕ) → Awaited

pub data SchedulerAt : Type 0 where
  Waits : (a : Awaited) (w : WaitAt) → SchedulerAt
  Extends : (j : ℕ) (job : JobData) (jobs : List JobData) (skipped : Bool) → SchedulerAt
  -- initiator i gave generation g, and gets this code
  Clears : (i g code : ℕ) (after : Stage) → SchedulerAt
  Releases : (i g code : ℕ) (after : Stage) → SchedulerAt

-- n is the number of jobs
abbrev pub awaited_blocks : ℕ → ℕ → Awaited → List ℕ
awaited_blocks n initiators (ForEntry j job jobs) = entered j ∷ []
awaited_blocks n initiators (ForEnds j job jobs) = ends_of n job.after
awaited_blocks n initiators (ForIdle j job jobs skipped) = map (idle n) (range_with_len 0 initiators)
awaited_blocks n initiators (ToDismiss i more) = idle n i ∷ []

abbrev pub awaited_count : Awaited → ℕ
awaited_count (ForEntry j job jobs) = 1
awaited_count (ForEnds j job jobs) = length job.after
awaited_count (ForIdle j job jobs skipped) = 1
awaited_count (ToDismiss i more) = 1

abbrev pub scheduler_asks : ℕ → SchedulerAt → Object × Op
scheduler_asks n (Waits a w) = wait_asks w
scheduler_asks n (Extends j job jobs skipped) = (Ecb (done n j), Op.Ecb (EcbOp.Extend (j + 1)))
scheduler_asks n (Clears i g code after) = (Ecb (idle n i), Op.Ecb EcbOp.Clear)
scheduler_asks n (Releases i g code after) = (Element (initiator i), Op.Element (ElementOp.Release g code))

-- the first point of a wait for these blocks
abbrev pub arming_first : Awaited → List ℕ → Point SchedulerAt
arming_first a [] = Astray
arming_first a (e ∷ es) = At (Waits a (Arming e es))

abbrev pub ends_at : ℕ → ℕ → JobData → List JobData → Point SchedulerAt
ends_at n j job jobs = elim job.after [
  | [] ↦ At (Extends j job jobs false)
  | part ∷ parts ↦ At (Waits (ForEnds j job jobs) (Arming (end_for_scheduler n part.job) (ends_of n parts)))
]

abbrev pub dismissing_from : ℕ → ℕ → ℕ → Point SchedulerAt
dismissing_from n i zero = Finished []
dismissing_from n i (suc more) = At (Waits (ToDismiss i more) (Arming (idle n i) []))

abbrev pub stage_at : ℕ → ℕ → Stage → Point SchedulerAt
stage_at n initiators (Dispatching j []) = dismissing_from n 0 initiators
stage_at n initiators (Dispatching j (job ∷ jobs)) = At (Waits (ForEntry j job jobs) (Arming (entered j) []))
stage_at n initiators (Dismissing i more) = dismissing_from n i more

-- after a wait that found these, where they are enough
abbrev pub found_at : ℕ → Awaited → List WaitSlot → Point SchedulerAt
found_at n (ForEntry j job jobs) found = lowest_at (λ p code. ends_at n j job jobs) 0 found
found_at n (ForEnds j job jobs) found = At (Extends j job jobs (some_end_above job.after found))
found_at n (ForIdle j job jobs skipped) found = lowest_at (λ i g. At (Clears i g (code_of j skipped) (Dispatching (j + 1) jobs))) 0 found
found_at n (ToDismiss i more) found = lowest_at (λ p g. At (Clears i g 0 (Dismissing (i + 1) more))) 0 found

abbrev pub settling_from : ℕ → Awaited → List ℕ → List WaitSlot → Point SchedulerAt
settling_from n a [] found = if_enough (awaited_count a) found (found_at n a found)
settling_from n a (e ∷ es) found = At (Waits a (Settling e es found))

abbrev pub arming_from : ℕ → ℕ → Awaited → List ℕ → Point SchedulerAt
arming_from n initiators a [] = settling_from n a (awaited_blocks n initiators a) []
arming_from n initiators a (e ∷ es) = At (Waits a (Arming e es))

-- the jobs' extends, clears and releases by their replies
abbrev pub on_extended : Point SchedulerAt → Reply → Point SchedulerAt
on_extended p (Reply.Ecb EcbReply.Armed) = p
on_extended p r = Astray

abbrev pub on_cleared : Point SchedulerAt → Reply → Point SchedulerAt
on_cleared p (Reply.Ecb (EcbReply.Word w)) = p
on_cleared p r = Astray

abbrev pub on_released : Point SchedulerAt → Reply → Point SchedulerAt
on_released p (Reply.Element ElementReply.Early) = p
on_released p (Reply.Element ElementReply.Woke) = p
on_released p r = Astray

abbrev pub scheduler_goes : ℕ → ℕ → SchedulerAt → Reply → Point SchedulerAt
scheduler_goes n initiators (Waits a (Arming e todo)) r = on_armed (arming_from n initiators a todo) r
scheduler_goes n initiators (Waits a (Settling e todo found)) r = on_settled (λ slot. settling_from n a todo (found ++ slot ∷ [])) r
scheduler_goes n initiators (Extends j job jobs skipped) r =
    on_extended (arming_first (ForIdle j job jobs skipped) (awaited_blocks n initiators (ForIdle j job jobs skipped))) r
scheduler_goes n initiators (Clears i g code after) r = on_cleared (At (Releases i g code after)) r
scheduler_goes n initiators (Releases i g code after) r = on_released (stage_at n initiators after) r

-- ---- the writer: it waits for the end of job j, and as many later ones are still to come; it has kept these ends
pub data WriterAt : Type 0 where
  Keeping : (j more : ℕ) (ends : List ℕ) (w : WaitAt) → WriterAt

abbrev pub writing_from : ℕ → ℕ → ℕ → List ℕ → Point WriterAt
writing_from n j zero ends = Finished ends
writing_from n j (suc more) ends = At (Keeping j more ends (Arming (end_for_writer n j) []))

abbrev pub writer_asks : WriterAt → Object × Op
writer_asks (Keeping j more ends w) = wait_asks w

-- a wait for one block that found these
abbrev pub end_found : ℕ → ℕ → ℕ → List ℕ → List WaitSlot → Point WriterAt
end_found n j more ends found = if_enough 1 found (lowest_at (λ p end. writing_from n (j + 1) more (ends ++ end ∷ [])) 0 found)

abbrev pub writer_settling : ℕ → ℕ → ℕ → List ℕ → List ℕ → List WaitSlot → Point WriterAt
writer_settling n j more ends [] found = end_found n j more ends found
writer_settling n j more ends (e ∷ es) found = At (Keeping j more ends (Settling e es found))

abbrev pub writer_arming : ℕ → ℕ → ℕ → List ℕ → List ℕ → Point WriterAt
writer_arming n j more ends [] = At (Keeping j more ends (Settling (end_for_writer n j) [] []))
writer_arming n j more ends (e ∷ es) = At (Keeping j more ends (Arming e es))

abbrev pub writer_goes : ℕ → WriterAt → Reply → Point WriterAt
writer_goes n (Keeping j more ends (Arming e todo)) r = on_armed (writer_arming n j more ends todo) r
writer_goes n (Keeping j more ends (Settling e todo found)) r =
    on_settled (λ slot. writer_settling n j more ends todo (found ++ slot ∷ [])) r

-- ---- an initiator

-- a latch that the running job holds, how, and its request's number
pub record Grant : Type 0 where
  pub latch : ℕ
  pub mode : Mode
  pub id : ℕ

-- the running job, whether it is not to be run, the jobs that were named before it, how many rounds are left, and the generation
-- that the element has
pub record Running : Type 0 where
  pub job : ℕ
  pub skipped : Bool
  pub before : List ℕ
  pub more : ℕ
  pub generation : ℕ

-- the requests that the job last had at the latches, and the latches that it holds
pub record Hand : Type 0 where
  pub requests : ℕ → Option ℕ
  pub holding : List Grant

abbrev pub empty_hand : Hand
empty_hand = record { requests = λ latch. None; holding = [] }

abbrev pub hand_with : Hand → ℕ → Mode → ℕ → Hand
hand_with hand latch mode id = record {
  requests = with_at hand.requests latch (Some id);
  holding = hand.holding ++ record { latch = latch; mode = mode; id = id } ∷ [];
}

abbrev pub without_latch : ℕ → List Grant → List Grant
without_latch latch hs = filter (λ g. not (g.latch == latch)) hs

abbrev pub hand_without : Hand → ℕ → Hand
hand_without hand latch = record { requests = hand.requests; holding = without_latch latch hand.holding }

-- the posts of a job's end: that to its done block, and the two of that block's exit
pub data EndPost : Type 0 where
  OfJob : EndPost
  ForScheduler : EndPost
  ForWriter : EndPost

-- and its block, where n is the number of jobs
abbrev pub end_block : ℕ → ℕ → EndPost → ℕ
end_block n job OfJob = done n job
end_block n job ForScheduler = end_for_scheduler n job
end_block n job ForWriter = end_for_writer n job

-- what a volume is read for: a COUNT adds an amount to the number; a SCAN reads a number, and then compares it with a second one
pub data Purpose : Type 0 where
  ToAdd : (amount : ℕ) → Purpose
  ToCompare : Purpose
  Compares : (number : ℕ) → Purpose

-- in a job
pub data JobAt : Type 0 where
  -- its steps, with those that follow
  Obtaining : (hand : Hand) (latch : ℕ) (mode : Mode) (steps : List Step) → JobAt
  Confirming : (hand : Hand) (latch : ℕ) (mode : Mode) (id : ℕ) (steps : List Step) → JobAt
  Freeing : (hand : Hand) (latch id : ℕ) (steps : List Step) → JobAt
  Reading : (hand : Hand) (volume : ℕ) (purpose : Purpose) (steps : List Step) → JobAt
  Writing : (hand : Hand) (volume amount number : ℕ) (steps : List Step) → JobAt
  -- its end with its code: the purge, and the posts
  Purging : (hand : Hand) (code : ℕ) → JobAt
  Ending : (post : EndPost) (code : ℕ) (counts : Purged) → JobAt

-- what it has in hand there
abbrev pub hand_at : JobAt → Hand
hand_at (Obtaining hand latch mode steps) = hand
hand_at (Confirming hand latch mode id steps) = hand
hand_at (Freeing hand latch id steps) = hand
hand_at (Reading hand volume purpose steps) = hand
hand_at (Writing hand volume amount number steps) = hand
hand_at (Purging hand code) = hand
hand_at (Ending post code counts) = empty_hand

pub data InitiatorAt : Type 0 where
  Opening : InitiatorAt
  -- a round: so many rounds are left after it, these jobs were named before, and the element has generation g
  Offering : (more : ℕ) (before : List ℕ) (g : ℕ) → InitiatorAt
  Pausing : (more : ℕ) (before : List ℕ) (g : ℕ) → InitiatorAt
  Resuming : (more : ℕ) (before : List ℕ) (g : ℕ) → InitiatorAt
  InJob : (run : Running) (w : JobAt) → InitiatorAt
  Closing : (g : ℕ) → InitiatorAt

-- initiator i, where there are n jobs
abbrev pub initiator_asks : ℕ → ℕ → InitiatorAt → Object × Op
initiator_asks n i Opening = (Element (initiator i), Op.Element ElementOp.Open)
initiator_asks n i (Offering more before g) = (Ecb (idle n i), Op.Ecb (EcbOp.Post g))
initiator_asks n i (Pausing more before g) = (Element (initiator i), Op.Element (ElementOp.Pause g))
initiator_asks n i (Resuming more before g) = (Element (initiator i), Op.Element (ElementOp.Resume g))
initiator_asks n i (InJob run (Obtaining hand latch mode steps)) =
    (Latches, Op.Latch (LatchOp.Obtain latch (run.job + 1) mode LatchForm.Waiting))
initiator_asks n i (InJob run (Confirming hand latch mode id steps)) = (Latches, Op.Latch (LatchOp.Confirm latch id))
initiator_asks n i (InJob run (Freeing hand latch id steps)) = (Latches, Op.Latch (LatchOp.Release latch id false))
initiator_asks n i (InJob run (Reading hand volume purpose steps)) = (Volume volume, Op.Volume VolumeOp.Read)
initiator_asks n i (InJob run (Writing hand volume amount number steps)) = (Volume volume, Op.Volume (VolumeOp.Write (number + amount)))
initiator_asks n i (InJob run (Purging hand code)) = (Latches, Op.Latch (LatchOp.Purge (run.job + 1)))
initiator_asks n i (InJob run (Ending post code counts)) = (Ecb (end_block n run.job post), Op.Ecb (EcbOp.Post code))
initiator_asks n i (Closing g) = (Element (initiator i), Op.Element (ElementOp.Close g))

-- so many rounds are left
abbrev pub rounds_from : ℕ → List ℕ → ℕ → Point InitiatorAt
rounds_from zero before g = Astray
rounds_from (suc more) before g = At (Offering more before g)

abbrev pub rounds_after : Running → Point InitiatorAt
rounds_after run = rounds_from run.more (run.before ++ run.job ∷ []) run.generation

abbrev pub freeing_at : Running → Hand → ℕ → Option ℕ → List Step → Point InitiatorAt
freeing_at run hand latch None steps = Astray
freeing_at run hand latch (Some id) steps = At (InJob run (Freeing hand latch id steps))

-- a job's steps
abbrev pub steps_at : Running → Hand → List Step → Point InitiatorAt
steps_at run hand [] = At (InJob run (Purging hand 0))
steps_at run hand (Print text ∷ steps) = steps_at run hand steps
steps_at run hand (Use latch mode ∷ steps) = At (InJob run (Obtaining hand latch mode steps))
steps_at run hand (Free latch ∷ steps) = freeing_at run hand latch (hand.requests latch) steps
steps_at run hand (Count volume amount ∷ steps) = At (InJob run (Reading hand volume (ToAdd amount) steps))
steps_at run hand (Scan volume ∷ steps) = At (InJob run (Reading hand volume ToCompare steps))
steps_at run hand (Abend code ∷ steps) = At (InJob run (Purging hand code))
steps_at run hand (Return code ∷ steps) = At (InJob run (Purging hand code))

abbrev pub running : Named → List ℕ → ℕ → ℕ → Running
running named before more g = record { job = named.job; skipped = named.skipped; before = before; more = more; generation = g }

abbrev pub job_start : Bool → Running → JobData → Point InitiatorAt
job_start true run job = At (InJob run (Purging empty_hand not_run))
job_start false run job = steps_at run empty_hand job.steps

abbrev pub named_at : List JobData → Option Named → List ℕ → ℕ → ℕ → Point InitiatorAt
named_at deck None before more g = Astray
named_at deck (Some named) before zero g = Astray
named_at deck (Some named) before (suc more) g =
    if list_any (λ j. j == named.job) before then Astray else job_start named.skipped (running named before (suc more) g)
    (job_at deck named.job)

-- a code was given, and the next generation
abbrev pub given_at : List JobData → ℕ → List ℕ → ℕ → ℕ → Point InitiatorAt
given_at deck more before code g = if code == 0 then At (Closing g) else named_at deck (job_named (length deck) code) before more g

abbrev pub on_opened : Reply → ℕ → Point InitiatorAt
on_opened (Reply.Element (ElementReply.Opened g)) n = rounds_from (n + 1) [] g
on_opened r n = Astray

abbrev pub on_paused : List JobData → ℕ → List ℕ → ℕ → Reply → Point InitiatorAt
on_paused deck more before g (Reply.Element (ElementReply.Given code now)) = given_at deck more before code now
on_paused deck more before g (Reply.Element ElementReply.Parked) = At (Resuming more before g)
on_paused deck more before g r = Astray

abbrev pub on_resumed : List JobData → ℕ → List ℕ → Reply → Point InitiatorAt
on_resumed deck more before (Reply.Element (ElementReply.Given code now)) = given_at deck more before code now
on_resumed deck more before (Reply.Element ElementReply.NotYet) = TooSoon
on_resumed deck more before r = Astray

abbrev pub on_obtained : Running → Hand → ℕ → Mode → List Step → Reply → Point InitiatorAt
on_obtained run hand latch mode steps (Reply.Latch (LatchReply.Granted id)) = steps_at run (hand_with hand latch mode id) steps
on_obtained run hand latch mode steps (Reply.Latch (LatchReply.Queued id)) = At (InJob run (Confirming hand latch mode id steps))
on_obtained run hand latch mode steps r = Astray

abbrev pub on_confirmed : Running → Hand → ℕ → Mode → ℕ → List Step → Reply → Point InitiatorAt
on_confirmed run hand latch mode id steps (Reply.Latch (LatchReply.Granted same)) = steps_at run (hand_with hand latch mode id) steps
on_confirmed run hand latch mode id steps (Reply.Latch LatchReply.Waiting) = TooSoon
on_confirmed run hand latch mode id steps r = Astray

abbrev pub on_freed : Running → Hand → ℕ → List Step → Reply → Point InitiatorAt
on_freed run hand latch steps (Reply.Latch (LatchReply.Released granted)) = steps_at run (hand_without hand latch) steps
on_freed run hand latch steps r = Astray

abbrev pub on_value : (ℕ → Point InitiatorAt) → Reply → Point InitiatorAt
on_value f (Reply.Volume (VolumeReply.Value number)) = f number
on_value f r = Astray

abbrev pub counting_at : Running → Hand → ℕ → ℕ → List Step → ℕ → Point InitiatorAt
counting_at run hand volume amount steps number =
    if nat_lt (number + amount) (2 ^ 32) then At (InJob run (Writing hand volume amount number steps)) else Astray

abbrev pub on_stored : Point InitiatorAt → Reply → Point InitiatorAt
on_stored p (Reply.Volume VolumeReply.Stored) = p
on_stored p r = Astray

abbrev pub on_purged : Running → ℕ → Reply → Point InitiatorAt
on_purged run code (Reply.Latch (LatchReply.Purged removed granted)) =
    At (InJob run (Ending OfJob code (record { removed = removed; granted = granted })))
on_purged run code r = Astray

-- the post of a done block that starts its exit is followed by those of the exit
abbrev pub on_ended : Running → ℕ → Purged → Reply → Point InitiatorAt
on_ended run code counts (Reply.Ecb (EcbReply.Woke (suc x))) = At (InJob run (Ending ForScheduler code counts))
on_ended run code counts r = on_posted (rounds_after run) r

abbrev pub on_closed : Reply → Point InitiatorAt
on_closed (Reply.Element ElementReply.Closed) = Finished []
on_closed r = Astray

abbrev pub initiator_goes : List JobData → InitiatorAt → Reply → Point InitiatorAt
initiator_goes deck Opening r = on_opened r (length deck)
initiator_goes deck (Offering more before g) r = on_posted (At (Pausing more before g)) r
initiator_goes deck (Pausing more before g) r = on_paused deck more before g r
initiator_goes deck (Resuming more before g) r = on_resumed deck more before r
initiator_goes deck (InJob run (Obtaining hand latch mode steps)) r = on_obtained run hand latch mode steps r
initiator_goes deck (InJob run (Confirming hand latch mode id steps)) r = on_confirmed run hand latch mode id steps r
initiator_goes deck (InJob run (Freeing hand latch id steps)) r = on_freed run hand latch steps r
initiator_goes deck (InJob run (Reading hand volume (ToAdd amount) steps)) r = on_value (counting_at run hand volume amount steps) r
initiator_goes deck (InJob run (Writing hand volume amount number steps)) r = on_stored (steps_at run hand steps) r
initiator_goes deck (InJob run (Reading hand volume ToCompare steps)) r =
    on_value (λ number. At (InJob run (Reading hand volume (Compares number) steps))) r
initiator_goes deck (InJob run (Reading hand volume (Compares number) steps)) r = on_value (λ again. steps_at run hand steps) r
initiator_goes deck (InJob run (Purging hand code)) r = on_purged run code r
initiator_goes deck (InJob run (Ending OfJob code counts)) r = on_ended run code counts r
initiator_goes deck (InJob run (Ending ForScheduler code counts)) r = on_posted (At (InJob run (Ending ForWriter code counts))) r
initiator_goes deck (InJob run (Ending ForWriter code counts)) r = on_posted (rounds_after run) r
initiator_goes deck (Closing g) r = on_closed r

-- ---- whether a task is lost

-- a task is on its way, or has ended with its answer
abbrev pub IsNotLost : {X : Type 0} → Point X → Type 0
IsNotLost (At x) = Unit {0}
IsNotLost (Finished answer) = Unit {0}
IsNotLost TooSoon = ⊥
IsNotLost Astray = ⊥

-- a task is not astray
abbrev pub IsForeseen : {X : Type 0} → Point X → Type 0
IsForeseen Astray = ⊥
IsForeseen p = Unit {0}

pub foreseen_of : {X : Type 0} (p : Point X) → IsNotLost p → IsForeseen p
foreseen_of p f = grind (arith, common_steps)

-- ---- the code that an element holds

-- a code that was released to an element and that its pause has not been given
abbrev pub code_at : Phase → ℕ → Option ℕ
code_at Phase.Free code = None
code_at Reset code = None
code_at Prereleased code = Some code
code_at Paused code = None
code_at Released code = Some code

abbrev pub code_held : ElementState → Option ℕ
code_held x = code_at x.phase x.code

-- ---- what is read off an initiator's point

-- the job that it runs
abbrev pub run_of : Point InitiatorAt → Option Running
run_of (At (InJob run w)) = Some run
run_of p = None

-- whether it is at a point of its rounds: before, between and behind jobs, and at the end of a job
abbrev pub IsOfRounds : InitiatorAt → Type 0
IsOfRounds (InJob run (Purging hand code)) = Unit {0}
IsOfRounds (InJob run (Ending post code counts)) = Unit {0}
IsOfRounds (InJob run w) = ⊥
IsOfRounds x = Unit {0}

-- the jobs that an initiator was named, the one that it runs last
abbrev pub jobs_of : Point InitiatorAt → List ℕ
jobs_of (At (Offering more before g)) = before
jobs_of (At (Pausing more before g)) = before
jobs_of (At (Resuming more before g)) = before
jobs_of (At (InJob run w)) = run.before ++ run.job ∷ []
jobs_of p = []

-- ---- what the scheduler is about

-- it hands out job j, or dismisses initiator i, or is at its end
pub data Errand : Type 0 where
  Dispatches : (j : ℕ) → Errand
  Dismisses : (i : ℕ) → Errand
  Finishes : Errand

abbrev pub errand_awaited : Awaited → Errand
errand_awaited (ForEntry j job jobs) = Dispatches j
errand_awaited (ForEnds j job jobs) = Dispatches j
errand_awaited (ForIdle j job jobs skipped) = Dispatches j
errand_awaited (ToDismiss i more) = Dismisses i

abbrev pub errand_in : Stage → Errand
errand_in (Dispatching j jobs) = Dispatches (j - 1)
errand_in (Dismissing m more) = Dismisses (m - 1)

abbrev pub errand : Point SchedulerAt → Errand
errand (At (Waits a w)) = errand_awaited a
errand (At (Extends j job jobs skipped)) = Dispatches j
errand (At (Clears i g code after)) = errand_in after
errand (At (Releases i g code after)) = errand_in after
errand p = Finishes

-- the job that is handed out next, where there are n: every job below was released
abbrev pub next_of : ℕ → Errand → ℕ
next_of n (Dispatches j) = j
next_of n (Dismisses i) = n
next_of n Finishes = n

abbrev pub next_job : ℕ → Point SchedulerAt → ℕ
next_job n p = next_of n (errand p)

-- ---- where an initiator may land

module _ (P : Point InitiatorAt → Type 0) (lost : P Astray) where
  -- a next round
  pub rounds_land : (more : ℕ) (before : List ℕ) (g : ℕ) → ((left : ℕ) → more ≡ suc left → P (At (Offering left before g)))
      → P (rounds_from more before g)
  rounds_land more before g next = grind (arith, common_steps)

  -- a FREE
  pub freeing_lands : (run : Running) (hand : Hand) (latch : ℕ) (slot : Option ℕ) (steps : List Step)
      → ((id : ℕ) → slot ≡ Some id → P (At (InJob run (Freeing hand latch id steps)))) → P (freeing_at run hand latch slot steps)
  freeing_lands run hand latch slot steps next = grind (arith, common_steps)

  -- a COUNT's write
  pub counting_lands : (run : Running) (hand : Hand) (volume amount : ℕ) (steps : List Step) (number : ℕ)
      → P (At (InJob run (Writing hand volume amount number steps))) → P (counting_at run hand volume amount steps number)
  counting_lands run hand volume amount steps number next = grind (arith, common_steps)

  -- behind the post of a done block, which starts its exit or not
  pub ended_lands : (run : Running) (code : ℕ) (counts : Purged) (r : Reply) → P (At (InJob run (Ending ForScheduler code counts)))
      → P (rounds_after run) → P (on_ended run code counts r)
  ended_lands run code counts r starts ends = search rules

  -- behind a code: the end of the rounds, or a job that it names
  pub given_lands : (deck : List JobData) (more : ℕ) (before : List ℕ) (code g : ℕ) → (code ≡ 0 → P (At (Closing g)))
      → ((named : Named) (left : ℕ) → job_named (length deck) code ≡ Some named → list_any (λ j. j == named.job) before ≡ false
      → more ≡ suc left → P (job_start named.skipped (running named before (suc left) g) (job_at deck named.job)))
      → P (given_at deck more before code g)
  given_lands deck more before code g closes starts = given (code == 0) refl where
    named_lands : (slot : Option Named) (more : ℕ)
        → ((named : Named) (left : ℕ) → slot ≡ Some named → list_any (λ j. j == named.job) before ≡ false
        → more ≡ suc left → P (job_start named.skipped (running named before (suc left) g) (job_at deck named.job)))
        → P (named_at deck slot before more g)
    named_lands slot more starts = grind (arith, common_steps)

    given : (b : Bool) → (code == 0) ≡ b → P (if b then At (Closing g) else named_at deck (job_named (length deck) code) before more g)
    given true e = closes (eqb-true code 0 e)
    given false e = named_lands (job_named (length deck) code) more starts
