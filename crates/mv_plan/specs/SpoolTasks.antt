-- The tasks of the spool: the calls that each makes, one after the other. In these, c is the configuration and n the number of
-- jobs.
use Rattle.std.specs.Prelude.{ℕ, zero, suc, ◌+◌, ◌-◌, ◌^◌, ◌==◌, nat_le, nat_lt, Bool, true, false, ◌&&◌, ◌||◌, List, [], ◌∷◌, ◌++◌}
use Rattle.std.specs.Prelude.{length, map, Option, Some, None, if◌then◌else◌}
use Rattle.std.specs.List.{list_any, range_with_len}
use Rattle.mv_element.specs.declared.element.Token.{Token}
use Rattle.mv_latch.specs.declared.request.LatchForm.TheVariants.{Waiting}
use Rattle.mv_config.specs.Setup.{Setup}
use Rattle.mv_machine.specs.System.{with_at}
use Rattle.mv_calls.specs.Endings.{end_of_job}
use Rattle.mv_deck.specs.Deck.{JobData}
use Rattle.mv_deck.specs.declared.deck.After.{After}
use Rattle.mv_deck.specs.declared.deck.Step.{Step}
use Rattle.mv_deck.specs.declared.deck.Step.TheVariants.{Print, Use, Free, Count, Scan, Abend, Return}
use Rattle.mv_plan.specs.Jobs.{job_at}
use Rattle.mv_deck.specs.EndCode.{not_run}
use Rattle.mv_calls.specs.Keeping.{nothing_kept}
use Rattle.mv_calls.specs.LatchCalls.{Requested, GrantedAs, PendingAs, obtain, release_latch}
use Rattle.mv_calls.specs.declared.outcomes.Purged.{Purged}
use Rattle.mv_calls.specs.Pauses.{token_of, allocate, pause, release, deallocate}
use Rattle.mv_calls.specs.Posts.{post}
use Rattle.mv_calls.specs.Program.{Program, Call, followed, accepted, for_each, finished, wrong}
use Rattle.mv_plan.specs.SpoolSetup.{spool_setup, entered, done, end_for_scheduler, end_for_writer, idle, reader, scheduler, initiator}
use Rattle.mv_plan.specs.SpoolSetup.{writer}
use Rattle.mv_calls.specs.Waits.{wait, clear, extend, read_volume, write_volume}
use Rattle.mv_calls.specs.declared.outcomes.WaitSlot.{WaitSlot}
use Rattle.mv_calls.specs.declared.outcomes.WaitSlot.TheVariants as wait_slot

-- continues with f at the lowest slot that is complete: its position, counted from p, and its code
abbrev pub lowest : {A : Type 0} → (ℕ → ℕ → Call A) → ℕ → List WaitSlot → Call A
lowest f p [] = wrong
lowest f p (wait_slot.Complete code ∷ slots) = f p code
lowest f p (wait_slot.Open ∷ slots) = lowest f (p + 1) slots

-- waits for one of these blocks, and continues with f at the lowest that is complete
abbrev pub first_of : {A : Type 0} → Setup → List ℕ → (ℕ → ℕ → Call A) → Call A
first_of c es f = accepted (wait c 1 es) (lowest f 0)

-- ---- the reader enters each job in order

-- the task of the reader
abbrev pub reading : Setup → ℕ → Call (List ℕ)
reading c n = for_each (range_with_len 0 n) (λ j. post c (entered j) 0) (finished [])

-- ---- the scheduler hands each job, in order, to the lowest initiator that is idle, once the jobs that it waits for have ended

-- the mark of a job that is not to be run, which is added to its code
abbrev pub not_to_run : ℕ
not_to_run = 2 ^ 23

-- the release code that tells an initiator its job: j + 1 for job j, and 2^23 more if the job is not to be run (`skipped`)
abbrev pub code_of : ℕ → Bool → ℕ
code_of j skipped = if skipped then j + 1 + not_to_run else j + 1

-- whether one of the ends that were waited for is above what its part accepts
abbrev pub some_end_above : List After → List WaitSlot → Bool
some_end_above (part ∷ parts) (wait_slot.Complete end ∷ slots) = nat_lt part.most end || some_end_above parts slots
some_end_above (part ∷ parts) (wait_slot.Open ∷ slots) = some_end_above parts slots
some_end_above parts slots = false

-- the blocks that have the ends of the jobs of these parts for the scheduler
abbrev pub ends_of : ℕ → List After → List ℕ
ends_of n parts = map (λ part. end_for_scheduler n part.job) parts

-- Waits for the ends of all jobs of these parts, and continues with f: whether one is above what its part accepts. If there is no
-- part, no call is made.
abbrev pub ends_awaited : {A : Type 0} → Setup → ℕ → List After → (Bool → Call A) → Call A
ends_awaited c n [] f = f false
ends_awaited c n (part ∷ parts) f =
    accepted (wait c (length (part ∷ parts)) (ends_of n (part ∷ parts))) (λ slots. f (some_end_above (part ∷ parts) slots))

-- clears the block of the idle initiator i, and releases its pause of this generation with this code
abbrev pub hand_over : Setup → ℕ → ℕ → ℕ → ℕ → Call (Unit {0})
hand_over c n code i generation =
    accepted (clear c (idle n i)) (λ word. accepted (release (token_of (initiator i) generation) code) (λ reached. finished tt))

-- hands job j to an initiator, once the job was entered and the jobs that it waits for have ended
abbrev pub dispatch : Setup → ℕ → ℕ → ℕ → JobData → Call (Unit {0})
dispatch c n initiators j job =
    first_of c (entered j ∷ []) (λ position zero_code.
    ends_awaited c n job.after (λ skipped.
    accepted (extend c (done n j) (j + 1)) (λ linked.
    first_of c (map (idle n) (range_with_len 0 initiators)) (hand_over c n (code_of j skipped)))))

-- hands out the jobs from j on, and continues with `last`
abbrev pub dispatch_all : {A : Type 0} → Setup → ℕ → ℕ → ℕ → List JobData → Call A → Call A
dispatch_all c n initiators j [] last = last
dispatch_all c n initiators j (job ∷ jobs) last =
    followed (dispatch c n initiators j job) (λ handed. dispatch_all c n initiators (j + 1) jobs last)

-- waits until initiator i is idle, and releases its pause with code 0: no job follows
abbrev pub dismiss : Setup → ℕ → ℕ → Call (Unit {0})
dismiss c n i = first_of c (idle n i ∷ []) (λ position generation. hand_over c n 0 i generation)

-- the task of the scheduler: it hands out the jobs, and then dismisses each initiator
abbrev pub scheduling : Setup → ℕ → List JobData → Call (List ℕ)
scheduling c initiators deck =
    dispatch_all c (length deck) initiators 0 deck (for_each (range_with_len 0 initiators) (dismiss c (length deck)) (finished []))

-- ---- an initiator runs the jobs that it is given

-- continues with f at the number of a request that was granted; a request whose block is to be posted makes the program wrong
abbrev pub granted_as : {A : Type 0} → (ℕ → Call A) → Requested → Call A
granted_as f (GrantedAs id) = f id
granted_as f (PendingAs id) = wrong

-- releases the request of this number, and continues with `last`; a FREE of a latch without a request makes the program wrong
abbrev pub freed : {A : Type 0} → Setup → ℕ → Option ℕ → Call A → Call A
freed c latch None last = wrong
freed c latch (Some id) last = accepted (release_latch c latch id false) (λ granted. last)

-- adds the amount to the number n that was read from volume v, and continues with `last`; a sum of more than 32 bits makes the
-- program wrong
abbrev pub counted : {A : Type 0} → ℕ → ℕ → Call A → ℕ → Call A
counted v amount last n = if nat_lt (n + amount) (2 ^ 32) then followed (write_volume v (n + amount)) (λ stored. last) else wrong

-- executes steps of a job up to an ABEND or RETURN, and returns the job's end; `requests` has the requestor's last request at
-- each latch
abbrev pub run_steps : Setup → ℕ → (ℕ → Option ℕ) → List Step → Call ℕ
run_steps c requestor requests [] = finished 0
run_steps c requestor requests (Print text ∷ steps) = run_steps c requestor requests steps
run_steps c requestor requests (Use latch mode ∷ steps) =
    accepted (obtain c latch requestor mode Waiting) (granted_as (λ id. run_steps c requestor (with_at requests latch (Some id)) steps))
run_steps c requestor requests (Free latch ∷ steps) = freed c latch (requests latch) (run_steps c requestor requests steps)
run_steps c requestor requests (Count v amount ∷ steps) =
    followed (read_volume v) (counted v amount (run_steps c requestor requests steps))
run_steps c requestor requests (Scan v ∷ steps) =
    followed (read_volume v) (λ once. followed (read_volume v) (λ again. run_steps c requestor requests steps))
run_steps c requestor requests (Abend code ∷ steps) = finished code
run_steps c requestor requests (Return code ∷ steps) = finished code

-- a job that a code names, and whether the job is not to be run
pub record Named : Type 0 where
  pub job : ℕ
  pub skipped : Bool

-- the one of n jobs that a code names, if it names one
abbrev pub job_named : ℕ → ℕ → Option Named
job_named n code =
    if nat_le 1 code && nat_le code n then Some (record { job = code - 1; skipped = false })
    else if nat_le (1 + not_to_run) code && nat_le code (n + not_to_run) then Some
    (record { job = code - (1 + not_to_run); skipped = true })
    else None

-- executes a job, and returns its end; a job that is not to be run does no step
abbrev pub job_done : Setup → ℕ → JobData → Bool → Call ℕ
job_done c requestor job true = finished not_run
job_done c requestor job false = run_steps c requestor (λ latch. None) job.steps

-- executes a job, and then ends it: purges its requestor, which is j + 1 for job j, and posts its end to its `done` block
abbrev pub run_job : Setup → List JobData → Named → Call Purged
run_job c deck named =
    followed (job_done c (named.job + 1) (job_at deck named.job) named.skipped)
    (λ code. end_of_job c (named.job + 1) (done (length deck) named.job) code)

-- continues with f at the job that a code names, unless it names none or one of those `before`, or no round is left
abbrev pub named_by : {A : Type 0} → Option Named → List ℕ → ℕ → (Named → Call A) → Call A
named_by None before rounds f = wrong
named_by (Some named) before zero f = wrong
named_by (Some named) before (suc rounds) f = if list_any (λ j. j == named.job) before then wrong else f named

-- The loop of initiator i, of which at most this many rounds are left, after these jobs. In each round it posts its idle block
-- with its element's generation, and pauses. The release code 0 ends the loop, and the element is deallocated; any other release
-- code names a job, which the initiator runs.
abbrev pub rounds : Setup → List JobData → ℕ → ℕ → List ℕ → Token → Call (List ℕ)
rounds c deck i zero before token = wrong
rounds c deck i (suc more) before token =
    followed (post c (idle (length deck) i) token.generation) (λ posted.
    accepted (pause c token) (λ gift.
    if gift.code == 0 then accepted (deallocate c gift.next) (λ closed. finished [])
    else named_by (job_named (length deck) gift.code) before more (λ named.
    followed (run_job c deck named) (λ counts. rounds c deck i more (before ++ named.job ∷ []) gift.next))))

-- the task of initiator i: at most one round for each job, and the last
abbrev pub initiating : Setup → List JobData → ℕ → Call (List ℕ)
initiating c deck i = accepted (allocate c) (rounds c deck i (length deck + 1) [])

-- ---- the writer waits for each job's end, in order, and keeps it

-- waits for the ends of these jobs, in order, and returns `ends` followed by them
abbrev pub ends_kept : Setup → ℕ → List ℕ → List ℕ → Call (List ℕ)
ends_kept c n ends [] = finished ends
ends_kept c n ends (j ∷ js) = first_of c (end_for_writer n j ∷ []) (λ position end. ends_kept c n (ends ++ end ∷ []) js)

-- the task of the writer
abbrev pub writing : Setup → ℕ → Call (List ℕ)
writing c n = ends_kept c n [] (range_with_len 0 n)

-- ---- the task of each caller, which returns the ends that it keeps; only the writer keeps any

-- the task of caller k
abbrev pub task : List JobData → ℕ → ℕ → Call (List ℕ)
task deck initiators k =
    if k == reader then reading (spool_setup deck initiators) (length deck)
    else if k == scheduler then scheduling (spool_setup deck initiators) initiators deck
    else if k == writer initiators then writing (spool_setup deck initiators) (length deck)
    else initiating (spool_setup deck initiators) deck (k - 2)

-- the program of caller k's task, from its beginning
abbrev pub task_program : List JobData → ℕ → ℕ → Program (List ℕ)
task_program deck initiators k = task deck initiators k (nothing_kept k)
