-- The calls of the services, each as a value: what it returns, what it does, and how many events it may need.
use Rattle.std.specs.Prelude.{ℕ, ◌+◌, ◌*◌, ◌<◌, Bool, List, length, Option, Some, None, Result}
use Rattle.mv_element.specs.declared.element.ElementState.{ElementState}
use Rattle.mv_element.specs.declared.element.Token.{Token}
use Rattle.mv_latch.specs.declared.request.LatchForm.{LatchForm}
use Rattle.mv_latch.specs.declared.request.LatchForm.TheVariants as form_of
use Rattle.mv_latch.specs.declared.request.Mode.{Mode}
use Rattle.mv_config.specs.Reach.{reach, release_cost}
use Rattle.mv_config.specs.Setup.{Setup}
use Rattle.mv_calls.specs.declared.outcomes.PostAnswer.{PostAnswer}
use Rattle.mv_calls.specs.declared.table.Table.{Table}
use Rattle.mv_calls.specs.Endings as endings
use Rattle.mv_calls.specs.Events as events
use Rattle.mv_calls.specs.Events.{Entering, Finding}
use Rattle.mv_calls.specs.Keeping.{Kept}
use Rattle.mv_calls.specs.LatchCalls as latches
use Rattle.mv_calls.specs.declared.outcomes.Given.{Given}
use Rattle.mv_calls.specs.declared.outcomes.Purged.{Purged}
use Rattle.mv_calls.specs.declared.outcomes.ReleaseAnswer.{ReleaseAnswer}
use Rattle.mv_calls.specs.declared.outcomes.Standing.{Standing}
use Rattle.mv_calls.specs.LatchCalls.{Requested}
use Rattle.mv_calls.specs.Pauses as pauses
use Rattle.mv_calls.specs.Posts as posts
use Rattle.mv_calls.specs.Program.{Call}
use Rattle.mv_calls.specs.Refusal.{Refusal}
use Rattle.mv_calls.specs.Table.{IsSoundTable}
use Rattle.mv_calls.specs.Waits as waits
use Rattle.mv_calls.specs.declared.outcomes.WaitSlot.{WaitSlot}

-- a call with its arguments
pub data Service : Type 0 where
  Wait : (count : ℕ) (blocks : List ℕ) → Service
  Post : (block code : ℕ) → Service
  TryPost : (block expected code : ℕ) → Service
  Clear : (block : ℕ) → Service
  Extend : (block exit : ℕ) → Service
  TestEcb : (block : ℕ) → Service
  ReadVolume : (volume : ℕ) → Service
  WriteVolume : (volume number : ℕ) → Service
  Allocate : Service
  Pause : (token : Token) → Service
  Release : (token : Token) (code : ℕ) → Service
  TryRelease : (token : Token) (expected code : ℕ) → Service
  Transfer : (current : Option Token) (target : Token) (code : ℕ) → Service
  Deallocate : (token : Token) → Service
  TestElement : (element : ℕ) → Service
  Obtain : (latch requestor : ℕ) (mode : Mode) (form : LatchForm) → Service
  CheckLatch : (latch id : ℕ) → Service
  ReleaseLatch : (latch id : ℕ) (conditional : Bool) → Service
  Purge : (requestor : ℕ) → Service
  EndOfJob : (requestor block code : ℕ) → Service
  EndOfTask : (requestor : ℕ) (mother : Option ℕ) (code : ℕ) → Service
  PostEvent : (table : Table) (index code : ℕ) → Service
  NextEvent : (table : Table) (position : ℕ) → Service

-- the type of a call's answer
abbrev pub Answer : Service → Type 0
Answer (Wait count blocks) = Result (List WaitSlot) Refusal
Answer (Post block code) = PostAnswer
Answer (TryPost block expected code) = PostAnswer
Answer (Clear block) = Result ℕ Refusal
Answer (Extend block exit) = Result (Unit {0}) Refusal
Answer (TestEcb block) = ℕ
Answer (ReadVolume volume) = ℕ
Answer (WriteVolume volume number) = Unit {0}
Answer Allocate = Result Token Refusal
Answer (Pause token) = Result Given Refusal
Answer (Release token code) = Result ReleaseAnswer Refusal
Answer (TryRelease token expected code) = Result ReleaseAnswer Refusal
Answer (Transfer current target code) = Result (Option Given) Refusal
Answer (Deallocate token) = Result (Unit {0}) Refusal
Answer (TestElement element) = ElementState
Answer (Obtain latch requestor mode form) = Result Requested Refusal
Answer (CheckLatch latch id) = Standing
Answer (ReleaseLatch latch id conditional) = Result ℕ Refusal
Answer (Purge requestor) = Purged
Answer (EndOfJob requestor block code) = Purged
Answer (EndOfTask requestor mother code) = Purged
Answer (PostEvent table index code) = Result Entering Refusal
Answer (NextEvent table position) = Result Finding Refusal

-- the program of a call
abbrev pub program : Setup → (s : Service) → Call (Answer s)
program c (Wait count blocks) = waits.wait c count blocks
program c (Post block code) = posts.post c block code
program c (TryPost block expected code) = posts.try_post block expected code
program c (Clear block) = waits.clear c block
program c (Extend block exit) = waits.extend c block exit
program c (TestEcb block) = waits.test_ecb block
program c (ReadVolume volume) = waits.read_volume volume
program c (WriteVolume volume number) = waits.write_volume volume number
program c Allocate = pauses.allocate c
program c (Pause token) = pauses.pause c token
program c (Release token code) = pauses.release token code
program c (TryRelease token expected code) = pauses.try_release token expected code
program c (Transfer current target code) = pauses.transfer c current target code
program c (Deallocate token) = pauses.deallocate c token
program c (TestElement element) = pauses.test_element element
program c (Obtain latch requestor mode form) = latches.obtain c latch requestor mode form
program c (CheckLatch latch id) = latches.check_latch latch id
program c (ReleaseLatch latch id conditional) = latches.release_latch c latch id conditional
program c (Purge requestor) = latches.purge c requestor
program c (EndOfJob requestor block code) = endings.end_of_job c requestor block code
program c (EndOfTask requestor mother code) = endings.end_of_task c requestor mother code
program c (PostEvent table index code) = events.post_event c table index code
program c (NextEvent table position) = events.next_event c table position

-- ---- how many events a call may need, by the configuration and what its task keeps

-- the most events of a transfer, which pauses if it has a current token
abbrev pub transfer_events : Option Token → ℕ
transfer_events None = 1
transfer_events (Some current) = 3

-- the most events of an obtain, which may have to be confirmed if it is of the Waiting form
abbrev pub obtain_events : LatchForm → ℕ
obtain_events form_of.Waiting = 2
obtain_events form = 1

-- the most events of the post of a mother's block, if there is one
abbrev pub mother_events : Setup → Option ℕ → ℕ
mother_events c None = 0
mother_events c (Some block) = reach c block

-- the most events of each call: a wait arms and settles each block, a post costs its reach, a release or a purge costs the
-- posts of its wakes too
abbrev pub most_events : Setup → Kept → Service → ℕ
most_events c kept (Wait count blocks) = 2 * length blocks
most_events c kept (Post block code) = reach c block
most_events c kept (TryPost block expected code) = 1
most_events c kept (Clear block) = 1
most_events c kept (Extend block exit) = 1
most_events c kept (TestEcb block) = 1
most_events c kept (ReadVolume volume) = 1
most_events c kept (WriteVolume volume number) = 1
most_events c kept Allocate = 1
most_events c kept (Pause token) = 2
most_events c kept (Release token code) = 1
most_events c kept (TryRelease token expected code) = 1
most_events c kept (Transfer current target code) = transfer_events current
most_events c kept (Deallocate token) = 1
most_events c kept (TestElement element) = 1
most_events c kept (Obtain latch requestor mode form) = obtain_events form
most_events c kept (CheckLatch latch id) = 1
most_events c kept (ReleaseLatch latch id conditional) = release_cost c
most_events c kept (Purge requestor) = release_cost c
most_events c kept (EndOfJob requestor block code) = release_cost c + reach c block
most_events c kept (EndOfTask requestor mother code) =
    length (endings.used_elements c kept) + release_cost c + mother_events c mother
most_events c kept (PostEvent table index code) = 6 + release_cost c
most_events c kept (NextEvent table position) = 3

-- a call on a table of events has a table that is sound for the configuration, and a post of an event names an event of it
abbrev pub HasItsTable : Setup → Service → Type 0
HasItsTable c (PostEvent table index code) = IsSoundTable c table × (index < table.size)
HasItsTable c (NextEvent table position) = IsSoundTable c table
HasItsTable c _ = Unit {0}
