-- The answer to a call of a script, by what the service returned.
use Rattle.std.specs.Prelude.{Option, Some, None, Result, Ok, Err}
use Rattle.mv_calls.specs.Events.{Entering, EnteredAt, WasComplete, Finding}
use Rattle.mv_calls.specs.LatchCalls.{Requested, GrantedAs, PendingAs}
use Rattle.mv_calls.specs.declared.outcomes.Given.{Given}
use Rattle.mv_calls.specs.declared.outcomes.ReleaseAnswer.{ReleaseAnswer}
use Rattle.mv_calls.specs.declared.outcomes.ReleaseAnswer.TheVariants as release_answer
use Rattle.mv_calls.specs.declared.outcomes.PostAnswer.{PostAnswer}
use Rattle.mv_calls.specs.declared.outcomes.PostAnswer.TheVariants as post_answer
use Rattle.mv_calls.specs.declared.outcomes.Purged.{Purged}
use Rattle.mv_calls.specs.declared.outcomes.Standing.{Standing}
use Rattle.mv_calls.specs.declared.outcomes.Standing.TheVariants as state
use Rattle.mv_calls.specs.Refusal.{Refusal}
use Rattle.mv_calls.specs.Refusal as refusal
use Rattle.mv_calls.specs.Services.{Service}
use Rattle.mv_calls.specs.Services as service
use Rattle.mv_script.specs.declared.answer.Answer.{Answer}
use Rattle.mv_script.specs.declared.answer.Answer.TheVariants as answer

-- The answer to each refusal. Two refusals reach no call of a script, and share the answer to the purge of a post of an event,
-- which does not happen either: no such post finds a volume that counts too many (Broken), and no slot has a code that is not an
-- event's index (Strange), as `EventsAreHandedOut` of Events implies.
abbrev pub refused : Refusal → Answer
refused refusal.TooMany = answer.TooMany
refused (refusal.Doubled position) = answer.Doubled position
refused (refusal.NotOwnerAt position) = answer.NotOwnerAt position
refused (refusal.ExtendedAt position) = answer.ExtendedAt position
refused refusal.NotOwner = answer.NotOwner
refused refusal.BadExit = answer.BadExit
refused refusal.Extended = answer.Extended
refused (refusal.Complete code) = answer.Complete code
refused refusal.NoElement = answer.NoElement
refused (refusal.Spent generation) = answer.Spent generation
refused refusal.Already = answer.AlreadyReleased
refused (refusal.TargetSpent generation) = answer.TargetSpent generation
refused refusal.TargetAlready = answer.TargetAlready
refused refusal.BadLatch = answer.BadLatch
refused refusal.Quota = answer.Quota
refused (refusal.NotNow id) = answer.NotNow id
refused refusal.Purged = answer.Purged
refused refusal.Gone = answer.Gone
refused refusal.StillWaiting = answer.Waiting
refused (refusal.Broken count) = answer.Purged
refused refusal.Drained = answer.Drained
refused (refusal.Strange index) = answer.Purged

-- the answer to a service that may be refused: `f` of what it returned, or that to the refusal
abbrev pub done_or : {A : Type 0} → (A → Answer) → Result A Refusal → Answer
done_or f (Ok a) = f a
done_or f (Err why) = refused why

-- the answer to a post
abbrev pub posted : PostAnswer → Answer
posted post_answer.Posted = answer.Posted
posted post_answer.Woke = answer.Woke
posted (post_answer.Already code) = answer.AlreadyPosted code

-- the answer to a pause that was given a code
abbrev pub given : Given → Answer
given gift = answer.Given gift.code gift.next

-- the answer to a transfer; it is Done if the transfer does not pause
abbrev pub given_if_paused : Option Given → Answer
given_if_paused None = answer.Done
given_if_paused (Some gift) = given gift

-- the answer to a release
abbrev pub reached : ReleaseAnswer → Answer
reached release_answer.Early = answer.Early
reached release_answer.Woke = answer.Woke

-- the answer to an obtain, which does not show the number of the request
abbrev pub obtained : Requested → Answer
obtained (GrantedAs id) = answer.Granted
obtained (PendingAs id) = answer.Pending

-- the answer to a CHECK, by the state of the request
abbrev pub standing : Standing → Answer
standing state.Granted = answer.Granted
standing state.Waiting = answer.Waiting
standing state.Gone = answer.Gone

-- the answer to a purge
abbrev pub purged : Purged → Answer
purged counts = answer.PurgedCounts counts.removed counts.granted

-- the answer to a post of an event
abbrev pub entered : Entering → Answer
entered (EnteredAt position) = answer.Entered position
entered (WasComplete code) = answer.AlreadyPosted code

-- the answer to a call that took an event of the table
abbrev pub found : Finding → Answer
found finding = answer.Event finding.index finding.word

-- the answer to each service
abbrev pub answer_to : (s : Service) → service.Answer s → Answer
answer_to (service.Wait count blocks) a = done_or answer.Waited a
answer_to (service.Post block code) a = posted a
answer_to (service.TryPost block expected code) a = posted a
answer_to (service.Clear block) a = done_or (λ word. answer.Word word) a
answer_to (service.Extend block exit) a = done_or (λ nothing. answer.Done) a
answer_to (service.TestEcb block) a = answer.Word a
answer_to (service.ReadVolume volume) a = answer.Value a
answer_to (service.WriteVolume volume number) a = answer.Done
answer_to service.Allocate a = done_or (λ token. answer.Token token) a
answer_to (service.Pause token) a = done_or given a
answer_to (service.Release token code) a = done_or reached a
answer_to (service.TryRelease token expected code) a = done_or reached a
answer_to (service.Transfer current target code) a = done_or given_if_paused a
answer_to (service.Deallocate token) a = done_or (λ nothing. answer.Done) a
answer_to (service.TestElement element) a = answer.State a
answer_to (service.Obtain latch requestor mode form) a = done_or obtained a
answer_to (service.CheckLatch latch id) a = standing a
answer_to (service.ReleaseLatch latch id conditional) a = done_or (λ granted. answer.Released granted) a
answer_to (service.Purge requestor) a = purged a
answer_to (service.EndOfJob requestor block code) a = purged a
answer_to (service.EndOfTask requestor mother code) a = purged a
answer_to (service.PostEvent table index code) a = done_or entered a
answer_to (service.NextEvent table position) a = done_or found a
