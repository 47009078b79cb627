-- The answers of services as answers of calls: none shows a word that was met elsewhere.
use Rattle.std.proofs.Common.{◌≡◌, ℕ, List, Option, Some, None, Result, Ok, Err, false, refl}
use Rattle.mv_calls.specs.declared.table.Table.{Table}
use Rattle.mv_calls.specs.Events.{Entering, EnteredAt, WasComplete}
use Rattle.mv_calls.specs.LatchCalls.{Requested, GrantedAs, PendingAs}
use Rattle.mv_calls.specs.declared.outcomes.Given.{Given}
use Rattle.mv_calls.specs.declared.outcomes.ReleaseAnswer.{ReleaseAnswer}
use Rattle.mv_calls.specs.declared.outcomes.ReleaseAnswer.TheVariants as release_answer
use Rattle.mv_calls.specs.declared.outcomes.PostAnswer.{PostAnswer}
use Rattle.mv_calls.specs.declared.outcomes.PostAnswer.TheVariants as post_answer
use Rattle.mv_calls.specs.declared.outcomes.Standing.{Standing}
use Rattle.mv_calls.specs.declared.outcomes.Standing.TheVariants as state
use Rattle.mv_calls.specs.Refusal.{Refusal}
use Rattle.mv_calls.specs.Refusal as refusal
use Rattle.mv_calls.specs.Services.{Service}
use Rattle.mv_calls.specs.Services as service
use Rattle.mv_script.specs.declared.answer.Answer.{Answer}
use Rattle.mv_scriptline.specs.declared.call.Call.{Call}
use Rattle.mv_scriptline.specs.declared.call.Call.TheVariants as call
use Rattle.mv_script.specs.Answered.{refused, done_or, posted, given, given_if_paused, reached, obtained, standing, entered}
use Rattle.mv_script.specs.Answered.{found, answer_to}
use Rattle.mv_script.specs.Costs.{Asked, service_of}
use Rattle.mv_script.specs.Run.{word_in}
use Rattle.mv_script.specs.Script.{is_obtain}
use Rattle.mv_script.specs.Tasks.{requests_with}

-- ---- no word

refused_none : (why : Refusal) → word_in (refused why) ≡ None
refused_none refusal.TooMany = refl
refused_none (refusal.Doubled position) = refl
refused_none (refusal.NotOwnerAt position) = refl
refused_none (refusal.ExtendedAt position) = refl
refused_none refusal.NotOwner = refl
refused_none refusal.BadExit = refl
refused_none refusal.Extended = refl
refused_none (refusal.Complete code) = refl
refused_none refusal.NoElement = refl
refused_none (refusal.Spent generation) = refl
refused_none refusal.Already = refl
refused_none (refusal.TargetSpent generation) = refl
refused_none refusal.TargetAlready = refl
refused_none refusal.BadLatch = refl
refused_none refusal.Quota = refl
refused_none (refusal.NotNow id) = refl
refused_none refusal.Purged = refl
refused_none refusal.Gone = refl
refused_none refusal.StillWaiting = refl
refused_none (refusal.Broken count) = refl
refused_none refusal.Drained = refl
refused_none (refusal.Strange index) = refl

done_none : {A : Type 0} (f : A → Answer) → ((a : A) → word_in (f a) ≡ None) → (r : Result A Refusal) → word_in (done_or f r) ≡ None
done_none f none (Ok a) = none a
done_none f none (Err why) = refused_none why

posted_none : (p : PostAnswer) → word_in (posted p) ≡ None
posted_none post_answer.Posted = refl
posted_none post_answer.Woke = refl
posted_none (post_answer.Already code) = refl

paused_none : (gift : Option Given) → word_in (given_if_paused gift) ≡ None
paused_none None = refl
paused_none (Some gift) = refl

reached_none : (r : ReleaseAnswer) → word_in (reached r) ≡ None
reached_none release_answer.Early = refl
reached_none release_answer.Woke = refl

obtained_none : (got : Requested) → word_in (obtained got) ≡ None
obtained_none (GrantedAs id) = refl
obtained_none (PendingAs id) = refl

standing_none : (s : Standing) → word_in (standing s) ≡ None
standing_none state.Granted = refl
standing_none state.Waiting = refl
standing_none state.Gone = refl

entered_none : (e : Entering) → word_in (entered e) ≡ None
entered_none (EnteredAt position) = refl
entered_none (WasComplete code) = refl

pub no_word : (s : Service) (a : service.Answer s) → word_in (answer_to s a) ≡ None
no_word (service.Wait count blocks) a = done_none _ (λ slots. refl) a
no_word (service.Post block code) a = posted_none a
no_word (service.TryPost block expected code) a = posted_none a
no_word (service.Clear block) a = done_none _ (λ word. refl) a
no_word (service.Extend block exit) a = done_none _ (λ nothing. refl) a
no_word (service.TestEcb block) a = refl
no_word (service.ReadVolume volume) a = refl
no_word (service.WriteVolume volume number) a = refl
no_word service.Allocate a = done_none _ (λ token. refl) a
no_word (service.Pause token) a = done_none given (λ gift. refl) a
no_word (service.Release token code) a = done_none reached reached_none a
no_word (service.TryRelease token expected code) a = done_none reached reached_none a
no_word (service.Transfer current target code) a = done_none given_if_paused paused_none a
no_word (service.Deallocate token) a = done_none _ (λ nothing. refl) a
no_word (service.TestElement element) a = refl
no_word (service.Obtain latch requestor mode form) a = done_none obtained obtained_none a
no_word (service.CheckLatch latch id) a = standing_none a
no_word (service.ReleaseLatch latch id conditional) a = done_none _ (λ granted. refl) a
no_word (service.Purge requestor) a = refl
no_word (service.EndOfJob requestor block code) a = refl
no_word (service.EndOfTask requestor mother code) a = refl
no_word (service.PostEvent table index code) a = done_none entered entered_none a
no_word (service.NextEvent table position) a = done_none found (λ finding. refl) a

-- ---- only an OBTAIN adds a request

pub keeps_requests : (table : Table) (requests : List (Option Asked)) (asked : ℕ → Asked) (d : Call)
    (a : service.Answer (service_of table asked d)) → is_obtain d ≡ false → requests_with requests (service_of table asked d) a ≡ requests
keeps_requests table requests asked (call.Wait count ecbs) a other = refl
keeps_requests table requests asked (call.Post ecb code) a other = refl
keeps_requests table requests asked (call.TryPost ecb place code) a other = refl
keeps_requests table requests asked (call.Clear ecb) a other = refl
keeps_requests table requests asked (call.Extend ecb exit) a other = refl
keeps_requests table requests asked (call.Test ecb) a other = refl
keeps_requests table requests asked (call.Read volume) a other = refl
keeps_requests table requests asked (call.Write volume number) a other = refl
keeps_requests table requests asked call.Alloc a other = refl
keeps_requests table requests asked (call.Pause token) a other = refl
keeps_requests table requests asked (call.Release token code) a other = refl
keeps_requests table requests asked (call.TryRelease token place code) a other = refl
keeps_requests table requests asked (call.Transfer current target code) a other = refl
keeps_requests table requests asked (call.Dealloc token) a other = refl
keeps_requests table requests asked (call.TestElement element) a other = refl
keeps_requests table requests asked (call.Obtain latch requestor mode form) a other = absurd (cc other)
keeps_requests table requests asked (call.Check k) a other = refl
keeps_requests table requests asked (call.Free k conditional) a other = refl
keeps_requests table requests asked (call.Purge requestor) a other = refl
keeps_requests table requests asked (call.EndTask requestor mother code) a other = refl
keeps_requests table requests asked (call.PostEvent index code) a other = refl
keeps_requests table requests asked (call.NextEvent position) a other = refl
