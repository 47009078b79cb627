-- How the values that the calls return correspond to the answers of their programs.
use Rattle.std.specs.Prelude.{ℕ, Result, Ok, Err}
use Rattle.mv_calls.specs.LatchCalls.{Requested, GrantedAs, PendingAs}
use Rattle.mv_calls.specs.Refusal.{Refusal}
use Rattle.mv_calls.specs.Refusal as refusal
use Rattle.mv_latchset.specs.declared.obtaining.ObtainRefusal.{ObtainRefusal}
use Rattle.mv_latchset.specs.declared.obtaining.ObtainRefusal.TheVariants as obtain_refusal
use Rattle.mv_latchset.specs.declared.obtaining.Obtained.{Obtained}
use Rattle.mv_latchset.specs.declared.obtaining.Obtained.TheVariants as obtained
use Rattle.mv_latchset.specs.declared.releasing.ReleaseLatchRefusal.{ReleaseLatchRefusal}
use Rattle.mv_latchset.specs.declared.releasing.ReleaseLatchRefusal.TheVariants as release_refusal

-- the answer of a program that obtained a request: of the token it has only the request's number
abbrev pub obtained_as : Obtained → Requested
obtained_as (obtained.Granted token) = GrantedAs token.id
obtained_as (obtained.Pending token) = PendingAs token.id

-- the reason for which an obtain is refused
abbrev pub obtain_refused : ObtainRefusal → Refusal
obtain_refused obtain_refusal.BadLatch = refusal.BadLatch
obtain_refused obtain_refusal.NotOwner = refusal.NotOwner
obtain_refused obtain_refusal.Quota = refusal.Quota
obtain_refused (obtain_refusal.NotNow id) = refusal.NotNow id
obtain_refused obtain_refusal.Purged = refusal.Purged

-- the answer of an obtain: the request, or the reason for which there is none
abbrev pub obtain_answer : Result Obtained ObtainRefusal → Result Requested Refusal
obtain_answer (Ok got) = Ok (obtained_as got)
obtain_answer (Err why) = Err (obtain_refused why)

-- the reason for which a release takes nothing out
abbrev pub release_refused : ReleaseLatchRefusal → Refusal
release_refused release_refusal.Gone = refusal.Gone
release_refused release_refusal.StillWaiting = refusal.StillWaiting

-- the answer of a release: how many requests it granted, or the reason for which it took nothing out
abbrev pub freed_answer : Result ℕ ReleaseLatchRefusal → Result ℕ Refusal
freed_answer (Ok granted) = Ok granted
freed_answer (Err why) = Err (release_refused why)
