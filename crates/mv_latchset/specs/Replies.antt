-- The reply that corresponds to each answer of a call.
use Rattle.std.specs.Prelude.{◌≡◌, ℕ, Bool, true, false, Result, Ok, Err}
use Rattle.mv_latch.specs.declared.operation.LatchReply.{LatchReply}
use Rattle.mv_latch.specs.declared.operation.LatchReply.TheVariants as latch_reply
use Rattle.mv_latch.specs.declared.request.LatchForm.{LatchForm}
use Rattle.mv_latch.specs.declared.request.LatchForm.TheVariants as form_of
use Rattle.mv_machine.specs.declared.entry.Reply.{Reply}
use Rattle.mv_machine.specs.declared.entry.Reply.TheVariants as reply_of
use Rattle.mv_calls.specs.declared.outcomes.Purged.{Purged}
use Rattle.mv_calls.specs.declared.outcomes.Standing.{Standing}
use Rattle.mv_calls.specs.declared.outcomes.Standing.TheVariants as standing
use Rattle.mv_latchset.specs.declared.releasing.ReleaseLatchRefusal.{ReleaseLatchRefusal}
use Rattle.mv_latchset.specs.declared.releasing.ReleaseLatchRefusal.TheVariants as release_refusal
use Rattle.mv_latchset.specs.declared.replies.Asked.{Asked}
use Rattle.mv_latchset.specs.declared.replies.Asked.TheVariants as asked

-- the reply to the Obtain with this outcome; Queued is the reply in the Posted form and in the Waiting form
abbrev pub asked_reply : Asked → LatchReply
asked_reply (asked.Granted id) = latch_reply.Granted id
asked_reply (asked.NotNow id) = latch_reply.NotNow id
asked_reply (asked.Pending id) = latch_reply.Queued id
asked_reply (asked.Queued id) = latch_reply.Queued id

-- the form has a block to post
abbrev pub IsPosted : LatchForm → Type 0
IsPosted form = (ecb : ℕ) × (form ≡ form_of.Posted ecb)

-- an obtain in this form may have this outcome
abbrev pub IsOfForm : LatchForm → Asked → Type 0
IsOfForm form (asked.Granted id) = Unit {0}
IsOfForm form (asked.NotNow id) = form ≡ form_of.Conditional
IsOfForm form (asked.Pending id) = IsPosted form
IsOfForm form (asked.Queued id) = form ≡ form_of.Waiting

-- the reply says that the request is in this state
abbrev pub HasStanding : Reply → Standing → Type 0
HasStanding reply standing.Granted = (id : ℕ) × (reply ≡ reply_of.Latch (latch_reply.Granted id))
HasStanding reply standing.Waiting = reply ≡ reply_of.Latch latch_reply.Waiting
HasStanding reply standing.Gone = reply ≡ reply_of.Latch latch_reply.Gone

-- the reply says that the request is granted, or that it is gone
abbrev pub HasGrant : Reply → Bool → Type 0
HasGrant reply true = (id : ℕ) × (reply ≡ reply_of.Latch (latch_reply.Granted id))
HasGrant reply false = reply ≡ reply_of.Latch latch_reply.Gone

-- the reply to the event of a release with this answer
abbrev pub release_reply : Result ℕ ReleaseLatchRefusal → LatchReply
release_reply (Ok granted) = latch_reply.Released granted
release_reply (Err release_refusal.Gone) = latch_reply.Gone
release_reply (Err release_refusal.StillWaiting) = latch_reply.Waiting

-- the reply to the event of a purge with these counts
abbrev pub purge_reply : Purged → LatchReply
purge_reply p = latch_reply.Purged p.removed p.granted
