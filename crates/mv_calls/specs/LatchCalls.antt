-- The calls on the latch set.
use Rattle.std.specs.Prelude.{ℕ, nat_lt, Bool, true, not, List, Option, Result, Ok, Err}
use Rattle.std.specs.Option.{option_or}
use Rattle.mv_latch.specs.declared.operation.LatchOp.TheVariants as latch_op
use Rattle.mv_latch.specs.declared.operation.LatchReply.{LatchReply}
use Rattle.mv_latch.specs.declared.operation.LatchReply.TheVariants as latch_reply
use Rattle.mv_latch.specs.declared.operation.Wake.{Wake}
use Rattle.mv_latch.specs.declared.request.LatchForm.{LatchForm}
use Rattle.mv_latch.specs.declared.request.LatchForm.TheVariants as form_of
use Rattle.mv_latch.specs.declared.request.Mode.{Mode}
use Rattle.mv_machine.specs.declared.entry.Object.TheVariants.{Latches}
use Rattle.mv_machine.specs.declared.entry.Op.TheVariants as op_on
use Rattle.mv_machine.specs.Kept.{keeps_quotas}
use Rattle.mv_config.specs.Setup.{Setup}
use Rattle.mv_machine.specs.System.{posts_own_ecb}
use Rattle.mv_calls.specs.declared.outcomes.Purged.{Purged}
use Rattle.mv_calls.specs.declared.outcomes.Standing.{Standing}
use Rattle.mv_calls.specs.declared.outcomes.Standing.TheVariants as standing
use Rattle.mv_calls.specs.Keeping.{Kept}
use Rattle.mv_calls.specs.Posts.{wakes_posted}
use Rattle.mv_calls.specs.Program.{Program, Do, Done, Early, Wrong, Call, on_latch, unless_refused}
use Rattle.mv_calls.specs.Refusal.{Refusal}
use Rattle.mv_calls.specs.Refusal as refusal
use Rattle.mv_calls.specs.Waits.{refused_if}

-- the outcome of an obtain: a request of this number holds its latch, or waits for it, in which case its block is posted at the
-- grant
pub data Requested : Type 0 where
  GrantedAs : (id : ℕ) → Requested
  PendingAs : (id : ℕ) → Requested

-- ---- obtain

-- why an obtain is refused: the latch does not exist, the block is not the caller's, or the caller has as many requests as it
-- may
abbrev pub obtain_refusal : Setup → ℕ → ℕ → Mode → LatchForm → Kept → Option Refusal
obtain_refusal c latch requestor mode form kept =
    option_or (refused_if (not (nat_lt latch c.latches)) refusal.BadLatch)
    (option_or (refused_if (not (posts_own_ecb c kept.caller (latch_op.Obtain latch requestor mode form))) refusal.NotOwner)
    (refused_if (not (keeps_quotas c kept.requests form)) refusal.Quota))

-- the rest of an obtain after its confirm: if the request still waits, the wait has ended too soon
abbrev pub confirmed : ℕ → LatchReply → Program (Result Requested Refusal)
confirmed id (latch_reply.Granted same) = Done (Ok (GrantedAs id))
confirmed id latch_reply.Waiting = Early
confirmed id latch_reply.Gone = Done (Err refusal.Purged)
confirmed id reply = Wrong

-- the rest of an obtain of this form after the reply to its request
abbrev pub obtained : ℕ → LatchForm → LatchReply → Program (Result Requested Refusal)
obtained latch form (latch_reply.Granted id) = Done (Ok (GrantedAs id))
obtained latch form_of.Conditional (latch_reply.NotNow id) = Done (Err (refusal.NotNow id))
obtained latch form_of.Waiting (latch_reply.Queued id) =
    Do Latches (op_on.Latch (latch_op.Confirm latch id)) (λ h. on_latch h.entry.reply (confirmed id))
obtained latch (form_of.Posted e) (latch_reply.Queued id) = Done (Ok (PendingAs id))
obtained latch form reply = Wrong

-- obtain: requests a latch. A request of the Waiting form that is queued is confirmed when the wait ends
abbrev pub obtain : Setup → ℕ → ℕ → Mode → LatchForm → Call (Result Requested Refusal)
obtain c latch requestor mode form kept =
    unless_refused (obtain_refusal c latch requestor mode form kept)
    (Do Latches (op_on.Latch (latch_op.Obtain latch requestor mode form)) (λ h. on_latch h.entry.reply (obtained latch form)))

-- ---- check

-- the state of a request by the reply to a confirm
abbrev pub checked : LatchReply → Program Standing
checked (latch_reply.Granted id) = Done standing.Granted
checked latch_reply.Waiting = Done standing.Waiting
checked latch_reply.Gone = Done standing.Gone
checked reply = Wrong

-- check: the state of the request of this number at its latch
abbrev pub check_latch : ℕ → ℕ → Call Standing
check_latch latch id kept = Do Latches (op_on.Latch (latch_op.Confirm latch id)) (λ h. on_latch h.entry.reply checked)

-- ---- release

-- the rest of a release after its reply
abbrev pub let_go : Setup → Bool → List Wake → Kept → LatchReply → Program (Result ℕ Refusal)
let_go c conditional wakes kept (latch_reply.Released granted) = wakes_posted c wakes kept (Done (Ok granted))
let_go c conditional wakes kept latch_reply.Gone = Done (Err refusal.Gone)
let_go c true wakes kept latch_reply.Waiting = Done (Err refusal.StillWaiting)
let_go c conditional wakes kept reply = Wrong

-- release: takes the request out, and posts the blocks of the requests that it grants. A conditional release leaves a request
-- that waits
abbrev pub release_latch : Setup → ℕ → ℕ → Bool → Call (Result ℕ Refusal)
release_latch c latch id conditional kept =
    Do Latches (op_on.Latch (latch_op.Release latch id conditional)) (λ h. on_latch h.entry.reply (let_go c conditional h.wakes kept))

-- ---- purge

-- the rest of a purge after its reply
abbrev pub purged : Setup → List Wake → Kept → LatchReply → Program Purged
purged c wakes kept (latch_reply.Purged removed granted) =
    wakes_posted c wakes kept (Done (record { removed = removed; granted = granted }))
purged c wakes kept reply = Wrong

-- purge: takes a requestor's requests out, and posts the blocks of the requests that it grants, and of those that waited
abbrev pub purge : Setup → ℕ → Call Purged
purge c requestor kept = Do Latches (op_on.Latch (latch_op.Purge requestor)) (λ h. on_latch h.entry.reply (purged c h.wakes kept))
