-- Predicates on one request.
use Rattle.std.specs.Prelude.{ℕ, ◌==◌, Bool, true, false, ◌&&◌, Option, Some, None}
use Rattle.mv_latch.specs.declared.request.Mode.{Mode}
use Rattle.mv_latch.specs.declared.request.Mode.TheVariants.{Shared, Exclusive}
use Rattle.mv_latch.specs.declared.request.LatchForm.{LatchForm}
use Rattle.mv_latch.specs.declared.request.LatchForm.TheVariants.{Conditional, Posted}
use Rattle.mv_latch.specs.declared.request.Request.{Request}
use Rattle.mv_latch.specs.declared.operation.Wake.{Wake}

-- whether a mode is Shared
abbrev pub is_shared : Mode → Bool
is_shared Shared = true
is_shared Exclusive = false

-- whether a request of this form is queued if it is not granted at once
abbrev pub queues : LatchForm → Bool
queues Conditional = false
queues _ = true

-- whether a request of this form has an ECB posted at its grant
abbrev pub is_posted : LatchForm → Bool
is_posted (Posted ecb) = true
is_posted _ = false

-- the ECB that a request of this form has posted at its grant, if any
abbrev pub posted_ecb : LatchForm → Option ℕ
posted_ecb (Posted ecb) = Some ecb
posted_ecb _ = None

-- whether a request is a shared one
abbrev pub shared_request : Request → Bool
shared_request q = is_shared q.mode

-- whether a request has this number
abbrev pub has_id : ℕ → Request → Bool
has_id id q = q.id == id

-- whether a request was made by this caller
abbrev pub of_caller : ℕ → Request → Bool
of_caller caller q = q.caller == caller

-- whether a request was made by this caller in the Posted form
abbrev pub posted_of : ℕ → Request → Bool
posted_of caller q = (q.caller == caller) && is_posted q.form

-- whether a request has this number and was made by this caller
abbrev pub is_own : ℕ → ℕ → Request → Bool
is_own caller id q = (q.id == id) && (q.caller == caller)

-- whether a request is for this requestor
abbrev pub of_requestor : ℕ → Request → Bool
of_requestor requestor q = q.requestor == requestor

-- the wake for a request, with this code
abbrev pub wake_of : ℕ → Request → Wake
wake_of code q = record { caller = q.caller; id = q.id; ecb = posted_ecb q.form; code = code }
