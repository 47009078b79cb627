-- The standing latch requests of a caller, by the caller's own entries only.
use Rattle.std.specs.Prelude.{◌≡◌, ℕ, ◌+◌, ◌==◌, ◌≤◌, nat_lt, Bool, true, false, not, ◌&&◌}
use Rattle.std.specs.Prelude.{◌||◌, ◌⊎◌, if◌then◌else◌, List, [], ◌∷◌, ◌++◌, length, filter}
use Rattle.mv_latch.specs.declared.operation.LatchOp.{LatchOp}
use Rattle.mv_latch.specs.declared.operation.LatchOp.TheVariants.{Obtain, Confirm, Release, Purge}
use Rattle.mv_latch.specs.declared.operation.LatchReply.{LatchReply}
use Rattle.mv_latch.specs.declared.operation.LatchReply.TheVariants.{Granted, Queued, Gone, Released, Purged}
use Rattle.mv_latch.specs.declared.request.LatchForm.{LatchForm}
use Rattle.mv_latch.specs.declared.request.Request.{Request}
use Rattle.mv_latch.specs.Request.{is_posted}
use Rattle.mv_machine.specs.declared.entry.Entry.{Entry}
use Rattle.mv_machine.specs.declared.entry.Object.{Object}
use Rattle.mv_machine.specs.declared.entry.Object.TheVariants.{Latches}
use Rattle.mv_machine.specs.declared.entry.Op.{Op}
use Rattle.mv_machine.specs.declared.entry.Op.TheVariants as op_on
use Rattle.mv_machine.specs.declared.entry.Reply.{Reply}
use Rattle.mv_machine.specs.declared.entry.Reply.TheVariants as reply_of
use Rattle.mv_config.specs.Setup.{Setup}
use Rattle.mv_machine.specs.System.{opening, admitted, posts_own_ecb}

-- a request that holds its latch or waits for it, and the latch
pub record StandingRequest : Type 0 where
  pub latch : ℕ
  pub request : Request

-- whether a standing request has this number at this latch
abbrev pub is_named : ℕ → ℕ → StandingRequest → Bool
is_named latch id t = (t.latch == latch) && (t.request.id == id)

-- whether a standing request is this requestor's
abbrev pub is_for : ℕ → StandingRequest → Bool
is_for requestor t = t.request.requestor == requestor

-- whether the grant of a standing request posts a block
abbrev pub is_posting : StandingRequest → Bool
is_posting t = is_posted t.request.form

-- the requests that do not meet a test
abbrev pub less : (StandingRequest → Bool) → List StandingRequest → List StandingRequest
less test ts = filter (λ t. not (test t)) ts

-- A caller's standing requests after one event on the latch set. An obtain that is granted or queued adds a request. The
-- request is standing until the caller's own release takes it out, its own confirm or release finds it gone, or its own purge
-- takes out its requestor.
abbrev pub stands_after : ℕ → List StandingRequest → LatchOp → LatchReply → List StandingRequest
stands_after k ts (Obtain latch requestor mode form) (Granted id) =
    ts ++ record { latch = latch; request = record { id = id; caller = k; requestor = requestor; mode = mode; form = form } } ∷ []
stands_after k ts (Obtain latch requestor mode form) (Queued id) =
    ts ++ record { latch = latch; request = record { id = id; caller = k; requestor = requestor; mode = mode; form = form } } ∷ []
stands_after k ts (Confirm latch id) Gone = less (is_named latch id) ts
stands_after k ts (Release latch id conditional) Gone = less (is_named latch id) ts
stands_after k ts (Release latch id conditional) (Released granted) = less (is_named latch id) ts
stands_after k ts (Purge requestor) (Purged removed granted) = less (is_for requestor) ts
stands_after k ts _ _ = ts

-- a caller's standing requests after one event on any object: only an event on the latch set changes them
abbrev pub stands_with : ℕ → List StandingRequest → Object → Op → Reply → List StandingRequest
stands_with k ts Latches (op_on.Latch op) (reply_of.Latch reply) = stands_after k ts op reply
stands_with k ts _ _ _ = ts

-- the standing requests after a list of entries, from these on
abbrev pub standing_from : List StandingRequest → List Entry → List StandingRequest
standing_from ts [] = ts
standing_from ts (e ∷ es) = standing_from (stands_with e.caller ts e.object e.op e.reply) es

-- the standing requests after the entries of one caller, in the order of their obtains
abbrev pub standing : List Entry → List StandingRequest
standing log = standing_from [] log

-- the numbers of the requests in a list rise, and the first is at least `low`
abbrev pub RisesFrom : ℕ → List Request → Type 0
RisesFrom low [] = Unit {0}
RisesFrom low (q ∷ qs) = (low ≤ q.id) × RisesFrom (q.id + 1) qs

-- ---- which operations a caller may make, by its own entries

-- whether one more obtain of this form keeps the quotas, if these are the caller's standing requests
abbrev pub keeps_quotas : Setup → List StandingRequest → LatchForm → Bool
keeps_quotas c ts form =
    nat_lt (length ts) c.quota && (not (is_posted form) || nat_lt (length (filter is_posting ts)) c.posted_quota)

-- whether a latch operation is admitted, if these are the caller's standing requests
abbrev pub latch_allowed : Setup → List StandingRequest → LatchOp → Bool
latch_allowed c ts (Obtain latch requestor mode form) = nat_lt latch c.latches && keeps_quotas c ts form
latch_allowed c ts (Confirm latch id) = nat_lt latch c.latches
latch_allowed c ts (Release latch id conditional) = nat_lt latch c.latches
latch_allowed c ts (Purge requestor) = true

-- whether an operation of a caller is admitted by the configuration and the caller's own entries, whatever others did
abbrev pub allowed : Setup → ℕ → List Entry → Object → Op → Bool
allowed c k log Latches (op_on.Latch op) = nat_lt k c.callers && posts_own_ecb c k op && latch_allowed c (standing log) op
allowed c k log o op = admitted c (opening c) k o op

-- ---- which requests a caller made

-- whether an event made the request of this number at this latch
abbrev pub makes : ℕ → ℕ → Op → Reply → Bool
makes latch id (op_on.Latch (Obtain l requestor mode form)) (reply_of.Latch (Granted i)) = if l == latch then i == id else false
makes latch id (op_on.Latch (Obtain l requestor mode form)) (reply_of.Latch (Queued i)) = if l == latch then i == id else false
makes latch id op reply = false

-- one of these entries made the request of this number at this latch
abbrev pub HasMade : ℕ → ℕ → List Entry → Type 0
HasMade latch id [] = ⊥
HasMade latch id (e ∷ es) = (makes latch id e.op e.reply ≡ true) ⊎ HasMade latch id es
