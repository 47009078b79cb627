-- What there was at a latch before an event on it: its requests, in the order of its list. Those that hold the latch come first.
use Rattle.std.specs.Prelude.{ℕ, nat_lt, List, [], ◌∷◌, ◌++◌, decimal, Option, Some, None, if◌then◌else◌}
use Rattle.mv_latch.specs.declared.operation.LatchOp.{LatchOp}
use Rattle.mv_latch.specs.declared.operation.LatchOp.TheVariants.{Obtain, Confirm, Release, Purge}
use Rattle.mv_latch.specs.declared.request.Mode.{Mode}
use Rattle.mv_latch.specs.declared.request.Mode.TheVariants.{Shared, Exclusive}
use Rattle.mv_latch.specs.declared.request.Request.{Request}
use Rattle.mv_latch.specs.LatchSet.{list_of}
use Rattle.mv_machine.specs.declared.entry.Op.{Op}
use Rattle.mv_machine.specs.declared.entry.Op.TheVariants.{Ecb, Element, Volume, Latch}
use Rattle.mv_config.specs.Setup.{Setup}
use Rattle.mv_machine.specs.System.{System}
use Rattle.mv_explain.specs.declared.sentences.TheConstants.{AT_LATCH, EXCLUSIVE, OF_REQUESTOR, OF_TASK, REQUEST, SHARED}

-- ---- the latch of an operation

-- the latch that an operation on the latch set names; a purge names none
abbrev pub latch_named : LatchOp → Option ℕ
latch_named (Obtain latch requestor mode form) = Some latch
latch_named (Confirm latch id) = Some latch
latch_named (Release latch id conditional) = Some latch
latch_named (Purge requestor) = None

-- the latch that an operation names, if it is one on the latch set
abbrev pub latch_of : Op → Option ℕ
latch_of (Ecb op) = None
latch_of (Element op) = None
latch_of (Volume op) = None
latch_of (Latch op) = latch_named op

-- ---- its requests

abbrev pub mode_text : Mode → List ℕ
mode_text Shared = SHARED.now
mode_text Exclusive = EXCLUSIVE.now

-- for which requestor a request is made
unfoldable pub requestor_text : ℕ → List ℕ
requestor_text requestor = OF_REQUESTOR.now ++ decimal requestor

-- which task makes it, and for which requestor
unfoldable pub whose_text : (caller requestor : ℕ) → List ℕ
whose_text caller requestor = (OF_TASK.now ++ decimal caller) ++ requestor_text requestor

-- a request at a latch
unfoldable pub request_text : ℕ → Request → List ℕ
request_text latch r =
    (AT_LATCH.now ++ decimal latch) ++ (REQUEST.now ++ decimal r.id) ++ whose_text r.caller r.requestor ++ mode_text r.mode

-- each of these
abbrev pub requests_text : ℕ → List Request → List ℕ
requests_text latch [] = []
requests_text latch (r ∷ rs) = request_text latch r ++ requests_text latch rs

-- the requests of a latch in this system, if the latch and its number exist
abbrev pub latch_text : Setup → System → Option ℕ → List ℕ
latch_text c s None = []
latch_text c s (Some latch) = if nat_lt latch c.latches then requests_text latch (list_of s.latches.state latch) else []
