-- The lock order, as a discipline of one caller's log: the caller obtains latches in rising order, and waits for nothing else
-- while it has a request at a latch.
use Rattle.std.specs.Prelude.{◌≡◌, ℕ, ◌<◌, Bool, true, false, List, [], ◌∷◌, ◌++◌}
use Rattle.std.specs.List.{AllByRecursion}
use Rattle.mv_ecb.specs.declared.operation.EcbOp.TheVariants.{Arm}
use Rattle.mv_element.specs.declared.operation.ElementOp.TheVariants.{Pause}
use Rattle.mv_latch.specs.declared.operation.LatchOp.TheVariants.{Obtain}
use Rattle.mv_latch.specs.declared.request.LatchForm.{LatchForm}
use Rattle.mv_latch.specs.declared.request.LatchForm.TheVariants.{Waiting}
use Rattle.mv_machine.specs.declared.entry.Entry.{Entry}
use Rattle.mv_machine.specs.declared.entry.Op.{Op}
use Rattle.mv_machine.specs.declared.entry.Op.TheVariants as op_on
use Rattle.mv_machine.specs.Kept.{StandingRequest, standing}
use Rattle.mv_calls.specs.Rest.{IsAtRest}

-- each of these requests is at a latch below this one
abbrev pub AreBelow : ℕ → List StandingRequest → Type 0
AreBelow latch requests = AllByRecursion (λ t. t.latch < latch) requests

-- A caller with this log may obtain a latch: none of its waits is open, as at the beginning of each call; and if the obtain can
-- wait, each latch at which the caller has a request has a lower number. An obtain of the Conditional or the Posted form does
-- not wait.
pub record MayObtain (log : List Entry) (latch : ℕ) (form : LatchForm) : Type 0 where
  pub rest : IsAtRest log
  pub above : form ≡ Waiting → AreBelow latch (standing log)

-- a caller with this log keeps the order if it makes this operation: an obtain must be allowed, and any other operation may be
-- made at any time
abbrev pub KeepsOrder : List Entry → Op → Type 0
KeepsOrder log (op_on.Latch (Obtain latch requestor mode form)) = MayObtain log latch form
KeepsOrder log op = Unit {0}

-- a caller with this log has obtained latches in rising order
abbrev pub ObtainsInRisingOrder : List Entry → Type 0
ObtainsInRisingOrder log = (before later : List Entry) (e : Entry) → log ≡ before ++ e ∷ later → KeepsOrder before e.op

-- whether an operation begins a wait for a block, or a pause
abbrev pub begins_wait : Op → Bool
begins_wait (op_on.Ecb Arm) = true
begins_wait (op_on.Element (Pause generation)) = true
begins_wait op = false

-- a caller with this log began its waits for blocks, and its pauses, only while it had no request at a latch
abbrev pub WaitsWithoutLatches : List Entry → Type 0
WaitsWithoutLatches log = (before later : List Entry) (e : Entry) → log ≡ before ++ e ∷ later → begins_wait e.op ≡ true
    → standing before ≡ []

-- a caller with this log keeps the lock discipline
pub record HasLockDiscipline (log : List Entry) : Type 0 where
  pub order : ObtainsInRisingOrder log
  pub apart : WaitsWithoutLatches log
