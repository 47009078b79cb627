-- Which callers wait at a latch, which hold it, and which can continue, after the entries of a history.
use Rattle.std.specs.Prelude.{◌≡◌, ℕ, ◌<◌, Bool, true, false, List, [], ◌∷◌, ◌++◌, ◌⊎◌}
use Rattle.std.specs.List.{Contains}
use Rattle.mv_latch.specs.declared.operation.LatchOp.TheVariants.{Confirm}
use Rattle.mv_latch.specs.declared.operation.LatchReply.TheVariants.{Granted, Gone}
use Rattle.mv_latch.specs.declared.request.Request.{Request}
use Rattle.mv_latch.specs.Latch.{granted}
use Rattle.mv_machine.specs.declared.entry.Entry.{Entry}
use Rattle.mv_machine.specs.declared.entry.Object.{Object}
use Rattle.mv_machine.specs.declared.entry.Op.{Op}
use Rattle.mv_machine.specs.declared.entry.Op.TheVariants as op_on
use Rattle.mv_machine.specs.declared.entry.Reply.TheVariants as reply_of
use Rattle.mv_machine.specs.Legal.{Legal, after, of}
use Rattle.mv_machine.specs.Orderly.{queue}
use Rattle.mv_machine.specs.Owned.{IsGranted, IsGone}
use Rattle.mv_config.specs.Setup.{Setup}
use Rattle.mv_calls.specs.Rest.{open_waits}
use Rattle.mv_ordered.specs.LatchOrder.{ObtainsInRisingOrder, WaitsWithoutLatches}

-- a legal history in which each caller obtains latches in rising order
pub record IsOrdered (c : Setup) (es : List Entry) : Type 0 where
  pub legal : Legal c es
  pub order : (k : ℕ) → k < c.callers → ObtainsInRisingOrder (of k es)

-- a legal history in which each caller keeps the lock discipline: it also waits for blocks and pauses only while it has no
-- request at a latch
pub record KeepsLockDiscipline (c : Setup) (es : List Entry) : Type 0 where
  pub ordered : IsOrdered c es
  pub apart : (k : ℕ) → k < c.callers → WaitsWithoutLatches (of k es)

-- caller k waits at a latch: by its own log its wait for a request is open, and the request is in the latch's list but not granted
pub record WaitsAt (c : Setup) (es : List Entry) (k latch : ℕ) : Type 0 where
  pub request : Request
  pub mine : request.caller ≡ k
  pub waits : (open_waits (of k es)).queued latch request.id ≡ true
  pub listed : Contains (queue c es latch) request
  pub ungranted : Contains (granted (queue c es latch)) request → ⊥

-- caller k holds a latch: it has a granted request at it
pub record HoldsAt (c : Setup) (es : List Entry) (k latch : ℕ) : Type 0 where
  pub request : Request
  pub mine : request.caller ≡ k
  pub holds : Contains (granted (queue c es latch)) request

-- caller k waits at a latch that caller j holds
pub record WaitsFor (c : Setup) (es : List Entry) (k j : ℕ) : Type 0 where
  pub latch : ℕ
  pub waits : WaitsAt c es k latch
  pub holds : HoldsAt c es j latch

-- caller k waits for the first caller of a path, each of these for the next, and the last one for caller j
abbrev pub LeadsTo : Setup → List Entry → ℕ → List ℕ → ℕ → Type 0
LeadsTo c es k [] j = WaitsFor c es k j
LeadsTo c es k (i ∷ path) j = WaitsFor c es k i × LeadsTo c es i path j

-- caller k waits at no latch: each request that it waits for by its own log is granted, or gone from the latch's list
abbrev pub WaitsAtNoLatch : Setup → List Entry → ℕ → Type 0
WaitsAtNoLatch c es k = (latch id : ℕ) → (open_waits (of k es)).queued latch id ≡ true
    → IsGranted k latch id (after c es) ⊎ IsGone k latch id (after c es)

-- Caller k can continue: it has armed no block, no pause of it is parked, and it waits at no latch. If its log has an open wait
-- for a request, its next confirm ends that wait.
pub record CanContinue (c : Setup) (es : List Entry) (k : ℕ) : Type 0 where
  pub armed : (n : ℕ) → (open_waits (of k es)).armed n ≡ false
  pub parked : (n : ℕ) → (open_waits (of k es)).parked n ≡ false
  pub latches : WaitsAtNoLatch c es k

-- The entry is caller k's, makes this operation, and leaves the history legal. If the operation is a confirm of a request that the caller
-- waits for, the confirm is not too early.
pub record IsNextEvent (c : Setup) (es : List Entry) (k : ℕ) (o : Object) (op : Op) (e : Entry) : Type 0 where
  pub mine : e.caller ≡ k
  pub object : e.object ≡ o
  pub operation : e.op ≡ op
  pub legal : Legal c (es ++ e ∷ [])
  pub timely : (latch id : ℕ) → op ≡ op_on.Latch (Confirm latch id) → (open_waits (of k es)).queued latch id ≡ true
      → (e.reply ≡ reply_of.Latch (Granted id)) ⊎ (e.reply ≡ reply_of.Latch Gone)

-- caller k leads to a caller that holds a latch and waits at none
pub record LeadsToHolder (c : Setup) (es : List Entry) (k : ℕ) : Type 0 where
  pub holder : ℕ
  pub path : List ℕ
  pub leads : LeadsTo c es k path holder
  pub free : WaitsAtNoLatch c es holder

-- caller k leads to a caller that holds a latch and can continue
pub record LeadsToOneThatContinues (c : Setup) (es : List Entry) (k : ℕ) : Type 0 where
  pub holder : ℕ
  pub path : List ℕ
  pub leads : LeadsTo c es k path holder
  pub continues : CanContinue c es holder

-- no deadlock at latches: at each moment of the history, a caller that waits at a latch leads to one that can continue
abbrev pub HasNoLatchDeadlock : Setup → List Entry → Type 0
HasNoLatchDeadlock c es = (before later : List Entry) (k latch : ℕ) → es ≡ before ++ later → WaitsAt c before k latch
    → LeadsToOneThatContinues c before k

-- some unfinished caller can continue
pub record SomeoneContinues (c : Setup) (es : List Entry) (finished : ℕ → Bool) : Type 0 where
  pub caller : ℕ
  pub exists : caller < c.callers
  pub unfinished : finished caller ≡ false
  pub continues : CanContinue c es caller
