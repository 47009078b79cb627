-- Critical sections: what others cannot do while a caller holds a latch.
use Rattle.std.specs.Prelude.{◌≡◌, ℕ, ◌==◌, Bool, true, false, ◌&&◌, List, ◌∷◌, ◌++◌}
use Rattle.std.specs.List.{AllByRecursion, Contains, list_any}
use Rattle.mv_latch.specs.declared.operation.LatchOp.TheVariants.{Obtain, Confirm}
use Rattle.mv_latch.specs.declared.operation.LatchReply.TheVariants.{Granted}
use Rattle.mv_latch.specs.declared.request.Mode.TheVariants.{Exclusive}
use Rattle.mv_machine.specs.declared.entry.Entry.{Entry}
use Rattle.mv_machine.specs.declared.entry.Object.{Object}
use Rattle.mv_machine.specs.declared.entry.Op.{Op}
use Rattle.mv_machine.specs.declared.entry.Op.TheVariants as op_on
use Rattle.mv_machine.specs.declared.entry.Reply.{Reply}
use Rattle.mv_machine.specs.declared.entry.Reply.TheVariants as reply_of
use Rattle.mv_machine.specs.declared.entry.VolumeOp.TheVariants.{Write}
use Rattle.mv_machine.specs.Kept.{StandingRequest, standing}
use Rattle.mv_machine.specs.Leaving.{NoneTakesOut, WasPurged}
use Rattle.mv_machine.specs.Legal.{of}

-- whether an event shows its caller that its request of this number holds this latch: an obtain or a confirm with the reply
-- Granted
abbrev pub tells_grant : ℕ → ℕ → Op → Reply → Bool
tells_grant latch id (op_on.Latch (Obtain l requestor mode form)) (reply_of.Latch (Granted i)) = (l == latch) && (i == id)
tells_grant latch id (op_on.Latch (Confirm l asked)) (reply_of.Latch (Granted i)) = (l == latch) && (i == id)
tells_grant latch id op reply = false

-- by its caller's own entries a request is standing, and was granted
pub record HasGrant (t : StandingRequest) (log : List Entry) : Type 0 where
  pub stands : Contains (standing log) t
  pub told : list_any (λ e. tells_grant t.latch t.request.id e.op e.reply) log ≡ true

-- After these entries caller k holds the latch by this request, which no other caller purged.
pub record IsHolder (k : ℕ) (t : StandingRequest) (es : List Entry) : Type 0 where
  pub granted : HasGrant t (of k es)
  pub kept : WasPurged k t es → ⊥

-- A section of caller k: it begins after `before`, when the caller holds the latch, and goes on as long as no entry takes the
-- request out.
pub record IsSection (k : ℕ) (t : StandingRequest) (before inside : List Entry) : Type 0 where
  pub entered : IsHolder k t before
  pub stays : NoneTakesOut t inside

-- after these entries caller k holds the latch exclusively
pub record HoldsAlone (latch k : ℕ) (es : List Entry) : Type 0 where
  pub request : StandingRequest
  pub here : request.latch ≡ latch
  pub exclusive : request.request.mode ≡ Exclusive
  pub holder : IsHolder k request es

-- each event of this kind on the object is made by a caller that holds the latch exclusively
abbrev pub IsGuarded : (Op → Bool) → ℕ → Object → List Entry → Type 0
IsGuarded kind latch o es = (before later : List Entry) (e : Entry) → es ≡ before ++ e ∷ later → e.object ≡ o → kind e.op ≡ true
    → HoldsAlone latch e.caller before

-- Each event of this kind on the object is caller k's. If the request is a shared one, there is no such event.
abbrev pub AreOwn : (Op → Bool) → Object → ℕ → StandingRequest → List Entry → Type 0
AreOwn kind o k t es =
    AllByRecursion (λ e. e.object ≡ o → kind e.op ≡ true → (e.caller ≡ k) × (t.request.mode ≡ Exclusive)) es

-- whether an event is of this kind: every event is
abbrev pub any_event : Op → Bool
any_event op = true

-- whether an event is a write of a volume
abbrev pub is_write : Op → Bool
is_write (op_on.Volume (Write n)) = true
is_write op = false
