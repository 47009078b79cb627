-- The parts of a wait: its blocks are armed, and later settled.
use Rattle.std.specs.Prelude.{◌≡◌, ℕ, ◌<◌, ◌≤◌, ◌==◌, false, List, ◌++◌, length, get_or, slice_index, None, Result}
use Rattle.std.specs.List.{AllByRecursion, list_any}
use Rattle.mv_ecb.specs.Table.{code_limit}
use Rattle.mv_ecb.specs.declared.operation.EcbOp.TheVariants.{Settle}
use Rattle.mv_ecb.specs.declared.operation.EcbReply.{EcbReply}
use Rattle.mv_ecb.specs.declared.operation.EcbReply.TheVariants as ecb_reply
use Rattle.mv_machine.specs.declared.entry.Entry.{Entry}
use Rattle.mv_machine.specs.declared.entry.Object.TheVariants.{Ecb}
use Rattle.mv_machine.specs.declared.entry.Op.TheVariants as op_on
use Rattle.mv_machine.specs.declared.entry.Reply.TheVariants as reply_of
use Rattle.mv_config.specs.Setup.{Setup, owner_of}
use Rattle.mv_board.specs.Faces.{CallerFace, Happened}
use Rattle.mv_calls.specs.Keeping.{kept_of}
use Rattle.mv_calls.specs.Program.{Program}
use Rattle.mv_calls.specs.Refusal.{Refusal}
use Rattle.mv_calls.specs.Rest.{no_waits, waits_from}
use Rattle.mv_calls.specs.Waits.{arm_all, settle_all, complete_count, wait_refusal, AreDistinct}
use Rattle.mv_calls.specs.Exits.{StartsExit}
use Rattle.mv_wait.specs.declared.waiting.WaitRefusal.{WaitRefusal}
use Rattle.mv_wait.specs.declared.waiting.WaitRefusal.TheVariants as refusal
use Rattle.mv_calls.specs.declared.outcomes.WaitSlot.{WaitSlot}
use Rattle.mv_calls.specs.declared.outcomes.WaitSlot.TheVariants as slot
use Rattle.mv_wait.specs.Run.{Runs}

-- these blocks exist, and are owned by caller k
abbrev pub AreOwn : Setup → ℕ → List ℕ → Type 0
AreOwn c k es = AllByRecursion (λ e. (e < length c.owners) × (owner_of c e ≡ k)) es

-- the first n of these blocks exist, and are owned by caller k
abbrev pub AreOwnUpTo : Setup → ℕ → List ℕ → ℕ → Type 0
AreOwnUpTo c k es n = (j : ℕ) → j < n → (get_or es j 0 < length c.owners) × (owner_of c (get_or es j 0) ≡ k)

-- by its log the task holds none of these blocks extended
abbrev pub ArePlain : CallerFace → List ℕ → Type 0
ArePlain t es = AllByRecursion (λ e. (kept_of t.number t.log).extended e ≡ false) es

-- by this log exactly these blocks are armed, no pause is open, and no request waits to be confirmed
pub record IsArmedFor (es : List ℕ) (log : List Entry) : Type 0 where
  pub armed : (n : ℕ) → (waits_from no_waits log).armed n ≡ list_any (λ e. n == e) es
  pub parked : (n : ℕ) → (waits_from no_waits log).parked n ≡ false
  pub queued : (latch id : ℕ) → (waits_from no_waits log).queued latch id ≡ false

-- the answer of a wait in the programs
abbrev pub Waited : Type 0
Waited = Result (List WaitSlot) Refusal

-- the task armed each of these blocks, in the order of the list, whatever program follows
abbrev pub ArmsAll : List ℕ → CallerFace → CallerFace → Type 0
ArmsAll es t u = (p : Program Waited) → Runs (length es) (arm_all es p) p t u

-- the wait was accepted, and the task armed each of its blocks
pub record IsArmed (c : Setup) (count : ℕ) (es : List ℕ) (t u : CallerFace) : Type 0 where
  pub accepted : wait_refusal c count es (kept_of t.number t.log) ≡ None
  pub arms : ArmsAll es t u
  pub waits : IsArmedFor es u.log
  pub own : AreOwn c u.number es
  pub plain : ArePlain u es
  pub distinct : AreDistinct es

-- the task settled each of these blocks with these slots, whatever program follows
abbrev pub SettlesAll : List ℕ → List WaitSlot → CallerFace → CallerFace → Type 0
SettlesAll es slots t u = (found : List WaitSlot) (f : List WaitSlot → Program Waited)
    → Runs (length es) (settle_all es found f) (f (found ++ slots)) t u

-- the task settled each of these blocks with these slots, of which at least `count` are complete
pub record SettlesEnough (count : ℕ) (es : List ℕ) (slots : List WaitSlot) (t u : CallerFace) : Type 0 where
  pub settles : SettlesAll es slots t u
  pub enough : count ≤ complete_count slots

-- the reply to the event of a settle that found this
abbrev pub settle_reply : WaitSlot → EcbReply
settle_reply (slot.Complete code) = ecb_reply.Complete code
settle_reply slot.Open = ecb_reply.Open

-- the task settled block e, with this outcome
abbrev pub IsBlockSettled : ℕ → CallerFace → WaitSlot → CallerFace → Type 0
IsBlockSettled e t found u = Happened t (Ecb e) (op_on.Ecb Settle) (reply_of.Ecb (settle_reply found)) u

-- the slot has a code
abbrev pub IsComplete : WaitSlot → Type 0
IsComplete found = (code : ℕ) × (found ≡ slot.Complete code)

-- the slot's code, if it has one, is below `code_limit`
abbrev pub HasLowCode : WaitSlot → Type 0
HasLowCode (slot.Complete code) = code < code_limit
HasLowCode slot.Open = Unit {0}

-- if the wait is refused because a block is extended, an exit starts from that block
abbrev pub NamesSource : Setup → List ℕ → WaitRefusal → Type 0
NamesSource c es (refusal.Extended p) = StartsExit c (slice_index es p)
NamesSource c es refusal.TooMany = Unit {0}
NamesSource c es (refusal.Doubled p) = Unit {0}
NamesSource c es (refusal.NotOwner p) = Unit {0}
