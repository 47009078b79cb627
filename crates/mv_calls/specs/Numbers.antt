-- The call numbers of a history: to which call of its caller each entry belongs.
use Rattle.std.specs.Prelude.{ℕ, ◌+◌, ◌==◌, Bool, true, false, List, [], ◌∷◌, ◌++◌, Option, Some, None, if◌then◌else◌}
use Rattle.mv_ecb.specs.declared.operation.EcbOp.{EcbOp}
use Rattle.mv_ecb.specs.declared.operation.EcbOp.TheVariants as ecb_op
use Rattle.mv_ecb.specs.declared.operation.EcbReply.TheVariants as ecb_reply
use Rattle.mv_element.specs.declared.operation.ElementOp.TheVariants as element_op
use Rattle.mv_element.specs.declared.operation.ElementReply.TheVariants as element_reply
use Rattle.mv_latch.specs.declared.operation.LatchOp.TheVariants as latch_op
use Rattle.mv_latch.specs.declared.operation.LatchReply.TheVariants as latch_reply
use Rattle.mv_latch.specs.declared.operation.Wake.{Wake}
use Rattle.mv_latch.specs.declared.request.LatchForm.TheVariants as form_of
use Rattle.mv_latch.specs.LatchSet.{wakes}
use Rattle.mv_machine.specs.declared.entry.Entry.{Entry}
use Rattle.mv_machine.specs.declared.entry.Object.{Object}
use Rattle.mv_machine.specs.declared.entry.Object.TheVariants.{Ecb, Element, Latches}
use Rattle.mv_machine.specs.declared.entry.Op.{Op}
use Rattle.mv_machine.specs.declared.entry.Op.TheVariants as op_on
use Rattle.mv_machine.specs.declared.entry.Reply.{Reply}
use Rattle.mv_machine.specs.declared.entry.Reply.TheVariants as reply_of
use Rattle.mv_machine.specs.Legal.{next}
use Rattle.mv_config.specs.Setup.{Setup, targets_of}
use Rattle.mv_machine.specs.System.{System, opening, with_at}
use Rattle.mv_machine.specs.Waking.{blocks_of}
use Rattle.mv_calls.specs.declared.counting.Last.{Last}
use Rattle.mv_calls.specs.declared.counting.Last.TheVariants.{Armed, Accepted, Queued, Other}

-- a caller's numbering: the number of the group of its last entry, the blocks whose posts may still follow in that group, and
-- what its last entry leaves to the next
pub record Numbering : Type 0 where
  pub group : ℕ
  pub pending : List ℕ
  pub last : Option Last

-- the numbering before a caller's first entry
abbrev pub unnumbered : Numbering
unnumbered = record { group = 0; pending = []; last = None }

-- ---- which entries continue the group

-- what an entry leaves to its caller's next: it began to wait on a block; its release of an element was accepted; its request
-- was queued, and its task waits for it; or nothing of these
abbrev pub last_of : Op → Reply → Last
last_of (op_on.Ecb ecb_op.Arm) reply = Armed
last_of (op_on.Element (element_op.Release g code)) (reply_of.Element element_reply.Early) = Accepted
last_of (op_on.Element (element_op.Release g code)) (reply_of.Element element_reply.Woke) = Accepted
last_of (op_on.Latch (latch_op.Obtain latch requestor mode form_of.Waiting)) (reply_of.Latch (latch_reply.Queued id)) = Queued
last_of op reply = Other

-- whether the last entry began to wait on a block
abbrev pub is_armed : Option Last → Bool
is_armed (Some Armed) = true
is_armed last = false

-- whether the last entry was an accepted release of an element
abbrev pub is_accepted : Option Last → Bool
is_accepted (Some Accepted) = true
is_accepted last = false

-- whether the last entry was a request that was queued, and for which its task waits
abbrev pub is_queued : Option Last → Bool
is_queued (Some Queued) = true
is_queued last = false

-- whether a block is the first of these
abbrev pub is_first : ℕ → List ℕ → Bool
is_first e [] = false
is_first e (p ∷ ps) = e == p

-- Whether an entry continues the group: a settle and a resume do; an arm does after an arm; a confirm after a request was
-- queued for which its task waits; a pause after an accepted release; a post of the first pending block. No other entry does.
abbrev pub continues : Numbering → Object → Op → Bool
continues t (Ecb e) (op_on.Ecb ecb_op.Settle) = true
continues t (Ecb e) (op_on.Ecb ecb_op.Arm) = is_armed t.last
continues t (Ecb e) (op_on.Ecb (ecb_op.Post code)) = is_first e t.pending
continues t (Element n) (op_on.Element (element_op.Resume g)) = true
continues t (Element n) (op_on.Element (element_op.Pause g)) = is_accepted t.last
continues t Latches (op_on.Latch (latch_op.Confirm latch id)) = is_queued t.last
continues t object op = false

-- the group of an entry: a caller's first entry is of group 0, whatever it is; a later entry that does not continue begins the
-- next group
abbrev pub group_after : Option Last → ℕ → Bool → ℕ
group_after None g continued = g
group_after (Some last) g true = g
group_after (Some last) g false = g + 1

-- ---- which posts may follow

-- the targets of the exit that a post started, if it started one
abbrev pub targets_run : Setup → EcbOp → Reply → List ℕ
targets_run c (ecb_op.Post code) (reply_of.Ecb (ecb_reply.Woke x)) = targets_of c x
targets_run c op reply = []

-- the blocks that a call still has to post because of this entry: the targets of the exit that a post started, and the blocks of
-- the requests that a release (with the reply Released) or a purge granted or took out
abbrev pub asked : Setup → Object → Op → Reply → List Wake → List ℕ
asked c (Ecb e) (op_on.Ecb op) reply ws = targets_run c op reply
asked c Latches (op_on.Latch (latch_op.Release latch id conditional)) (reply_of.Latch (latch_reply.Released granted)) ws = blocks_of ws
asked c Latches (op_on.Latch (latch_op.Purge requestor)) reply ws = blocks_of ws
asked c object op reply ws = []

-- what stays pending of these blocks: all but the first if the entry is a post of the first; otherwise none
abbrev pub kept_pending : List ℕ → Object → Op → List ℕ
kept_pending (p ∷ ps) (Ecb e) (op_on.Ecb (ecb_op.Post code)) = if e == p then ps else []
kept_pending pending object op = []

-- a caller's numbering after one more of its entries, with the entry's wakes
abbrev pub numbered : Setup → Numbering → Entry → List Wake → Numbering
numbered c t e ws = record {
  group = group_after t.last t.group (continues t e.object e.op);
  pending = asked c e.object e.op e.reply ws ++ kept_pending t.pending e.object e.op;
  last = Some (last_of e.op e.reply);
}

-- ---- a history

-- the wakes of an event; only an event on the latch set has any
abbrev pub wakes_at : System → ℕ → Object → Op → List Wake
wakes_at s k Latches (op_on.Latch op) = wakes k op s.latches.state
wakes_at s k object op = []

-- the numbering of an entry's caller after the entry, from these numberings of all callers
abbrev pub numbered_at : Setup → System → (ℕ → Numbering) → Entry → Numbering
numbered_at c s table e = numbered c (table e.caller) e (wakes_at s e.caller e.object e.op)

-- the numbering of each caller after these entries, from these numberings on
abbrev pub numbering_from : Setup → System → (ℕ → Numbering) → List Entry → ℕ → Numbering
numbering_from c s table [] = table
numbering_from c s table (e ∷ es) = numbering_from c (next s e) (with_at table e.caller (numbered_at c s table e)) es

-- the numbering of each caller after a history
abbrev pub numbering_after : Setup → List Entry → ℕ → Numbering
numbering_after c es = numbering_from c (opening c) (λ k. unnumbered) es

-- the call number of each entry, from these numberings of all callers
abbrev pub calls_from : Setup → System → (ℕ → Numbering) → List Entry → List ℕ
calls_from c s table [] = []
calls_from c s table (e ∷ es) = (numbered_at c s table e).group ∷ calls_from c (next s e)
    (with_at table e.caller (numbered_at c s table e)) es

-- the call numbers of a history
abbrev pub calls : Setup → List Entry → List ℕ
calls c es = calls_from c (opening c) (λ k. unnumbered) es

-- the call numbers of one caller's entries, in order
abbrev pub numbers_of : ℕ → List Entry → List ℕ → List ℕ
numbers_of k (e ∷ es) (n ∷ ns) = if e.caller == k then n ∷ numbers_of k es ns else numbers_of k es ns
numbers_of k es ns = []
