-- Which posts of an event control block are taken between two of its clears.
use Rattle.std.specs.Prelude.{◌≡◌, ℕ, ◌==◌, ◌≤◌, Bool, true, false, IsTrue, List, [], ◌∷◌, ◌++◌, length, ◌⊎◌, Option, Some, None}
use Rattle.std.specs.Prelude.{if◌then◌else◌}
use Rattle.std.specs.List.{filter_map, AllByRecursion}
use Rattle.mv_ecb.specs.declared.operation.EcbOp.{EcbOp}
use Rattle.mv_ecb.specs.declared.operation.EcbOp.TheVariants.{Clear, Post}
use Rattle.mv_ecb.specs.declared.operation.EcbReply.{EcbReply}
use Rattle.mv_ecb.specs.declared.operation.EcbReply.TheVariants.{Posted, Woke, Already}
use Rattle.mv_machine.specs.declared.entry.Object.{Object}
use Rattle.mv_machine.specs.declared.entry.Object.TheVariants.{Ecb}
use Rattle.mv_machine.specs.declared.entry.Op.{Op}
use Rattle.mv_machine.specs.declared.entry.Op.TheVariants as op_on
use Rattle.mv_machine.specs.declared.entry.Reply.{Reply}
use Rattle.mv_machine.specs.declared.entry.Reply.TheVariants as reply_of
use Rattle.mv_machine.specs.declared.entry.Entry.{Entry}
use Rattle.mv_machine.specs.Elements.{Event}

-- an event on a block
abbrev pub EcbEvent : Type 0
EcbEvent = Event EcbOp EcbReply

-- an entry's fields as an event on this block, if they are one
abbrev pub ecb_event : ℕ → ℕ → Object → ℕ → Op → Reply → Option EcbEvent
ecb_event n k (Ecb m) p (op_on.Ecb op) (reply_of.Ecb r) = if m == n then Some (record { caller = k; place = p; op = op; reply = r }) else
    None
ecb_event n k _ p _ _ = None

-- an entry as an event on this block, if it is one
abbrev pub as_ecb_event : ℕ → Entry → Option EcbEvent
as_ecb_event n e = ecb_event n e.caller e.object e.place e.op e.reply

-- the events on one block, in order
abbrev pub ecb_events : ℕ → List Entry → List EcbEvent
ecb_events n es = filter_map (as_ecb_event n) es

-- whether an operation clears the block
abbrev pub clears : EcbOp → Bool
clears Clear = true
clears _ = false

-- the code of a post that completed its block, if the event is one: no task waited, or it woke a task or began an exit
abbrev pub taken_code : EcbOp → EcbReply → Option ℕ
taken_code (Post d) Posted = Some d
taken_code (Post d) (Woke x) = Some d
taken_code _ _ = None

-- the codes of the posts that completed the block
abbrev pub taken : List EcbEvent → List ℕ
taken vs = filter_map (λ v. taken_code v.op v.reply) vs

-- there are no events, or the last one is a clear
abbrev pub EndsCleared : List EcbEvent → Type 0
EndsCleared vs = (vs ≡ []) ⊎ ((earlier : List EcbEvent) × (v : EcbEvent) × (vs ≡ earlier ++ v ∷ []) × IsTrue (clears v.op))

-- a stretch of a block's events: it has no clear in it, and begins with the block's first event or just after a clear
pub record IsStretch (vs stretch : List EcbEvent) : Type 0 where
  pub before : List EcbEvent
  pub later : List EcbEvent
  pub split : vs ≡ before ++ (stretch ++ later)
  pub begins : EndsCleared before
  pub unbroken : AllByRecursion (λ v. clears v.op ≡ false) stretch

-- At most one post of a stretch is taken. A reply Already comes after the taken post and names its code. If the stretch has a
-- post, one of its posts is taken.
pub record TakesOnePost (stretch : List EcbEvent) : Type 0 where
  pub once : length (taken stretch) ≤ 1
  pub already : (before later : List EcbEvent) (v : EcbEvent) (code : ℕ) → stretch ≡ before ++ v ∷ later → v.reply ≡ Already code
      → taken before ≡ code ∷ []
  pub some : (before later : List EcbEvent) (v : EcbEvent) (code : ℕ) → stretch ≡ before ++ v ∷ later → v.op ≡ Post code
      → 1 ≤ length (taken stretch)

-- each stretch of each block takes at most one post, as `TakesOnePost` says
abbrev pub TakePosts : List Entry → Type 0
TakePosts es = (n : ℕ) (stretch : List EcbEvent) → IsStretch (ecb_events n es) stretch → TakesOnePost stretch
