-- The volumes in a run: nothing comes between the read and the write of a COUNT, a SCAN reads one number twice, and the volumes
-- end with the totals of the deck.
use Rattle.std.specs.Prelude.{◌≡◌, ℕ, ◌+◌, List, [], ◌∷◌, ◌++◌}
use Rattle.mv_machine.specs.declared.entry.Entry.{Entry}
use Rattle.mv_machine.specs.declared.entry.Object.TheVariants.{Volume}
use Rattle.mv_machine.specs.declared.entry.Op.TheVariants as op_on
use Rattle.mv_machine.specs.declared.entry.Reply.TheVariants as reply_of
use Rattle.mv_machine.specs.declared.entry.VolumeOp.TheVariants.{Read, Write}
use Rattle.mv_machine.specs.declared.entry.VolumeReply.TheVariants.{Value}
use Rattle.mv_machine.specs.Legal.{after, of, «at»}
use Rattle.mv_deck.specs.Deck.{JobData}
use Rattle.mv_report.specs.Outcome.{total}
use Rattle.mv_plan.specs.SpoolSetup.{spool_setup}

-- The last of these entries that is caller k's is a read of volume v; n is the number that it returned plus an amount; and no
-- entry after it is on the volume.
pub record IsCountedBy (k v n : ℕ) (es : List Entry) : Type 0 where
  pub front : List Entry
  pub read : Entry
  pub behind : List Entry
  pub number : ℕ
  pub amount : ℕ
  pub is : es ≡ front ++ read ∷ behind
  pub caller : read.caller ≡ k
  pub object : read.object ≡ Volume v
  pub op : read.op ≡ op_on.Volume Read
  pub reply : read.reply ≡ reply_of.Volume (Value number)
  pub sum : n ≡ number + amount
  pub last : of k behind ≡ []
  pub alone : «at» (Volume v) behind ≡ []

-- each write of a volume belongs to a COUNT: its caller's read comes before it, with no entry on the volume between them
abbrev pub CountsStandAlone : List Entry → Type 0
CountsStandAlone es =
    (front rest : List Entry) (e : Entry) (v n : ℕ) → es ≡ front ++ e ∷ rest
    → e.object ≡ Volume v → e.op ≡ op_on.Volume (Write n) → IsCountedBy e.caller v n front

-- two reads of a volume that follow each other among their caller's entries, as those of a SCAN do, return the same number
abbrev pub ScansAreSteady : List Entry → Type 0
ScansAreSteady es =
    (front between rest : List Entry) (once again : Entry) (v : ℕ) → es ≡ front ++ once ∷ (between ++ again ∷ rest)
    → once.object ≡ Volume v → once.op ≡ op_on.Volume Read → again.object ≡ Volume v → again.op ≡ op_on.Volume Read
    → once.caller ≡ again.caller → of again.caller between ≡ [] → once.reply ≡ again.reply

-- a COUNT has its volume to itself, a SCAN reads one number twice, and in the end each volume has the sum of what was counted in
-- it
pub record AreCountedAlone (deck : List JobData) (initiators : ℕ) (es : List Entry) : Type 0 where
  pub counts : CountsStandAlone es
  pub scans : ScansAreSteady es
  -- the number in each volume at the end is its total
  pub totals : (v : ℕ) → ((after (spool_setup deck initiators) es).volume v).state ≡ total deck v
