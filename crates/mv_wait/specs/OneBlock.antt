-- What a wait for one block adds to its task's log.
use Rattle.std.specs.Prelude.{◌≡◌, ℕ, ◌+◌, [], ◌∷◌, ◌++◌}
use Rattle.mv_ecb.specs.declared.operation.EcbOp.TheVariants.{Arm, Settle}
use Rattle.mv_ecb.specs.declared.operation.EcbReply.TheVariants.{Complete}
use Rattle.mv_machine.specs.declared.entry.Entry.{Entry}
use Rattle.mv_machine.specs.declared.entry.Object.TheVariants.{Ecb}
use Rattle.mv_machine.specs.declared.entry.Op.TheVariants as op_on
use Rattle.mv_machine.specs.declared.entry.Reply.TheVariants as reply_of
use Rattle.mv_board.specs.Faces.{CallerFace}

-- the task armed this block, and settled it when it was complete with this code; these are the two entries that its log got
pub record WaitedFor (ecb code : ℕ) (t u : CallerFace) : Type 0 where
  pub first : Entry
  pub second : Entry
  pub number : u.number ≡ t.number
  pub logged : u.log ≡ t.log ++ first ∷ second ∷ []
  pub left : u.left + 2 ≡ t.left
  pub arm : (first.object ≡ Ecb ecb) × (first.op ≡ op_on.Ecb Arm)
  pub settle : (second.object ≡ Ecb ecb) × (second.op ≡ op_on.Ecb Settle)
  pub found : second.reply ≡ reply_of.Ecb (Complete code)
