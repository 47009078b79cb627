-- What a list of entries says of an event control block. The clauses of programs cite this.
use Rattle.std.specs.Prelude.{◌≡◌, ℕ, List}
use Rattle.std.specs.List.{Contains}
use Rattle.mv_ecb.specs.declared.operation.EcbOp.TheVariants.{Post}
use Rattle.mv_ecb.specs.declared.operation.EcbReply.{EcbReply}
use Rattle.mv_ecb.specs.declared.operation.EcbReply.TheVariants.{Complete, Posted, Woke}
use Rattle.mv_machine.specs.declared.entry.Entry.{Entry}
use Rattle.mv_machine.specs.declared.entry.Object.TheVariants.{Ecb}
use Rattle.mv_machine.specs.declared.entry.Op.TheVariants as op_on
use Rattle.mv_machine.specs.declared.entry.Reply.TheVariants as reply_of

-- one of these entries found the block complete with this code
pub record Finds (es : List Entry) (block code : ℕ) : Type 0 where
  pub entry : Entry
  pub member : Contains es entry
  pub object : entry.object ≡ Ecb block
  pub found : entry.reply ≡ reply_of.Ecb (Complete code)

-- whether the reply to a post says that it completed its block
abbrev pub IsAccepted : EcbReply → Type 0
IsAccepted Posted = Unit {0}
IsAccepted (Woke exit) = Unit {0}
IsAccepted reply = ⊥

-- one of these entries is a post that completed the block with this code
pub record IsPosted (es : List Entry) (block code : ℕ) : Type 0 where
  pub entry : Entry
  pub member : Contains es entry
  pub object : entry.object ≡ Ecb block
  pub post : entry.op ≡ op_on.Ecb (Post code)
  pub told : EcbReply
  pub reply : entry.reply ≡ reply_of.Ecb told
  pub accepted : IsAccepted told
