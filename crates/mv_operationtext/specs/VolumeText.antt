-- Operations on volumes and their replies: their words, their ranges, and how they are read.
use Rattle.std.specs.Prelude.{ℕ, ◌≤◌, Bool, List, codes, decimal}
use Rattle.mv_machine.specs.declared.entry.VolumeOp.{VolumeOp}
use Rattle.mv_machine.specs.declared.entry.VolumeOp.TheVariants.{Read, Write}
use Rattle.mv_machine.specs.declared.entry.VolumeReply.{VolumeReply}
use Rattle.mv_machine.specs.declared.entry.VolumeReply.TheVariants.{Value, Stored}
use Rattle.mv_operationtext.specs.Ranges.{highest_u32}
use Rattle.mv_operationtext.specs.Words.{◌<+>◌}
use Rattle.mv_operationtext.specs.Reading.{Reader, word, behind, ◌or◌, made, any_u32}

-- the words of an operation, with its number
abbrev pub volume_op_text : VolumeOp → List ℕ
volume_op_text Read = codes "READ"
volume_op_text (Write number) = codes "WRITE" <+> decimal number

-- the words of a reply, with its number
abbrev pub volume_reply_text : VolumeReply → List ℕ
volume_reply_text (Value number) = codes "VALUE" <+> decimal number
volume_reply_text Stored = codes "STORED"

-- the number of an operation fits its type
abbrev pub IsVolumeOpTyped : VolumeOp → Type 0
IsVolumeOpTyped Read = Unit {0}
IsVolumeOpTyped (Write number) = number ≤ highest_u32

-- the number of a reply fits its type
abbrev pub IsVolumeReplyTyped : VolumeReply → Type 0
IsVolumeReplyTyped (Value number) = number ≤ highest_u32
IsVolumeReplyTyped Stored = Unit {0}

-- reads an operation
unfoldable pub volume_op : Bool → Reader VolumeOp
volume_op strict =
    word (codes "READ") Read
    or made (λ number. Write number) (behind (codes "WRITE ") (any_u32 strict))

-- reads a reply
unfoldable pub volume_reply : Bool → Reader VolumeReply
volume_reply strict =
    made (λ number. Value number) (behind (codes "VALUE ") (any_u32 strict))
    or word (codes "STORED") Stored
