-- Operations on event control blocks and their replies: their words, their ranges, and how they are read.
use Rattle.std.specs.Prelude.{ℕ, ◌≤◌, Bool, List, codes, decimal}
use Rattle.mv_ecb.specs.declared.operation.EcbOp.{EcbOp}
use Rattle.mv_ecb.specs.declared.operation.EcbOp.TheVariants.{Arm, Extend, Settle, Clear, Post, Test}
use Rattle.mv_ecb.specs.declared.operation.EcbReply.{EcbReply}
use Rattle.mv_ecb.specs.declared.operation.EcbReply.TheVariants.{Armed, Linked, Complete, Waiting, Open, Posted, Woke, Already, Word}
use Rattle.mv_operationtext.specs.Ranges.{highest_u32, highest_ecb_code}
use Rattle.mv_operationtext.specs.Words.{◌<+>◌}
use Rattle.mv_operationtext.specs.Reading.{Reader, word, behind, ◌or◌, made, number, any_u32}

-- ---- words

-- the words of an operation, with its number
abbrev pub ecb_op_text : EcbOp → List ℕ
ecb_op_text Arm = codes "ARM"
ecb_op_text (Extend exit) = codes "EXTEND" <+> decimal exit
ecb_op_text Settle = codes "SETTLE"
ecb_op_text Clear = codes "CLEAR"
ecb_op_text (Post code) = codes "POST" <+> decimal code
ecb_op_text Test = codes "TEST"

-- the words of a reply, with its number
abbrev pub ecb_reply_text : EcbReply → List ℕ
ecb_reply_text Armed = codes "ARMED"
ecb_reply_text (Linked exit) = codes "LINKED" <+> decimal exit
ecb_reply_text (Complete code) = codes "COMPLETE" <+> decimal code
ecb_reply_text Waiting = codes "WAITING"
ecb_reply_text Open = codes "OPEN"
ecb_reply_text Posted = codes "POSTED"
ecb_reply_text (Woke exit) = codes "WOKE" <+> decimal exit
ecb_reply_text (Already code) = codes "ALREADY" <+> decimal code
ecb_reply_text (Word word) = codes "WORD" <+> decimal word

-- ---- ranges: those narrower than the type of a number, and those of the type

-- the numbers of an operation are in their ranges
abbrev pub IsEcbOpInRange : EcbOp → Type 0
IsEcbOpInRange (Extend exit) = (1 ≤ exit) × (exit ≤ highest_ecb_code)
IsEcbOpInRange (Post code) = code ≤ highest_ecb_code
IsEcbOpInRange _ = Unit {0}

-- the numbers of a reply are in their ranges
abbrev pub IsEcbReplyInRange : EcbReply → Type 0
IsEcbReplyInRange (Linked exit) = (1 ≤ exit) × (exit ≤ highest_ecb_code)
IsEcbReplyInRange (Complete code) = code ≤ highest_ecb_code
IsEcbReplyInRange (Woke exit) = exit ≤ highest_ecb_code
IsEcbReplyInRange (Already code) = code ≤ highest_ecb_code
IsEcbReplyInRange _ = Unit {0}

-- the number of a reply fits its type
abbrev pub IsEcbReplyTyped : EcbReply → Type 0
IsEcbReplyTyped (Word word) = word ≤ highest_u32
IsEcbReplyTyped _ = Unit {0}

-- ---- reading

-- reads the number of an exit
abbrev pub exit_number : Bool → Reader ℕ
exit_number strict = number strict 1 highest_ecb_code

-- reads a completion code, or the number of an exit or 0
abbrev pub ecb_code : Bool → Reader ℕ
ecb_code strict = number strict 0 highest_ecb_code

-- reads an operation
unfoldable pub ecb_op : Bool → Reader EcbOp
ecb_op strict =
    word (codes "ARM") Arm
    or made (λ exit. Extend exit) (behind (codes "EXTEND ") (exit_number strict))
    or word (codes "SETTLE") Settle
    or word (codes "CLEAR") Clear
    or made (λ code. Post code) (behind (codes "POST ") (ecb_code strict))
    or word (codes "TEST") Test

-- reads a reply
unfoldable pub ecb_reply : Bool → Reader EcbReply
ecb_reply strict =
    word (codes "ARMED") Armed
    or made (λ exit. Linked exit) (behind (codes "LINKED ") (exit_number strict))
    or made (λ code. Complete code) (behind (codes "COMPLETE ") (ecb_code strict))
    or word (codes "WAITING") Waiting
    or word (codes "OPEN") Open
    or word (codes "POSTED") Posted
    or made (λ exit. Woke exit) (behind (codes "WOKE ") (ecb_code strict))
    or made (λ code. Already code) (behind (codes "ALREADY ") (ecb_code strict))
    or made (λ word. Word word) (behind (codes "WORD ") (any_u32 strict))
