-- Entries: their text, which entries have a text, and how it is read.
use Rattle.std.specs.Prelude.{ℕ, ◌≤◌, Bool, List, ◌++◌, Option, Some, None, codes, decimal}
use Rattle.mv_machine.specs.declared.entry.Object.{Object}
use Rattle.mv_machine.specs.declared.entry.Object.TheVariants.{Ecb, Element, Volume, Latches}
use Rattle.mv_machine.specs.declared.entry.Op.{Op}
use Rattle.mv_machine.specs.declared.entry.Op.TheVariants as op_on
use Rattle.mv_machine.specs.declared.entry.Reply.{Reply}
use Rattle.mv_machine.specs.declared.entry.Reply.TheVariants as reply_of
use Rattle.mv_machine.specs.declared.entry.Entry.{Entry}
use Rattle.mv_config.specs.Limits.{highest_place}
use Rattle.mv_operationtext.specs.Ranges.{highest_u32}
use Rattle.mv_operationtext.specs.Words.{◌<+>◌}
use Rattle.mv_operationtext.specs.Reading.{Reader, word, behind, ◌or◌, made, parted, parted_by, parted_at, number, any_u32}
use Rattle.mv_operationtext.specs.declared.version.Version.{Version}
use Rattle.mv_operationtext.specs.declared.version.Version.TheVariants.{One, Two}
use Rattle.mv_operationtext.specs.EcbText.{ecb_op_text, ecb_reply_text, IsEcbOpInRange, IsEcbReplyInRange, IsEcbReplyTyped, ecb_op, ecb_reply}
use Rattle.mv_operationtext.specs.ElementText.{element_op_text, element_reply_text, IsElementOpInRange, IsElementReplyInRange}
use Rattle.mv_operationtext.specs.ElementText.{IsElementOpTyped, element_op, element_reply}
use Rattle.mv_operationtext.specs.VolumeText.{volume_op_text, volume_reply_text, IsVolumeOpTyped, IsVolumeReplyTyped, volume_op, volume_reply}
use Rattle.mv_operationtext.specs.LatchText.{latch_op_text, latch_reply_text, IsLatchOpTyped, IsLatchReplyTyped, latch_op, latch_reply}

-- ---- words

-- the text of an object: a letter for its kind, and its number
abbrev pub object_text : Object → List ℕ
object_text (Ecb n) = codes "E" ++ decimal n
object_text (Element n) = codes "P" ++ decimal n
object_text (Volume n) = codes "V" ++ decimal n
object_text Latches = codes "L"

-- the words of an operation, with its numbers
abbrev pub op_text : Op → List ℕ
op_text (op_on.Ecb op) = ecb_op_text op
op_text (op_on.Element op) = element_op_text op
op_text (op_on.Volume op) = volume_op_text op
op_text (op_on.Latch op) = latch_op_text op

-- the words of a reply, with its numbers
abbrev pub reply_text : Reply → List ℕ
reply_text (reply_of.Ecb reply) = ecb_reply_text reply
reply_text (reply_of.Element reply) = element_reply_text reply
reply_text (reply_of.Volume reply) = volume_reply_text reply
reply_text (reply_of.Latch reply) = latch_reply_text reply

-- the text of a caller; if the number of its call is given, a point and that number follow
abbrev pub caller_text : ℕ → Option ℕ → List ℕ
caller_text caller None = decimal caller
caller_text caller (Some call) = decimal caller ++ (codes "." ++ decimal call)

-- the text of an entry's line: caller, object, place, operation, reply
unfoldable pub entry_text : Option ℕ → Entry → List ℕ
entry_text call e =
    caller_text e.caller call <+> object_text e.object <+> decimal e.place <+> op_text e.op <+> codes "=" <+> reply_text e.reply

-- ---- entries that have a text

-- the operation and the reply are of the object's kind, and each of their numbers whose range is narrower than its type is in
-- its range
abbrev pub IsEventInRange : Object → Op → Reply → Type 0
IsEventInRange (Ecb n) (op_on.Ecb op) (reply_of.Ecb reply) = IsEcbOpInRange op × IsEcbReplyInRange reply
IsEventInRange (Element n) (op_on.Element op) (reply_of.Element reply) = IsElementOpInRange op × IsElementReplyInRange reply
IsEventInRange (Volume n) (op_on.Volume op) (reply_of.Volume reply) = Unit {0}
IsEventInRange Latches (op_on.Latch op) (reply_of.Latch reply) = Unit {0}
IsEventInRange _ _ _ = ⊥

-- the place and the numbers of an entry are in their ranges
pub record IsInRange (e : Entry) : Type 0 where
  pub place : e.place ≤ highest_place
  pub event : IsEventInRange e.object e.op e.reply

-- the number of an object fits its type
abbrev pub IsObjectTyped : Object → Type 0
IsObjectTyped (Ecb n) = n ≤ highest_u32
IsObjectTyped (Element n) = n ≤ highest_u32
IsObjectTyped (Volume n) = n ≤ highest_u32
IsObjectTyped Latches = Unit {0}

-- the numbers of an operation fit their types
abbrev pub IsOpTyped : Op → Type 0
IsOpTyped (op_on.Ecb op) = Unit {0}
IsOpTyped (op_on.Element op) = IsElementOpTyped op
IsOpTyped (op_on.Volume op) = IsVolumeOpTyped op
IsOpTyped (op_on.Latch op) = IsLatchOpTyped op

-- the numbers of a reply fit their types
abbrev pub IsReplyTyped : Reply → Type 0
IsReplyTyped (reply_of.Ecb reply) = IsEcbReplyTyped reply
IsReplyTyped (reply_of.Element reply) = Unit {0}
IsReplyTyped (reply_of.Volume reply) = IsVolumeReplyTyped reply
IsReplyTyped (reply_of.Latch reply) = IsLatchReplyTyped reply

-- each number of an entry that may be any number of its type fits that type; the ranges of the others are in `IsInRange`
pub record IsTyped (e : Entry) : Type 0 where
  pub caller : e.caller ≤ highest_u32
  pub object : IsObjectTyped e.object
  pub op : IsOpTyped e.op
  pub reply : IsReplyTyped e.reply

-- an entry has a text
abbrev pub HasText : Entry → Type 0
HasText e = IsInRange e × IsTyped e

-- ---- reading

-- reads an object
unfoldable pub object_read : Bool → Reader Object
object_read strict =
    made (λ n. Ecb n) (behind (codes "E") (any_u32 strict))
    or made (λ n. Element n) (behind (codes "P") (any_u32 strict))
    or made (λ n. Volume n) (behind (codes "V") (any_u32 strict))
    or word (codes "L") Latches

-- reads an operation, and after the equals sign its reply
abbrev pub deed : {O R : Type 0} → Reader O → Reader R → Reader (O × R)
deed op reply = parted_at (codes " = ") op (λ _. reply)

-- reads an operation and a reply of the object's kind
abbrev pub deed_on : Bool → Object → Reader (Op × Reply)
deed_on strict (Ecb n) = made (λ x. (op_on.Ecb x.0, reply_of.Ecb x.1)) (deed (ecb_op strict) (ecb_reply strict))
deed_on strict (Element n) = made (λ x. (op_on.Element x.0, reply_of.Element x.1)) (deed (element_op strict) (element_reply strict))
deed_on strict (Volume n) = made (λ x. (op_on.Volume x.0, reply_of.Volume x.1)) (deed (volume_op strict) (volume_reply strict))
deed_on strict Latches = made (λ x. (op_on.Latch x.0, reply_of.Latch x.1)) (deed (latch_op strict) (latch_reply strict))

-- the entry of these parts
abbrev pub entry_of : ℕ → Object → ℕ → Op → Reply → Entry
entry_of caller object place op reply =
    record { caller = caller; object = object; place = place; op = op; reply = reply }

-- reads the rest of an entry's line after its object: a place, an operation and its reply
abbrev pub entry_on : Bool → ℕ → Object → Reader Entry
entry_on strict caller object =
    made (λ x. entry_of caller object x.0 x.1.0 x.1.1) (parted (number strict 0 highest_place) (deed_on strict object))

-- reads a caller, and in version 2 the number of its call
unfoldable pub caller_read : Bool → Version → Reader (ℕ × Option ℕ)
caller_read strict One = made (λ caller. (caller, None)) (any_u32 strict)
caller_read strict Two = made (λ x. (x.0, Some x.1)) (parted_at (codes ".") (any_u32 strict) (λ caller. any_u32 strict))

-- reads an entry, in version 2 with the number of its call
unfoldable pub entry_read : Bool → Version → Reader (Option ℕ × Entry)
entry_read strict version =
    made (λ x. (x.0.0.1, x.1))
    (parted_by (parted (caller_read strict version) (object_read strict)) (λ front. entry_on strict front.0.0 front.1))
