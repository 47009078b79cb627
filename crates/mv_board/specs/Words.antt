-- Which word of the table belongs to which object, and how an operation changes a word.
use Rattle.std.specs.Prelude.{ℕ, ◌+◌, ◌*◌, ◌-◌, ◌%◌, ◌^◌, ◌==◌, nat_le, nat_lt, Bool, true, ◌&&◌, length, Option, None}
use Rattle.std.specs.Prelude.{option_map, option_and_then, if◌then◌else◌}
use Rattle.mv_machine.specs.declared.entry.Object.{Object}
use Rattle.mv_machine.specs.declared.entry.Object.TheVariants.{Ecb, Element, Volume, Latches}
use Rattle.mv_machine.specs.declared.entry.Op.{Op}
use Rattle.mv_machine.specs.declared.entry.Op.TheVariants as op_on
use Rattle.mv_machine.specs.declared.entry.Reply.{Reply}
use Rattle.mv_machine.specs.declared.entry.VolumeOp.TheVariants.{Read}
use Rattle.mv_machine.specs.declared.packing.WordState.{WordState}
use Rattle.mv_machine.specs.declared.packing.WordState.TheVariants as state
use Rattle.mv_ecb.specs.declared.operation.EcbOp.TheVariants as ecb_op
use Rattle.mv_element.specs.declared.operation.ElementOp.TheVariants as element_op
use Rattle.mv_machine.specs.Elements.{extra}
use Rattle.mv_config.specs.Limits.{volumes_limit, events_limit}
use Rattle.mv_machine.specs.Packing.{pack, unpack, state_step}
use Rattle.mv_config.specs.Setup.{Setup}
use Rattle.mv_machine.specs.Objects.{IsObjectOf}

-- ---- the words in order: volumes, elements of all callers, the turn of the latch set, event control blocks

-- the number of the first word of an element, after those of the volumes
abbrev pub first_element_word : ℕ
first_element_word = volumes_limit

-- the number of the word of the turn, after those of `callers_limit * elements_limit` elements
abbrev pub turn_word : ℕ
turn_word = 264

-- the number of the first word of an event control block, after that of the turn
abbrev pub first_ecb_word : ℕ
first_ecb_word = 265

-- the number of the word of an object
abbrev pub word_number : Object → ℕ
word_number (Volume n) = n
word_number (Element n) = first_element_word + n
word_number Latches = turn_word
word_number (Ecb n) = first_ecb_word + n

-- the object that has the word of this number
abbrev pub object_of : ℕ → Object
object_of i =
    if nat_lt i first_element_word then Volume i
    else if nat_lt i turn_word then Element (i - first_element_word)
    else if i == turn_word then Latches
    else Ecb (i - first_ecb_word)

-- how many words the board of a configuration has
abbrev pub word_count : Setup → ℕ
word_count c = first_ecb_word + length c.owners

-- the configuration has this object, and it is not the latch set, which has no word to change
abbrev pub HasWord : Setup → Object → Type 0
HasWord c Latches = ⊥
HasWord c o = IsObjectOf c o

-- the number in the word of a volume, which is below the bits of its place
abbrev pub number_in : ℕ → ℕ
number_in word = word % 2 ^ 32

-- ---- an operation on a word

-- whether a state can occur at this place: an element's place is at least twice its generation, plus the number of events that
-- its present pause has had at least
abbrev pub fits : ℕ → WordState → Bool
fits place (state.Element s) = nat_le (2 * s.generation + extra s.phase) place
fits place s = true

-- the place in a word, the word after one event, and the reply. None if the object cannot have this word before a further event
abbrev pub changed : Object → Op → ℕ → Option (ℕ × ℕ × Reply)
changed o op w =
    option_and_then (λ x. if nat_lt x.0 events_limit && fits x.0 x.1 then option_map (λ r. (x.0, pack (x.0 + 1) r.0, r.1))
    (state_step op x.1) else None) (unpack o w)

-- the operation that reads a word and changes nothing except its place
abbrev pub test_of : Object → Op
test_of (Ecb n) = op_on.Ecb ecb_op.Test
test_of (Element n) = op_on.Element element_op.Test
test_of o = op_on.Volume Read
