-- The word of an object that tasks share: its place in the 19 high bits, its state in the 45 low bits.
use Rattle.std.specs.Prelude.{ℕ, ◌+◌, ◌*◌, ◌/◌, ◌%◌, ◌^◌, ◌==◌, ◌<◌, ◌≤◌, nat_le, nat_lt, Bool, ◌&&◌, ◌||◌, Option, Some, None}
use Rattle.std.specs.Prelude.{option_map, if◌then◌else◌}
use Rattle.mv_ecb.specs.Table.{IsEcbOp, code_limit, ecb_step}
use Rattle.mv_ecb.specs.Word.{EcbState, Extended, Complete, wait_bit, completion_bit, word_of, state_of}
use Rattle.mv_element.specs.declared.element.ElementState.{ElementState}
use Rattle.mv_element.specs.declared.element.Phase.{Phase}
use Rattle.mv_element.specs.declared.element.Phase.TheVariants.{Free, Reset, Prereleased, Paused, Released}
use Rattle.mv_element.specs.Table.{IsElementOp, release_limit, element_step}
use Rattle.mv_element.specs.Element.{generation_limit, free, reset, prereleased, paused, released}
use Rattle.mv_machine.specs.declared.entry.Object.{Object}
use Rattle.mv_machine.specs.declared.entry.Object.TheVariants.{Ecb, Element, Volume, Latches}
use Rattle.mv_machine.specs.declared.entry.Op.{Op}
use Rattle.mv_machine.specs.declared.entry.Op.TheVariants as op_on
use Rattle.mv_machine.specs.declared.entry.Reply.{Reply}
use Rattle.mv_machine.specs.declared.entry.Reply.TheVariants as reply_of
use Rattle.mv_machine.specs.declared.packing.WordState.{WordState}
use Rattle.mv_machine.specs.declared.packing.WordState.TheVariants as state
use Rattle.mv_machine.specs.Elements.{only_if}
use Rattle.mv_machine.specs.System.{System, volume_step}

-- ---- packing

-- the number of a phase
abbrev pub phase_number : Phase → ℕ
phase_number Free = 0
phase_number Reset = 1
phase_number Prereleased = 2
phase_number Paused = 3
phase_number Released = 4

-- the bits of a state: a block's fullword; an element's generation, phase and code, in 18, 3 and 24 bits; a volume's number
abbrev pub state_bits : WordState → ℕ
state_bits (state.Ecb s) = word_of s
state_bits (state.Element s) = s.generation * 2 ^ 27 + phase_number s.phase * 2 ^ 24 + s.code
state_bits (state.Volume n) = n

-- the word of a place and a state
abbrev pub pack : ℕ → WordState → ℕ
pack place s = place * 2 ^ 45 + state_bits s

-- an element's numbers fit their bits: 18 for the generation, 24 for the code. A block's fullword and a volume's number fit
-- theirs by their types
abbrev pub HasFields : WordState → Type 0
HasFields (state.Element s) = (s.generation < generation_limit) × (s.code < release_limit)
HasFields _ = Unit {0}

-- a block's numbers fit their bits: an exit is counted from 1, and it and a code have 30 bits
abbrev pub IsBlock : EcbState → Type 0
IsBlock (Extended y) = (1 ≤ y) × (y < code_limit)
IsBlock (Complete d) = d < code_limit
IsBlock _ = Unit {0}

-- a state of an object of this kind, whose numbers fit their bits
abbrev pub IsStateOf : Object → WordState → Type 0
IsStateOf (Ecb n) (state.Ecb s) = IsBlock s
IsStateOf (Element n) (state.Element s) = HasFields (state.Element s)
IsStateOf (Volume n) (state.Volume m) = m < 2 ^ 32
IsStateOf _ _ = ⊥

-- ---- unpacking

-- whether these bits are a block's fullword: zero, or exactly one of the wait bit and the completion bit is set
abbrev pub is_fullword : ℕ → Bool
is_fullword bits = (bits == 0) || (nat_le completion_bit bits && nat_lt bits (wait_bit + completion_bit))

-- the element of this generation, in the phase of this number. A phase that keeps no code must have code 0
abbrev pub element_in : ℕ → ℕ → ℕ → Option ElementState
element_in generation phase code =
    if phase == 0 then only_if (code == 0) (free generation)
    else if phase == 1 then only_if (code == 0) (reset generation)
    else if phase == 2 then Some (prereleased generation code)
    else if phase == 3 then only_if (code == 0) (paused generation)
    else if phase == 4 then Some (released generation code)
    else None

-- the state of an object of this kind that these bits represent, if they represent one
abbrev pub state_in : Object → ℕ → Option WordState
state_in (Ecb n) bits = only_if (is_fullword bits) (state.Ecb (state_of bits))
state_in (Element n) bits = option_map (λ s. state.Element s) (element_in (bits / 2 ^ 27) (bits / 2 ^ 24 % 2 ^ 3) (bits % 2 ^ 24))
state_in (Volume n) bits = only_if (nat_lt bits (2 ^ 32)) (state.Volume bits)
state_in Latches bits = None

-- the place and the state that a word of this object represents, if it represents them
abbrev pub unpack : Object → ℕ → Option (ℕ × WordState)
unpack o w = option_map (λ s. (w / 2 ^ 45, s)) (state_in o (w % 2 ^ 45))

-- ---- the words of a machine

-- the state of an object that has a word. The latch set has no word
abbrev pub state_at : System → Object → Option WordState
state_at s (Ecb n) = Some (state.Ecb (s.ecb n).state)
state_at s (Element n) = Some (state.Element (s.element n).state)
state_at s (Volume n) = Some (state.Volume (s.volume n).state)
state_at s Latches = None

-- an object's word, and 0 for the latch set
abbrev pub word_at : System → Object → ℕ
word_at s (Ecb n) = pack (s.ecb n).place (state.Ecb (s.ecb n).state)
word_at s (Element n) = pack (s.element n).place (state.Element (s.element n).state)
word_at s (Volume n) = pack (s.volume n).place (state.Volume (s.volume n).state)
word_at s Latches = 0

-- ---- an operation on the state of an object that has a word

-- an operation's numbers fit their bits
abbrev pub HasOpFields : Op → Type 0
HasOpFields (op_on.Ecb op) = IsEcbOp op
HasOpFields (op_on.Element op) = IsElementOp op
HasOpFields (op_on.Volume op) = Unit {0}
HasOpFields (op_on.Latch op) = Unit {0}

-- the state after an operation, and the reply, by the table of the object's kind
abbrev pub state_step : Op → WordState → Option (WordState × Reply)
state_step (op_on.Ecb op) (state.Ecb s) = Some (state.Ecb (ecb_step op s).0, reply_of.Ecb (ecb_step op s).1)
state_step (op_on.Element op) (state.Element s) = Some (state.Element (element_step op s).0, reply_of.Element (element_step op s).1)
state_step (op_on.Volume op) (state.Volume n) = Some (state.Volume (volume_step op n).0, reply_of.Volume (volume_step op n).1)
state_step _ _ = None

-- only the state after an operation
abbrev pub state_after : Op → WordState → Option WordState
state_after op s = option_map (λ r. r.0) (state_step op s)

-- only the reply to an operation
abbrev pub reply_in : Op → WordState → Option Reply
reply_in op s = option_map (λ r. r.1) (state_step op s)
