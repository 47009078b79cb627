-- Operations on pause elements and their replies: their words, their ranges, and how they are read.
use Rattle.std.specs.Prelude.{ℕ, ◌≤◌, Bool, List, codes, decimal, if◌then◌else◌}
use Rattle.mv_element.specs.Code.{keeps_code}
use Rattle.mv_element.specs.Element.{in_phase}
use Rattle.mv_element.specs.declared.element.ElementState.{ElementState}
use Rattle.mv_element.specs.declared.element.Phase.{Phase}
use Rattle.mv_element.specs.declared.element.Phase.TheVariants.{Free, Reset, Prereleased, Paused, Released}
use Rattle.mv_element.specs.declared.operation.ElementOp.{ElementOp}
use Rattle.mv_element.specs.declared.operation.ElementOp.TheVariants.{Open, Pause, Resume, Release, Close, Test}
use Rattle.mv_element.specs.declared.operation.ElementReply.{ElementReply}
use Rattle.mv_element.specs.declared.operation.ElementReply.TheVariants.{Opened, InUse, Parked, Given, Spent, Busy, NotYet, Early, Woke}
use Rattle.mv_element.specs.declared.operation.ElementReply.TheVariants.{Already, Closed, State}
use Rattle.mv_config.specs.Limits.{highest_generation}
use Rattle.mv_operationtext.specs.Ranges.{highest_u32, highest_release_code}
use Rattle.mv_operationtext.specs.Words.{◌<+>◌}
use Rattle.mv_operationtext.specs.Reading.{Reader, word, behind, ◌or◌, made, parted, parted_by, number, any_u32}

-- ---- words

-- the word of a phase
abbrev pub phase_text : Phase → List ℕ
phase_text Free = codes "FREE"
phase_text Reset = codes "RESET"
phase_text Prereleased = codes "PRERELEASED"
phase_text Paused = codes "PAUSED"
phase_text Released = codes "RELEASED"

-- the words of an operation, with its numbers
abbrev pub element_op_text : ElementOp → List ℕ
element_op_text Open = codes "OPEN"
element_op_text (Pause generation) = codes "PAUSE" <+> decimal generation
element_op_text (Resume generation) = codes "RESUME" <+> decimal generation
element_op_text (Release generation code) = codes "RELEASE" <+> decimal generation <+> decimal code
element_op_text (Close generation) = codes "CLOSE" <+> decimal generation
element_op_text Test = codes "TEST"

-- the words of a reply, with its numbers
abbrev pub element_reply_text : ElementReply → List ℕ
element_reply_text (Opened generation) = codes "OPENED" <+> decimal generation
element_reply_text InUse = codes "INUSE"
element_reply_text Parked = codes "PARKED"
element_reply_text (Given code next) = codes "GIVEN" <+> decimal code <+> decimal next
element_reply_text (Spent generation) = codes "SPENT" <+> decimal generation
element_reply_text Busy = codes "BUSY"
element_reply_text NotYet = codes "NOTYET"
element_reply_text Early = codes "EARLY"
element_reply_text Woke = codes "WOKE"
element_reply_text Already = codes "ALREADY"
element_reply_text Closed = codes "CLOSED"
element_reply_text (State s) = codes "STATE" <+> decimal s.generation <+> phase_text s.phase <+> decimal s.code

-- ---- ranges: those narrower than the type of a number, and those of the type

-- the numbers of an operation are in their ranges
abbrev pub IsElementOpInRange : ElementOp → Type 0
IsElementOpInRange (Release generation code) = code ≤ highest_release_code
IsElementOpInRange _ = Unit {0}

-- the numbers of an operation fit their types
abbrev pub IsElementOpTyped : ElementOp → Type 0
IsElementOpTyped (Pause generation) = generation ≤ highest_u32
IsElementOpTyped (Resume generation) = generation ≤ highest_u32
IsElementOpTyped (Release generation code) = generation ≤ highest_u32
IsElementOpTyped (Close generation) = generation ≤ highest_u32
IsElementOpTyped _ = Unit {0}

-- the numbers of a reply are in their ranges
abbrev pub IsElementReplyInRange : ElementReply → Type 0
IsElementReplyInRange (Opened generation) = generation ≤ highest_generation
IsElementReplyInRange (Given code next) = (code ≤ highest_release_code) × (next ≤ highest_generation)
IsElementReplyInRange (Spent generation) = generation ≤ highest_generation
IsElementReplyInRange (State s) = (s.generation ≤ highest_generation) × (s.code ≤ highest_release_code)
IsElementReplyInRange _ = Unit {0}

-- ---- reading

-- reads a release code
abbrev pub release_code : Bool → Reader ℕ
release_code strict = number strict 0 highest_release_code

-- reads a generation that an element can reach
abbrev pub reached_generation : Bool → Reader ℕ
reached_generation strict = number strict 0 highest_generation

-- reads the word of a phase
unfoldable pub phase : Reader Phase
phase =
    word (codes "FREE") Free
    or word (codes "RESET") Reset
    or word (codes "PAUSED") Paused
    or word (codes "RELEASED") Released
    or word (codes "PRERELEASED") Prereleased

-- the highest code of a state in a phase: 0 if the phase keeps no code
abbrev pub highest_kept : Phase → ℕ
highest_kept phase = if keeps_code phase then highest_release_code else 0

-- reads the code that a state of this phase may keep
abbrev pub kept_code : Bool → Phase → Reader ℕ
kept_code strict phase = number strict 0 (highest_kept phase)

-- reads a state: a generation, a phase and a code
unfoldable pub element_state : Bool → Reader ElementState
element_state strict =
    made (λ x. in_phase x.1.0 x.0 x.1.1) (parted (reached_generation strict) (parted_by phase (kept_code strict)))

-- reads an operation
unfoldable pub element_op : Bool → Reader ElementOp
element_op strict =
    word (codes "OPEN") Open
    or made (λ generation. Pause generation) (behind (codes "PAUSE ") (any_u32 strict))
    or made (λ generation. Resume generation) (behind (codes "RESUME ") (any_u32 strict))
    or made (λ x. Release x.0 x.1) (behind (codes "RELEASE ") (parted (any_u32 strict) (release_code strict)))
    or made (λ generation. Close generation) (behind (codes "CLOSE ") (any_u32 strict))
    or word (codes "TEST") Test

-- reads a reply that has numbers
unfoldable pub telling_reply : Bool → Reader ElementReply
telling_reply strict =
    made (λ generation. Opened generation) (behind (codes "OPENED ") (reached_generation strict))
    or made (λ x. Given x.0 x.1) (behind (codes "GIVEN ") (parted (release_code strict) (reached_generation strict)))
    or made (λ generation. Spent generation) (behind (codes "SPENT ") (reached_generation strict))
    or made (λ s. State s) (behind (codes "STATE ") (element_state strict))

-- reads a reply: one that is only a word, or otherwise one that has numbers
unfoldable pub element_reply : Bool → Reader ElementReply
element_reply strict =
    word (codes "INUSE") InUse
    or word (codes "PARKED") Parked
    or word (codes "BUSY") Busy
    or word (codes "NOTYET") NotYet
    or word (codes "EARLY") Early
    or word (codes "WOKE") Woke
    or word (codes "ALREADY") Already
    or word (codes "CLOSED") Closed
    or telling_reply strict
