-- The most bytes of the parts of an entry's line, so that room for a line is taken once.
use Rattle.std.specs.Prelude.{ℕ}

-- the most digits of a number of eight bytes: room for this many is left for each number
abbrev pub number_width : ℕ
number_width = 20

-- a number of fewer digits than this fits eight bytes, whatever its digits are
abbrev pub short_width : ℕ
short_width = 18

-- the first number of more than eight digits
abbrev pub long_number : ℕ
long_number = 100000000

-- the most bytes of an object: a letter, and its number
abbrev pub object_width : ℕ
object_width = 21

-- the most bytes of an operation: those of an obtain, which has three numbers
abbrev pub op_width : ℕ
op_width = 72

-- the most bytes of a reply: those of the state of an element, with the longest phase between two numbers
abbrev pub reply_width : ℕ
reply_width = 59

-- the most bytes of a phase of an element
abbrev pub phase_width : ℕ
phase_width = 11

-- the most bytes of a caller, with a point and the number of its call
abbrev pub caller_width : ℕ
caller_width = 41

-- the most bytes of a caller, its call, an object and a place
abbrev pub front_width : ℕ
front_width = 84

-- the most bytes of an operation and a reply, with the sign between them
abbrev pub event_width : ℕ
event_width = 134

-- the most bytes of an entry's line without its LF
abbrev pub entry_width : ℕ
entry_width = 219

-- the most bytes of an entry's line with its LF
abbrev pub line_width : ℕ
line_width = 220
