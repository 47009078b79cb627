-- The numbers, tokens and modes of a line, by their words.
use Rattle.std.specs.Prelude.{ℕ, ◌+◌, ◌*◌, ◌^◌, Bool, true, false, nat_lt, List, take, drop, Option, Some, None, Ok, Err}
use Rattle.std.specs.Prelude.{codes, ◌==◌, if◌then◌else◌}
use Rattle.std.specs.List.{position}
use Rattle.std.specs.Str.{bytes_eq}
use Rattle.mv_ecb.specs.Table.{code_limit}
use Rattle.mv_element.specs.declared.element.Token.{Token}
use Rattle.mv_element.specs.Table.{release_limit}
use Rattle.mv_latch.specs.declared.request.Mode.{Mode}
use Rattle.mv_latch.specs.declared.request.Mode.TheVariants.{Shared, Exclusive}
use Rattle.mv_line.specs.Byte.{is_within}
use Rattle.mv_line.specs.Number.{is_digits, number_of}
use Rattle.mv_config.specs.Limits.{highest_place, highest_generation}
use Rattle.mv_calls.specs.declared.table.Table.{Table}
use Rattle.mv_scriptline.specs.declared.words.Misread.TheVariants.{NoForm, BadNumber}
use Rattle.mv_scriptline.specs.Sizes.{SizesFace}
use Rattle.mv_scriptline.specs.Limits.{most_tasks, highest_count, highest_latch, highest_size, highest_position, elements_per_task, volumes}
use Rattle.mv_scriptline.specs.Words.{Read, making, both}

-- ---- numbers: a word that is not digits fits no form; one with a leading zero, or whose number fails its test, is a bad number

-- a number, if there is one and it passes the test
abbrev pub passed : (ℕ → Bool) → Option ℕ → Read ℕ
passed test None = Err BadNumber
passed test (Some n) = if test n then Ok n else Err BadNumber

-- a word as a number that passes a test
abbrev pub number : (ℕ → Bool) → List ℕ → Read ℕ
number test word = if is_digits word then passed test (number_of word) else Err NoForm

-- a word as a number below the limit
abbrev pub below : ℕ → List ℕ → Read ℕ
below limit word = number (λ n. nat_lt n limit) word

-- a word as the number of tasks of a script
abbrev pub number_of_tasks : List ℕ → Read ℕ
number_of_tasks word = number (is_within 1 most_tasks) word

-- a word as a task of the script
abbrev pub task : SizesFace → List ℕ → Read ℕ
task z word = below z.tasks word

-- a word as an event control block that the script has so far
abbrev pub ecb : SizesFace → List ℕ → Read ℕ
ecb z word = below z.ecbs word

-- a word as a pause element of the script
abbrev pub element : SizesFace → List ℕ → Read ℕ
element z word = below (elements_per_task * z.tasks) word

-- a word as a volume
abbrev pub volume : List ℕ → Read ℕ
volume word = below volumes word

-- a word as a latch, which need not exist
abbrev pub latch : List ℕ → Read ℕ
latch word = below (highest_latch + 1) word

-- a word as the number of events of a table, not every one of which is allowed
abbrev pub table_size : List ℕ → Read ℕ
table_size word = below (highest_size + 1) word

-- a table by its numbers
abbrev pub table_with : (owner latch volume events slots size : ℕ) → Table
table_with owner latch volume events slots size =
    record { owner = owner; latch = latch; volume = volume; events = events; slots = slots; size = size }

-- how many events the script's table has; none if there is no table
abbrev pub event_count : Option Table → ℕ
event_count None = 0
event_count (Some t) = t.size

-- how many positions may be named: none if there is no table; otherwise also some that the table does not have
abbrev pub position_count : Option Table → ℕ
position_count None = 0
position_count (Some t) = highest_position + 1

-- a word as an event of the script's table
abbrev pub event : SizesFace → List ℕ → Read ℕ
event z word = below (event_count z.table) word

-- a word as a position of the script's table
abbrev pub event_position : SizesFace → List ℕ → Read ℕ
event_position z word = below (position_count z.table) word

-- a word as the count of a WAIT: how many blocks must be complete
abbrev pub count : List ℕ → Read ℕ
count word = below (highest_count + 1) word

-- a word as the completion code of a block
abbrev pub ecb_code : List ℕ → Read ℕ
ecb_code word = below code_limit word

-- a word as a release code
abbrev pub release_code : List ℕ → Read ℕ
release_code word = below release_limit word

-- a word as a place: how many events an object has had
abbrev pub place : List ℕ → Read ℕ
place word = below (highest_place + 1) word

-- a word as the number of an exit or of an OBTAIN, or as the number for a volume
abbrev pub any_number : List ℕ → Read ℕ
any_number word = below (2 ^ 32) word

-- a word as a requestor: a number of eight bytes
abbrev pub requestor : List ℕ → Read ℕ
requestor word = below (2 ^ 64) word

-- ---- tokens: an element and a generation that is not the last, with a point between them

-- whether a byte is the point
abbrev pub is_point : ℕ → Bool
is_point b = b == 46

-- a word as a token, if its first point is at this place
abbrev pub parted : SizesFace → List ℕ → Option ℕ → Read Token
parted z word None = Err NoForm
parted z word (Some point) =
    making (λ (p : ℕ × ℕ). record { element = p.0; generation = p.1 })
    (both (element z (take point word)) (below highest_generation (drop (point + 1) word)))

-- a word as a token
abbrev pub token : SizesFace → List ℕ → Read Token
token z word = parted z word (position is_point word)

-- ---- words

-- a word as a value, or a hyphen as none
abbrev pub or_hyphen : {A : Type 0} → (List ℕ → Read A) → List ℕ → Read (Option A)
or_hyphen f word = if bytes_eq word (codes "-") then Ok None else making (λ a. Some a) (f word)

-- a word as a mode: `S` (shared) or `X` (exclusive)
abbrev pub mode : List ℕ → Read Mode
mode word =
    if bytes_eq word (codes "S") then Ok Shared
    else if bytes_eq word (codes "X") then Ok Exclusive
    else Err NoForm

-- a word as whether a release is conditional: `C` (conditional) or `U` (unconditional)
abbrev pub conditional : List ℕ → Read Bool
conditional word =
    if bytes_eq word (codes "C") then Ok true
    else if bytes_eq word (codes "U") then Ok false
    else Err NoForm
