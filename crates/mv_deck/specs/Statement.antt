-- The statements of a deck's lines, by the words of the lines.
use Rattle.std.specs.Prelude.{ℕ, ◌==◌, nat_eq, List, [], ◌∷◌, drop, map, Option, Some, None, option_map, codes, if◌then◌else◌}
use Rattle.std.specs.List.{starts_with, filter_map}
use Rattle.std.specs.Str.{bytes_eq}
use Rattle.mv_latch.specs.declared.request.Mode.{Mode}
use Rattle.mv_deck.specs.declared.form.Version.{Version}
use Rattle.mv_deck.specs.declared.form.Version.TheVariants.{One, Two}
use Rattle.mv_line.specs.Line.{without_first_spaces}
use Rattle.mv_line.specs.Field.{fields_of, one_of, two_of}
use Rattle.mv_line.specs.Line.{shown}
use Rattle.mv_line.specs.Part.{parts_at}
use Rattle.mv_deck.specs.Line.{comma, is_comment, is_passed, before_colon, behind_colon}
use Rattle.mv_deck.specs.Operand.{mode_of}

-- a part of an AFTER list: the bytes in the place of a name, and in that of an accepted code if there is one
pub record AfterPart : Type 0 where
  pub name : List ℕ
  pub most : Option (List ℕ)

-- The statement of a line. A name, a number, a text and a code are the bytes in their places.
pub data Statement : Type 0 where
  Null : Statement
  DeckOf : (version : List ℕ) → Statement
  JobOf : (name : List ℕ) (after : List AfterPart) → Statement
  PrintOf : (text : List ℕ) → Statement
  UseOf : (latch : List ℕ) (mode : Mode) → Statement
  FreeOf : (latch : List ℕ) → Statement
  CountOf : (volume amount : List ℕ) → Statement
  ScanOf : (volume : List ℕ) → Statement
  AbendOf : (code : List ℕ) → Statement
  ReturnOf : (code : List ℕ) → Statement

-- ---- JOB

-- a part of an AFTER list: in version 2 a colon separates the name from the accepted code
abbrev pub part_of : Version → List ℕ → AfterPart
part_of One part = record { name = part; most = None }
part_of Two part = record { name = before_colon part; most = behind_colon part }

-- the JOB of this name with this third field, which is `AFTER=` and a list
abbrev pub job_after : Version → List ℕ → List ℕ → Option Statement
job_after v name third =
    if starts_with nat_eq third (codes "AFTER=") then Some (JobOf name (map (part_of v) (parts_at comma (drop 6 third)))) else None

-- the JOB of these fields, the first of which follows the slashes at once: `NAME JOB` or `NAME JOB AFTER=list`
abbrev pub job_of : Version → List (List ℕ) → Option Statement
job_of v (name ∷ operation ∷ []) = if bytes_eq operation (codes "JOB") then Some (JobOf name []) else None
job_of v (name ∷ operation ∷ third ∷ []) = if bytes_eq operation (codes "JOB") then job_after v name third else None
job_of v _ = None

-- ---- operations without a name

-- the USE of these two operands: a latch and a mode
abbrev pub use_of : Option (List ℕ × List ℕ) → Option Statement
use_of None = None
use_of (Some operands) = option_map (λ mode. UseOf operands.0 mode) (mode_of operands.1)

-- the RETURN of this operand, a form that only version 2 has
abbrev pub return_of : Version → Option (List ℕ) → Option Statement
return_of One operand = None
return_of Two operand = option_map ReturnOf operand

-- the statement of an operation that has one operand
abbrev pub one_operand : Version → List ℕ → Option (List ℕ) → Option Statement
one_operand v operation operand =
    if bytes_eq operation (codes "FREE") then option_map FreeOf operand
    else if bytes_eq operation (codes "SCAN") then option_map ScanOf operand
    else if bytes_eq operation (codes "ABEND") then option_map AbendOf operand
    else if bytes_eq operation (codes "RETURN") then return_of v operand
    else if bytes_eq operation (codes "DECK") then option_map DeckOf operand
    else None

-- the statement of a line without a name, which is an operation and its operands; the text of a PRINT is all that follows the
-- operation and one space
abbrev pub operation_of : Version → List ℕ → List (List ℕ) → Option Statement
operation_of v rest [] = None
operation_of v rest (operation ∷ operands) =
    if bytes_eq operation (codes "PRINT") then Some (PrintOf (drop 6 (without_first_spaces rest)))
    else if bytes_eq operation (codes "USE") then use_of (two_of operands)
    else if bytes_eq operation (codes "COUNT") then option_map (λ (o : List ℕ × List ℕ). CountOf o.0 o.1) (two_of operands)
    else one_operand v operation (one_of operands)

-- ---- lines

-- the statement of what follows the two slashes
abbrev pub behind_slashes : Version → List ℕ → Option Statement
behind_slashes v [] = Some Null
behind_slashes v (b ∷ bs) = if b == 32 then operation_of v (b ∷ bs) (fields_of (b ∷ bs)) else job_of v (fields_of (b ∷ bs))

-- the statement of a text that is not a comment, if its words fit one of the forms of its version
abbrev pub form_of : Version → List ℕ → Option Statement
form_of v text = if starts_with nat_eq text (codes "//") then behind_slashes v (drop 2 text) else None

-- the statement of a line, if it states one
abbrev pub statement_of : Version → List ℕ → Option Statement
statement_of v line = if is_comment (shown line) then None else form_of v (shown line)

-- the statements of lines, in order
abbrev pub statements_of : Version → List (List ℕ) → List Statement
statements_of v lines = filter_map (statement_of v) lines

-- ---- the version of a deck

-- the version that a first statement declares
abbrev pub declared_by : Option Statement → Version
declared_by (Some (DeckOf version)) = if bytes_eq version (codes "2") then Two else One
declared_by _ = One

-- The version of a deck with these lines: its first line that is neither ignored nor a comment declares version 2, or version 1
-- holds. DECK is a form of both versions, so it is looked for in version 1.
abbrev pub version_of : List (List ℕ) → Version
version_of [] = One
version_of (line ∷ lines) = if is_passed line then version_of lines else declared_by (statement_of One line)
