-- The faults of a text: a test for each kind of fault that a line can have, and the first fault.
use Rattle.std.specs.Prelude.{ℕ, Bool, true, false, ◌&&◌, ◌||◌, not, nat_lt, List, [], ◌∷◌, ◌++◌, length, Option, Some}
use Rattle.std.specs.Prelude.{None, is_none, is_some, option_to_list, codes}
use Rattle.std.specs.List.{list_any}
use Rattle.std.specs.Str.{bytes_eq}
use Rattle.mv_deck.specs.declared.deck.Step.{Step}
use Rattle.mv_deck.specs.declared.fault.Kind.{Kind}
use Rattle.mv_deck.specs.declared.fault.Kind.TheVariants.{ForeignByte, TooLong, NoForm, BadName, RepeatedName, UnknownAfter, CrowdedAfter}
use Rattle.mv_deck.specs.declared.fault.Kind.TheVariants.{BadNumber, LatchOrder, LatchNotHeld, Misplaced, NoNull, BehindEnd, TooHeavy}
use Rattle.mv_deck.specs.declared.fault.Kind.TheVariants.{LateDeck}
use Rattle.mv_deck.specs.declared.form.Version.{Version}
use Rattle.mv_line.specs.Line.{lines_of, is_foreign, is_too_long}
use Rattle.mv_line.specs.declared.fault.TextFault.{TextFault}
use Rattle.mv_line.specs.Fault.{LineRules, HasFaultAt, when}
use Rattle.mv_line.specs.Fault as of_lines
pub use Rattle.mv_line.specs.Fault.{TellsFirst}
use Rattle.mv_deck.specs.Line.{is_passed}
use Rattle.mv_deck.specs.Operand.{is_name, code_of, most_after}
use Rattle.mv_deck.specs.Statement.{Statement, Null, DeckOf, JobOf, AfterPart}
use Rattle.mv_deck.specs.Statement.{statement_of, version_of}
use Rattle.mv_deck.specs.Deck.{JobData, place_of, step_of, jobs_behind, jobs_of, last_steps}
use Rattle.mv_deck.specs.Held.{is_out_of_order, lacks_latch, is_end}
use Rattle.mv_deck.specs.Weight.{weight, heaviest}

-- the number of a kind
abbrev pub kind_number : Kind → ℕ
kind_number ForeignByte = 1
kind_number TooLong = 2
kind_number NoForm = 3
kind_number BadName = 4
kind_number RepeatedName = 5
kind_number UnknownAfter = 6
kind_number CrowdedAfter = 7
kind_number BadNumber = 8
kind_number LatchOrder = 9
kind_number LatchNotHeld = 10
kind_number Misplaced = 11
kind_number NoNull = 12
kind_number BehindEnd = 13
kind_number TooHeavy = 14
kind_number LateDeck = 15

-- ---- faults of a line by itself

-- whether a line lacks a form; an ignored line and a comment need none
abbrev pub has_no_form : Version → List ℕ → Bool
has_no_form v line = not (is_passed line) && is_none (statement_of v line)

-- ---- sorts of statements

-- whether a statement is a JOB for which the test is true
abbrev pub is_job_that : (List ℕ → List AfterPart → Bool) → Statement → Bool
is_job_that test (JobOf name after) = test name after
is_job_that test _ = false

-- whether a statement is the null statement
abbrev pub is_null : Statement → Bool
is_null Null = true
is_null _ = false

-- whether a statement is a DECK
abbrev pub is_deck : Statement → Bool
is_deck (DeckOf version) = true
is_deck _ = false

-- whether a statement is a JOB
abbrev pub is_job : Statement → Bool
is_job s = is_job_that (λ name after. true) s

-- ---- faults of a statement by itself

-- whether a statement is a JOB of which the name, or a name in the AFTER list, is not the name of a job
abbrev pub has_bad_name : Statement → Bool
has_bad_name s = is_job_that (λ name after. not (is_name name) || list_any (λ (p : AfterPart). not (is_name p.name)) after) s

-- whether an accepted code is invalid
abbrev pub accepts_no_code : Option (List ℕ) → Bool
accepts_no_code None = false
accepts_no_code (Some code) = is_none (code_of code)

-- whether a statement has an invalid number, amount or code, or is a DECK with another version than 2
abbrev pub has_bad_number : Statement → Bool
has_bad_number Null = false
has_bad_number (DeckOf version) = not (bytes_eq version (codes "2"))
has_bad_number (JobOf name after) = list_any (λ (p : AfterPart). accepts_no_code p.most) after
has_bad_number s = is_none (step_of s)

-- ---- the place of a statement

-- whether a statement comes before the first JOB and is neither JOB, null nor DECK, or comes after the null statement
abbrev pub is_misplaced : List Statement → Statement → Bool
is_misplaced earlier s = list_any is_null earlier || (not (list_any is_job earlier) && not (is_job s || is_null s || is_deck s))

-- whether a statement comes after an ABEND or a RETURN of its job, and is neither JOB nor null
abbrev pub is_behind_end : List JobData → Statement → Bool
is_behind_end jobs s = list_any is_end (last_steps jobs) && not (is_job s || is_null s)

-- whether a statement is a DECK and not the first statement
abbrev pub is_late_deck : List Statement → Statement → Bool
is_late_deck earlier s = is_deck s && nat_lt 0 (length earlier)

-- ---- a statement and the jobs before it

-- whether a statement is a JOB with the name of an earlier job
abbrev pub repeats_name : List JobData → Statement → Bool
repeats_name jobs s = is_job_that (λ name after. is_some (place_of jobs name)) s

-- whether a statement is a JOB whose AFTER list names a job that is not an earlier one
abbrev pub awaits_no_job : List JobData → Statement → Bool
awaits_no_job jobs s = is_job_that (λ name after. list_any (λ (p : AfterPart). is_none (place_of jobs p.name)) after) s

-- whether a later one of these parts has the name of the first
abbrev pub repeats_first : List AfterPart → Bool
repeats_first [] = false
repeats_first (p ∷ parts) = list_any (λ (q : AfterPart). bytes_eq q.name p.name) parts

-- whether two of these parts have the same name
abbrev pub has_double : List AfterPart → Bool
has_double [] = false
has_double (p ∷ parts) = repeats_first (p ∷ parts) || has_double parts

-- whether a statement is a JOB whose AFTER list has a name twice, or more than eight names
abbrev pub is_crowded : Statement → Bool
is_crowded s = is_job_that (λ name after. has_double after || nat_lt most_after (length after)) s

-- whether the test is true for a step, if there is one
abbrev pub is_step_that : (Step → Bool) → Option Step → Bool
is_step_that test None = false
is_step_that test (Some step) = test step

-- whether a statement is a USE of a latch that is not above every latch that the job holds
abbrev pub uses_out_of_order : List JobData → Statement → Bool
uses_out_of_order jobs s = is_step_that (is_out_of_order (last_steps jobs)) (step_of s)

-- whether a statement is a FREE, COUNT or SCAN without the latch that it needs
abbrev pub needs_latch : List JobData → Statement → Bool
needs_latch jobs s = is_step_that (lacks_latch (last_steps jobs)) (step_of s)

-- whether the deck with this statement is too heavy
abbrev pub is_too_heavy : ℕ → List JobData → Statement → Bool
is_too_heavy initiators jobs s = nat_lt heaviest (weight (jobs_behind jobs s) initiators)

-- ---- all faults, and the first

-- The kinds of fault of a statement, rising, after the earlier statements, which state these jobs. A misplaced statement is not
-- checked for the kinds with `placed` or `asked`, and a statement after the end of its job not for the kinds with `asked`.
abbrev pub kinds_behind : ℕ → List Statement → List JobData → Statement → List ℕ
kinds_behind initiators earlier jobs s =
    let placed = not (is_misplaced earlier s) in
    let asked = placed && not (is_behind_end jobs s) in
    when kind_number (has_bad_name s) BadName
    ++ (when kind_number (repeats_name jobs s && placed) RepeatedName
    ++ (when kind_number (awaits_no_job jobs s && placed) UnknownAfter
    ++ (when kind_number (is_crowded s && placed) CrowdedAfter
    ++ (when kind_number (has_bad_number s) BadNumber
    ++ (when kind_number (uses_out_of_order jobs s && asked) LatchOrder
    ++ (when kind_number (needs_latch jobs s && asked) LatchNotHeld
    ++ (when kind_number (is_misplaced earlier s) Misplaced
    ++ (when kind_number (is_behind_end jobs s && placed) BehindEnd
    ++ (when kind_number (is_too_heavy initiators jobs s && asked) TooHeavy
    ++ when kind_number (is_late_deck earlier s && asked) LateDeck)))))))))

-- the kinds of fault of a line's statement; none if the line states nothing
abbrev pub kinds_of_statement : ℕ → List Statement → Option Statement → List ℕ
kinds_of_statement initiators earlier None = []
kinds_of_statement initiators earlier (Some s) = kinds_behind initiators earlier (jobs_of earlier) s

-- the kinds of fault of a line after the earlier statements, rising
abbrev pub kinds_of : ℕ → Version → List Statement → List ℕ → List ℕ
kinds_of initiators v earlier line =
    when kind_number (is_foreign line) ForeignByte
    ++ (when kind_number (is_too_long line) TooLong
    ++ (when kind_number (has_no_form v line) NoForm
    ++ kinds_of_statement initiators earlier (statement_of v line)))

-- the rules of a deck's lines: it ends with the null statement
abbrev pub line_rules : ℕ → Version → LineRules (List Statement)
line_rules initiators v = record {
  with_line = λ earlier line. earlier ++ option_to_list (statement_of v line);
  kinds_of = kinds_of initiators v;
  is_whole = list_any is_null;
  cut_short = kind_number NoNull;
}

-- the first fault of a text for this many initiators: that of the lowest line, and there the lowest kind
unfoldable pub first_fault : List ℕ → ℕ → Option TextFault
first_fault bytes initiators = of_lines.first_fault (line_rules initiators (version_of (lines_of bytes))) [] (lines_of bytes)

-- The text has this fault: its line has a fault of this kind, by itself or because of the statements before it; or the line is
-- one after the last, and the null statement is missing.
abbrev pub HasFault : List ℕ → ℕ → TextFault → Type 0
HasFault bytes initiators f = HasFaultAt (line_rules initiators (version_of (lines_of bytes))) 1 [] (lines_of bytes) f.line f.kind
