-- The faults of a text: a test for each kind of fault that a line can have, and the first fault.
use Rattle.std.specs.Prelude.{ℕ, Bool, true, false, ◌&&◌, ◌||◌, not, nat_le, nat_lt, List, [], ◌∷◌, ◌++◌, length, sum}
use Rattle.std.specs.Prelude.{count_by, Option, Some, None, is_some, Ok, Err}
use Rattle.std.specs.List.{list_any}
use Rattle.mv_line.specs.Byte.{is_within}
use Rattle.mv_line.specs.Line.{lines_of, is_foreign, is_too_long}
use Rattle.mv_line.specs.declared.fault.TextFault.{TextFault}
use Rattle.mv_line.specs.Fault.{LineRules, HasFaultAt, when}
use Rattle.mv_line.specs.Fault as of_lines
pub use Rattle.mv_line.specs.Fault.{TellsFirst}
use Rattle.mv_config.specs.Limits.{events_limit}
use Rattle.mv_calls.specs.Table.{can_have}
use Rattle.mv_scriptline.specs.declared.call.Call.{Call}
use Rattle.mv_scriptline.specs.declared.call.Call.TheVariants as call
use Rattle.mv_scriptline.specs.declared.fault.Kind.TheVariants.{ForeignByte, TooLong, NoForm, BadNumber, OutOfOrder, Miscounted, LeadsDown}
use Rattle.mv_scriptline.specs.declared.fault.Kind.TheVariants.{NoObtain, NoEnd, TooCostly, UsesTable, BadTable}
use Rattle.mv_scriptline.specs.declared.statement.Statement.{Statement}
use Rattle.mv_scriptline.specs.declared.statement.Statement.TheVariants as statement
use Rattle.mv_scriptline.specs.declared.words.Misread.TheVariants as misread
use Rattle.mv_scriptline.specs.Kind.{kind_number}
use Rattle.mv_scriptline.specs.Limits.{most_ecbs, most_exits, most_calls}
use Rattle.mv_script.specs.Script.{task_count, owners_of, exits_of, table_of, tasks_of, last_task, is_obtain, setup_with, budgets_of}
use Rattle.mv_script.specs.Script.{sizes_behind, with_line}
use Rattle.mv_scriptline.specs.Statement.{line_states}
use Rattle.mv_script.specs.Table.{uses_any}
use Rattle.mv_scriptline.specs.Words.{Read}

-- ---- faults of a line by itself

-- whether a line's words fit no form; an ignored line needs none
abbrev pub has_no_form : Option (Read Statement) → Bool
has_no_form (Some (Err misread.NoForm)) = true
has_no_form _ = false

-- whether a line has a number with a leading zero, out of its range, or of no task, block, element, volume, event or position
abbrev pub has_bad_number : Option (Read Statement) → Bool
has_bad_number (Some (Err misread.BadNumber)) = true
has_bad_number _ = false

-- ---- the place of a statement: the sorts of lines on which the places of others depend

-- whether a statement is a SCRIPT
abbrev pub is_script : Statement → Bool
is_script (statement.Script t) = true
is_script _ = false

-- whether a statement is an EXIT
abbrev pub is_exit : Statement → Bool
is_exit (statement.Exit source targets) = true
is_exit _ = false

-- whether a statement is a TASK
abbrev pub is_task : Statement → Bool
is_task statement.Task = true
is_task _ = false

-- whether a statement is the END
abbrev pub is_end : Statement → Bool
is_end statement.End = true
is_end _ = false

-- whether one of the earlier statements is a SCRIPT
abbrev pub has_script : List Statement → Bool
has_script earlier = list_any is_script earlier

-- whether one of the earlier statements is an EXIT
abbrev pub has_exit : List Statement → Bool
has_exit earlier = list_any is_exit earlier

-- whether one of the earlier statements is a TABLE
abbrev pub has_table : List Statement → Bool
has_table earlier = is_some (table_of earlier)

-- whether one of the earlier statements is a TASK
abbrev pub has_task : List Statement → Bool
has_task earlier = list_any is_task earlier

-- whether one of the earlier statements is the END
abbrev pub has_end : List Statement → Bool
has_end earlier = list_any is_end earlier

-- Whether a statement is out of order. SCRIPT comes first, and once. After it come the ECBs, then the EXITs, then the TABLE, then
-- the tasks, each a TASK and its calls, and then END, which is the last.
abbrev pub is_out_of_order : List Statement → Statement → Bool
is_out_of_order earlier (statement.Script t) = nat_lt 0 (length earlier)
is_out_of_order earlier (statement.Ecb owner) =
    not (has_script earlier) || (has_exit earlier || (has_table earlier || (has_task earlier || has_end earlier)))
is_out_of_order earlier (statement.Exit source targets) =
    not (has_script earlier) || (has_table earlier || (has_task earlier || has_end earlier))
is_out_of_order earlier (statement.Table t) = not (has_script earlier) || (has_task earlier || has_end earlier)
is_out_of_order earlier statement.Task = not (has_script earlier) || has_end earlier
is_out_of_order earlier (statement.Call c) = not (has_task earlier) || has_end earlier
is_out_of_order earlier statement.End = not (has_script earlier) || has_end earlier

-- ---- a statement and those before it

-- whether a statement is one more block, exit, table, task or call than allowed, or an END after fewer tasks than stated
abbrev pub is_miscounted : List Statement → Statement → Bool
is_miscounted earlier (statement.Script t) = false
is_miscounted earlier (statement.Ecb owner) = nat_le most_ecbs (length (owners_of earlier))
is_miscounted earlier (statement.Exit source targets) = nat_le most_exits (length (exits_of earlier))
is_miscounted earlier (statement.Table t) = has_table earlier
is_miscounted earlier statement.Task = nat_le (task_count earlier) (length (tasks_of earlier))
is_miscounted earlier (statement.Call c) = nat_le most_calls (length (last_task (tasks_of earlier)))
is_miscounted earlier statement.End = nat_lt (length (tasks_of earlier)) (task_count earlier)

-- whether a statement is an EXIT with a target that is not above its source
abbrev pub leads_down : Statement → Bool
leads_down (statement.Exit source targets) = list_any (λ target. nat_le target source) targets
leads_down _ = false

-- the number of the OBTAIN that a call names, counted from 1, if it names one
abbrev pub obtain_meant : Call → Option ℕ
obtain_meant (call.Check k) = Some k
obtain_meant (call.Free k conditional) = Some k
obtain_meant _ = None

-- whether a number, if there is one, is that of no OBTAIN among these calls
abbrev pub is_no_obtain : List Call → Option ℕ → Bool
is_no_obtain calls None = false
is_no_obtain calls (Some k) = not (is_within 1 (count_by is_obtain calls) k)

-- whether a statement is a CHECK or a FREE that names no earlier OBTAIN of its task
abbrev pub lacks_obtain : List Statement → Statement → Bool
lacks_obtain earlier (statement.Call c) = is_no_obtain (last_task (tasks_of earlier)) (obtain_meant c)
lacks_obtain earlier _ = false

-- whether the calls up to this statement may make more events than a run may have
abbrev pub is_too_costly : List Statement → Statement → Bool
is_too_costly earlier s = nat_lt events_limit (sum (budgets_of (earlier ++ s ∷ [])))

-- whether a statement is a call other than EVPOST and EVNEXT that uses what the table reserves
abbrev pub uses_table : List Statement → Statement → Bool
uses_table earlier (statement.Call c) = uses_any (table_of earlier) c
uses_table earlier _ = false

-- whether a statement is a TABLE that the configuration cannot have
abbrev pub is_bad_table : List Statement → Statement → Bool
is_bad_table earlier (statement.Table t) = not (can_have (setup_with earlier []) t)
is_bad_table earlier _ = false

-- ---- all faults, and the first

-- the kinds of fault of a statement after the earlier ones, rising; one that is out of order is not checked for the others
abbrev pub kinds_behind : List Statement → Statement → List ℕ
kinds_behind earlier s =
    let in_order = not (is_out_of_order earlier s) in
    when kind_number (is_out_of_order earlier s) OutOfOrder
    ++ (when kind_number (is_miscounted earlier s && in_order) Miscounted
    ++ (when kind_number (leads_down s && in_order) LeadsDown
    ++ (when kind_number (lacks_obtain earlier s && in_order) NoObtain
    ++ (when kind_number (is_too_costly earlier s && in_order) TooCostly
    ++ (when kind_number (uses_table earlier s && in_order) UsesTable
    ++ when kind_number (is_bad_table earlier s && in_order) BadTable)))))

-- the kinds of fault of a line's statement; none if the line states nothing
abbrev pub kinds_of_statement : List Statement → Option (Read Statement) → List ℕ
kinds_of_statement earlier (Some (Ok s)) = kinds_behind earlier s
kinds_of_statement earlier _ = []

-- the kinds of fault of a line after the earlier statements, rising
abbrev pub kinds_of : List Statement → List ℕ → List ℕ
kinds_of earlier line =
    let states = line_states (sizes_behind earlier) line in
    when kind_number (is_foreign line) ForeignByte
    ++ (when kind_number (is_too_long line) TooLong
    ++ (when kind_number (has_no_form states) NoForm
    ++ (when kind_number (has_bad_number states) BadNumber
    ++ kinds_of_statement earlier states)))

-- the rules of a script's lines: it ends with END
abbrev pub line_rules : LineRules (List Statement)
line_rules = record { with_line = with_line; kinds_of = kinds_of; is_whole = has_end; cut_short = kind_number NoEnd }

-- the first fault of a text: that of the lowest line, and there the lowest kind
unfoldable pub first_fault : List ℕ → Option TextFault
first_fault bytes = of_lines.first_fault line_rules [] (lines_of bytes)

-- The text has this fault: its line has a fault of this kind, by itself or because of the statements before it; or the line is
-- one after the last, and END is missing.
abbrev pub HasFault : List ℕ → TextFault → Type 0
HasFault bytes f = HasFaultAt line_rules 1 [] (lines_of bytes) f.line f.kind
