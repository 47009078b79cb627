-- The first of the faults that are listed is the lowest that a text has.
use Rattle.std.proofs.Common.{ℕ, Bool, not, ◌&&◌, List, [], Option, Some, None, Ok, Err, arith}
use Rattle.std.specs.Prelude.{MatchOption}
use Rattle.mv_line.specs.Line.{lines_of, is_foreign, is_too_long}
use Rattle.mv_line.specs.declared.fault.TextFault.{TextFault}
use Rattle.mv_line.specs.Fault.{IsNoLater}
use Rattle.mv_line.proofs.Faults.{Rises, rises_when, rises_last, lowest_from}
use Rattle.mv_scriptline.specs.declared.fault.Kind.TheVariants.{ForeignByte, TooLong, NoForm, BadNumber, OutOfOrder, Miscounted, LeadsDown}
use Rattle.mv_scriptline.specs.declared.fault.Kind.TheVariants.{NoObtain, TooCostly, UsesTable, BadTable}
use Rattle.mv_scriptline.specs.declared.statement.Statement.{Statement}
use Rattle.mv_script.specs.Fault.{has_no_form, has_bad_number, is_out_of_order, is_miscounted, uses_table, is_bad_table}
use Rattle.mv_script.specs.Fault.{leads_down, lacks_obtain, is_too_costly, kinds_of, kinds_of_statement, kinds_behind}
use Rattle.mv_scriptline.specs.Kind.{kind_number}
use Rattle.mv_script.specs.Fault.{line_rules, first_fault, HasFault}
use Rattle.mv_script.specs.Script.{sizes_behind}
use Rattle.mv_scriptline.specs.Statement.{line_states}
use Rattle.mv_scriptline.specs.Words.{Read}

-- the kinds of a statement behind others rise
behind_rises : (earlier : List Statement) (s : Statement) → Rises 4 (kinds_behind earlier s)
behind_rises earlier s =
    let in_order : Bool = not (is_out_of_order earlier s) in
    rises_when (is_out_of_order earlier s) (kind_number OutOfOrder) 4 _ (omega arith)
    (rises_when (is_miscounted earlier s && in_order) (kind_number Miscounted) 5 _ (omega arith)
    (rises_when (leads_down s && in_order) (kind_number LeadsDown) 6 _ (omega arith)
    (rises_when (lacks_obtain earlier s && in_order) (kind_number NoObtain) 7 _ (omega arith)
    (rises_when (is_too_costly earlier s && in_order) (kind_number TooCostly) 8 _ (omega arith)
    (rises_when (uses_table earlier s && in_order) (kind_number UsesTable) 10 _ (omega arith)
    (rises_last (is_bad_table earlier s && in_order) (kind_number BadTable) 11 (omega arith)))))))

-- the same, where a line has a statement
statement_rises : (earlier : List Statement) (o : Option (Read Statement)) → Rises 4 (kinds_of_statement earlier o)
statement_rises earlier None = tt
statement_rises earlier (Some (Ok s)) = behind_rises earlier s
statement_rises earlier (Some (Err why)) = tt

-- the kinds of a line rise
line_rises : (earlier : List Statement) (line : List ℕ) → Rises 1 (kinds_of earlier line)
line_rises earlier line =
    let states : Option (Read Statement) = line_states (sizes_behind earlier) line in
    rises_when (is_foreign line) (kind_number ForeignByte) 1 _ (omega arith)
    (rises_when (is_too_long line) (kind_number TooLong) 1 _ (omega arith)
    (rises_when (has_no_form states) (kind_number NoForm) 2 _ (omega arith)
    (rises_when (has_bad_number states) (kind_number BadNumber) 3 _ (omega arith) (statement_rises earlier states))))

-- the law
pub lowest : (bytes : List ℕ) → MatchOption (first_fault bytes) ((f : TextFault) → ¬ HasFault bytes f)
    (λ f. HasFault bytes f × ((g : TextFault) → HasFault bytes g → IsNoLater f g))
unfolding first_fault
lowest bytes =
    lowest_from line_rules line_rises 1 [] (lines_of bytes)
