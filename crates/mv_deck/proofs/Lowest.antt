-- The first of the faults that are listed is the lowest that a text has.
use Rattle.std.proofs.Common.{ℕ, Bool, not, ◌&&◌, List, [], Option, Some, None, arith}
use Rattle.std.specs.Prelude.{MatchOption}
use Rattle.mv_deck.specs.declared.fault.Kind.TheVariants.{ForeignByte, TooLong, NoForm, BadName, RepeatedName, UnknownAfter, CrowdedAfter}
use Rattle.mv_deck.specs.declared.fault.Kind.TheVariants.{BadNumber, LatchOrder, LatchNotHeld, Misplaced, BehindEnd, TooHeavy}
use Rattle.mv_deck.specs.declared.fault.Kind.TheVariants.{LateDeck}
use Rattle.mv_deck.specs.declared.form.Version.{Version}
use Rattle.mv_line.specs.Line.{lines_of, is_foreign, is_too_long}
use Rattle.mv_line.specs.declared.fault.TextFault.{TextFault}
use Rattle.mv_line.specs.Fault.{IsNoLater}
use Rattle.mv_line.proofs.Faults.{Rises, rises_when, rises_last, lowest_from}
use Rattle.mv_deck.specs.Statement.{Statement, statement_of}
use Rattle.mv_deck.specs.Deck.{JobData, jobs_of}
use Rattle.mv_deck.specs.Fault.{is_misplaced, is_behind_end, is_late_deck, is_too_heavy}
use Rattle.mv_deck.specs.Fault.{has_no_form, has_bad_name, has_bad_number, repeats_name, awaits_no_job, is_crowded, uses_out_of_order}
use Rattle.mv_deck.specs.Fault.{needs_latch, kinds_of, kinds_of_statement, kinds_behind, kind_number, first_fault}
use Rattle.mv_deck.specs.Fault.{line_rules, HasFault}
use Rattle.mv_deck.proofs.Passes.{version_in}

-- the kinds of a statement behind others rise
behind_rises : (n : ℕ) (earlier : List Statement) (jobs : List JobData) (s : Statement) → Rises 3 (kinds_behind n earlier jobs s)
behind_rises n earlier jobs s =
    let placed : Bool = not (is_misplaced earlier s) in
    let asked : Bool = placed && not (is_behind_end jobs s) in
    rises_when (has_bad_name s) (kind_number BadName) 3 _ (omega arith)
    (rises_when (repeats_name jobs s && placed) (kind_number RepeatedName) 4 _ (omega arith)
    (rises_when (awaits_no_job jobs s && placed) (kind_number UnknownAfter) 5 _ (omega arith)
    (rises_when (is_crowded s && placed) (kind_number CrowdedAfter) 6 _ (omega arith)
    (rises_when (has_bad_number s) (kind_number BadNumber) 7 _ (omega arith)
    (rises_when (uses_out_of_order jobs s && asked) (kind_number LatchOrder) 8 _ (omega arith)
    (rises_when (needs_latch jobs s && asked) (kind_number LatchNotHeld) 9 _ (omega arith)
    (rises_when (is_misplaced earlier s) (kind_number Misplaced) 10 _ (omega arith)
    (rises_when (is_behind_end jobs s && placed) (kind_number BehindEnd) 11 _ (omega arith)
    (rises_when (is_too_heavy n jobs s && asked) (kind_number TooHeavy) 13 _ (omega arith)
    (rises_last (is_late_deck earlier s && asked) (kind_number LateDeck) 14 (omega arith)))))))))))

-- the same, where a line has a statement
statement_rises : (n : ℕ) (earlier : List Statement) (o : Option Statement) → Rises 3 (kinds_of_statement n earlier o)
statement_rises n earlier None = tt
statement_rises n earlier (Some s) = behind_rises n earlier (jobs_of earlier) s

-- the kinds of a line rise
line_rises : (n : ℕ) (v : Version) (earlier : List Statement) (line : List ℕ) → Rises 1 (kinds_of n v earlier line)
line_rises n v earlier line =
    rises_when (is_foreign line) (kind_number ForeignByte) 1 _ (omega arith)
    (rises_when (is_too_long line) (kind_number TooLong) 1 _ (omega arith)
    (rises_when (has_no_form v line) (kind_number NoForm) 2 _ (omega arith) (statement_rises n earlier (statement_of v line))))

-- the law
pub lowest : (bytes : List ℕ) (n : ℕ) → MatchOption (first_fault bytes n) ((f : TextFault) → ¬ HasFault bytes n f)
    (λ f. HasFault bytes n f × ((g : TextFault) → HasFault bytes n g → IsNoLater f g))
unfolding first_fault
lowest bytes n =
    lowest_from (line_rules n (version_in bytes)) (line_rises n (version_in bytes)) 1 [] (lines_of bytes)
