-- What a command has written is its report on the input, as far as it came.
use Rattle.std.proofs.Common.{◌≡◌, ℕ, ◌≤◌, List, [], length, Option, Some, None, refl, subst}
use Rattle.std.specs.Prelude.{IfSome, option_map}
use Rattle.mv_ending.specs.Written.{Nothing, PartOfReport}
use Rattle.mv_calls.specs.Numbers.{calls}
use Rattle.mv_operationtext.specs.declared.version.Version.TheVariants.{Two}
use Rattle.mv_entrytext.proofs.CallNumbers.{calls_are_numbers}
use Rattle.mv_entrytext.proofs.Stated.{states, stated}
use Rattle.mv_replay.specs.declared.command.JournalCommand.{JournalCommand}
use Rattle.mv_replay.specs.declared.command.JournalCommand.TheVariants.{Replay, Convert}
use Rattle.mv_replay.specs.declared.reading.LegalText.{LegalText}
use Rattle.mv_replay.specs.declared.status.ReplayStatus.{ReplayStatus}
use Rattle.mv_replay.specs.declared.status.ReplayStatus.TheVariants.{Done, ReadFailed, ReportFailed}
use Rattle.mv_replay.specs.Judgement.{journal_limit, calls_in, IsLegalJournal}
use Rattle.mv_replay.specs.Course.{report_text, IsJudged}
use Rattle.mv_replay.specs.Outcome.{InputOf, ReportAfter, Writes, extent_of, reports_of}
use Rattle.mv_replay.proofs.Converted.{made_so}

-- what a command writes of a legal text is its report on it
pub is_report : (command : JournalCommand) (l : LegalText) → IsJudged command l.text.items l.judged
    → reports_of command l.text.items (report_text command l)
is_report Replay l judged = record { count = l.judged.count; legal = judged.legal; reported = refl }
is_report Convert l judged =
    let x = judged.legal in
    let h = stated l.text.items x.version x.setup x.entries (calls_in x.version x.setup x.entries) x.states in
    record {
      count = l.judged.count;
      legal = x;
      reported = states (report_text Convert l) Two x.setup x.entries (calls x.setup x.entries) h.0
          (calls_are_numbers x.setup x.entries h.0.count)
          (made_so x.version l.text.items x.setup x.entries (option_map (λ t. t.items) l.judged.second) h.2 judged.made);
    }

-- what was written of the report on a text, which is the input where that is told
pub reported : (Reports : List ℕ → List ℕ → Type 0) (s : ReplayStatus) (input old new : Option (List ℕ)) (text report : List ℕ)
    → IfSome input (λ bytes. text ≡ bytes) → Reports text report → Writes s old new report → ReportAfter Reports s input old new
reported Reports Done None old new text report same says wrote = tt
reported Reports Done (Some bytes) old new text report same says wrote =
    (report, subst (λ (x : List ℕ). Reports x report) same says, wrote)
reported Reports ReportFailed None old new text report same says wrote = tt
reported Reports ReportFailed (Some bytes) old new text report same says wrote =
    (report, subst (λ (x : List ℕ). Reports x report) same says, wrote)
reported Reports s input old new text report same says wrote = absurd wrote

-- a command that wrote has read its input, and found it legal
pub read_before : (s : ReplayStatus) (input left old new : Option (List ℕ)) (report : List ℕ) → InputOf Done input left
    → Writes s old new report → InputOf s input left
read_before Done input left old new report read wrote = read
read_before ReportFailed input left old new report read wrote = read
read_before s input left old new report read wrote = absurd wrote

-- so it did not fail to read it
pub not_unread : (s : ReplayStatus) (old new : Option (List ℕ)) (report : List ℕ) → Writes s old new report → s ≡ ReadFailed → ⊥
not_unread s old new report wrote failed = subst (λ (x : ReplayStatus). Writes x old new report) failed wrote

-- one that ended before it reported did not fail to report
pub unreported : (R : Type 0) (s : ReplayStatus) → extent_of s ≡ Nothing → s ≡ ReportFailed → R
unreported R s none failed =
    let both : PartOfReport ≡ Nothing = subst (λ (x : ReplayStatus). extent_of x ≡ Nothing) failed none in
    absurd cc

-- ---- the input, which was read to its end

-- it is the text, where it is told
pub told_text : (input left : Option (List ℕ)) (text : List ℕ) → IfSome input (λ xs. (text ≡ xs) × (left ≡ Some []))
    → IfSome input (λ bytes. text ≡ bytes)
told_text None left text h = tt
told_text (Some bytes) left text h = h.0

-- and a legal journal, where the text is one
pub told_legal : (input left : Option (List ℕ)) (text : List ℕ) (count : ℕ) → length text ≤ journal_limit → IsLegalJournal text count
    → IfSome input (λ xs. (text ≡ xs) × (left ≡ Some [])) → InputOf Done input left
told_legal None left text count short l h = tt
told_legal (Some bytes) left text count short l h = (
  record { whole = h.1; short = subst (λ (x : List ℕ). length x ≤ journal_limit) h.0 short },
  (count, subst (λ (x : List ℕ). IsLegalJournal x count) h.0 l),
)
