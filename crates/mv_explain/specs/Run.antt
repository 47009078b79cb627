-- What `explain --run` writes of a script, and what its streams hold then.
use Rattle.std.specs.Prelude.{◌≡◌, ℕ, List, [], ◌++◌, Option, Some, None, IfSome}
use Rattle.mv_diagnostics.specs.Script.{script_text}
use Rattle.mv_ending.specs.Input.{IsAllOrNothing, IsCut, IsTooLong, IsWhole}
use Rattle.mv_entrytext.specs.Journal.{journal_text}
use Rattle.mv_io.specs.Sink.{Appends, AppendsFront}
use Rattle.mv_line.specs.declared.fault.TextFault.{TextFault}
use Rattle.mv_machine.specs.Legal.{after}
use Rattle.mv_pollscript.specs.SoFar.{IsQuiescent, IsRunSoFar}
use Rattle.mv_pollscript.specs.Text.{waits_text}
use Rattle.mv_pollscript.specs.declared.run.RunSoFar.{RunSoFar}
use Rattle.mv_script.specs.AnswerText.{answers_text}
use Rattle.mv_script.specs.Fault.{first_fault}
use Rattle.mv_script.specs.Script.{ScriptData, script_of}
use Rattle.mv_explain.specs.declared.status.ExplainStatus.{ExplainStatus}
use Rattle.mv_explain.specs.declared.status.ExplainStatus.TheVariants.{Done, TooLong, ReadFailed, ReportFailed, JournalFailed, NoMemory}

-- the most bytes of a script
abbrev pub script_limit : ℕ
script_limit = 1_048_576

-- The texts are those of a run of the script as far as its tasks went on, after which no task could go on: its answers so far, what each
-- task with calls left waits for in the state that the run left, and its journal so far.
pub record AreTextsOf (script : ScriptData) (report journal : List ℕ) : Type 0 where
  pub run : RunSoFar
  pub so_far : IsRunSoFar script run
  pub quiescent : IsQuiescent script run
  pub report_is : report ≡ answers_text run.answers.items
      ++ waits_text script.setup (after script.setup run.journal.items) script.tasks run.answers.items
  pub journal_is : journal ≡ journal_text script.setup run.journal.items

-- the texts for a script, by its first fault
abbrev pub AreTextsBy : Option TextFault → (bytes report journal : List ℕ) → Type 0
AreTextsBy None bytes report journal = AreTextsOf (script_of bytes) report journal
AreTextsBy (Some fault) bytes report journal = (report ≡ script_text bytes) × (journal ≡ [])

-- the texts for the script of these bytes: those of a run, or what is wrong with it
abbrev pub IsRunExplained : (bytes report journal : List ℕ) → Type 0
IsRunExplained bytes report journal = AreTextsBy (first_fault bytes) bytes report journal

-- what the input was, where its source told it, and what is left of it, after each status
abbrev pub RunInputOf : ExplainStatus → Option (List ℕ) → Option (List ℕ) → Type 0
RunInputOf Done old new = IfSome old (λ bytes. IsWhole script_limit bytes new)
RunInputOf ReportFailed old new = IfSome old (λ bytes. IsWhole script_limit bytes new)
RunInputOf JournalFailed old new = IfSome old (λ bytes. IsWhole script_limit bytes new)
RunInputOf TooLong old new = IfSome old (λ bytes. IsTooLong script_limit bytes new)
RunInputOf ReadFailed old new = IfSome old (λ bytes. IsCut script_limit bytes new)
RunInputOf NoMemory old new = IsAllOrNothing script_limit old new

-- the writing of a report, and then of a journal, ends in one of three ways
abbrev pub WritesBoth : ExplainStatus → (report0 report1 journal0 journal1 : Option (List ℕ)) → (report journal : List ℕ) → Type 0
WritesBoth Done report0 report1 journal0 journal1 report journal = Appends report0 report1 report × Appends journal0 journal1 journal
WritesBoth ReportFailed report0 report1 journal0 journal1 report journal = AppendsFront report0 report1 report × (journal1 ≡ journal0)
WritesBoth JournalFailed report0 report1 journal0 journal1 report journal =
    Appends report0 report1 report × AppendsFront journal0 journal1 journal
WritesBoth _ report0 report1 journal0 journal1 report journal = ⊥
