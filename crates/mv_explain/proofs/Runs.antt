-- What was written of a run is what the input asks for.
use Rattle.std.proofs.Common.{◌≡◌, ℕ, ◌≤◌, List, [], ◌++◌, length, Option, Some, None, refl, sym, ap, ◌∙◌, subst, arith}
use Rattle.std.specs.Prelude.{IfSome}
use Rattle.mv_ending.specs.Written.{Nothing, WroteOf}
use Rattle.mv_entrytext.specs.Journal.{journal_text}
use Rattle.mv_config.specs.Setup.{Setup}
use Rattle.mv_machine.specs.State.{system_of}
use Rattle.mv_machine.specs.System.{System}
use Rattle.mv_pollscript.specs.SoFar.{IsQuiescent, IsRunSoFar}
use Rattle.mv_pollscript.specs.Text.{waits_text}
use Rattle.mv_pollscript.specs.declared.run.RunSoFar.{RunSoFar}
use Rattle.mv_script.specs.AnswerText.{answers_text}
use Rattle.mv_script.specs.Script.{ScriptData}
use Rattle.mv_explain.specs.declared.status.ExplainStatus.{ExplainStatus}
use Rattle.mv_explain.specs.declared.status.ExplainStatus.TheVariants.{Done, TooLong, ReadFailed, ReportFailed, JournalFailed}
use Rattle.mv_explain.specs.declared.status.ExplainStatus.TheVariants.{NoMemory}
use Rattle.mv_explain.specs.Outcome.{extent_of}
use Rattle.mv_explain.specs.Run.{AreTextsOf, IsRunExplained, RunInputOf, WritesBoth, script_limit}

-- it was read to its end
pub run_whole : (input left : Option (List ℕ)) (text : List ℕ) → length text ≤ script_limit
    → IfSome input (λ xs. (text ≡ xs) × (left ≡ Some [])) → RunInputOf Done input left
run_whole None left text short h = tt
run_whole (Some bytes) left text short h =
    record { whole = h.1; short = subst (λ (x : List ℕ). length x ≤ script_limit) h.0 short }

-- the texts for what was read are those for the input
pub run_explained : (input left : Option (List ℕ)) (text report journal : List ℕ) → IsRunExplained text report journal
    → IfSome input (λ xs. (text ≡ xs) × (left ≡ Some [])) → IfSome input (λ bytes. IsRunExplained bytes report journal)
run_explained None left text report journal explained h = tt
run_explained (Some bytes) left text report journal explained h = subst (λ (x : List ℕ). IsRunExplained x report journal) h.0 explained

-- a run that wrote has read its input
pub run_read_before : (s : ExplainStatus) (input left r0 r1 j0 j1 : Option (List ℕ)) (report journal : List ℕ) → RunInputOf Done input left
    → WritesBoth s r0 r1 j0 j1 report journal → RunInputOf s input left
run_read_before Done input left r0 r1 j0 j1 report journal read wrote = read
run_read_before ReportFailed input left r0 r1 j0 j1 report journal read wrote = read
run_read_before JournalFailed input left r0 r1 j0 j1 report journal read wrote = read
run_read_before s input left r0 r1 j0 j1 report journal read wrote = absurd wrote

-- and what it wrote are the texts for its input
pub run_wrote : (s : ExplainStatus) (input r0 r1 j0 j1 : Option (List ℕ)) (report journal : List ℕ)
    → IfSome input (λ bytes. IsRunExplained bytes report journal) → WritesBoth s r0 r1 j0 j1 report journal
    → WroteOf IsRunExplained (extent_of s) input r0 r1 j0 j1
run_wrote Done None r0 r1 j0 j1 report journal explained wrote = tt
run_wrote Done (Some bytes) r0 r1 j0 j1 report journal explained wrote = (report, journal, explained, wrote)
run_wrote ReportFailed None r0 r1 j0 j1 report journal explained wrote = tt
run_wrote ReportFailed (Some bytes) r0 r1 j0 j1 report journal explained wrote = (report, journal, explained, wrote)
run_wrote JournalFailed None r0 r1 j0 j1 report journal explained wrote = tt
run_wrote JournalFailed (Some bytes) r0 r1 j0 j1 report journal explained wrote = (report, journal, explained, wrote)
run_wrote s input r0 r1 j0 j1 report journal explained wrote = absurd wrote

-- nothing was written
pub run_unwritten : (s : ExplainStatus) (input r j : Option (List ℕ)) → extent_of s ≡ Nothing → WroteOf IsRunExplained (extent_of s) input r r j j
run_unwritten s input r j none = subst (λ e. WroteOf IsRunExplained e input r r j j) (sym none) (refl, refl)

-- texts that show a run's own configuration and state are those of the run
pub run_texts : (script : ScriptData) (run : RunSoFar) (report journal : List ℕ) → IsRunSoFar script run → IsQuiescent script run
    → report ≡ answers_text run.answers.items ++ waits_text run.config (system_of run.state) script.tasks run.answers.items
    → journal ≡ journal_text run.config run.journal.items → AreTextsOf script report journal
run_texts script run report journal so_far quiescent shown told =
    let answers = run.answers.items in
    let by_config = ap (λ (c : Setup). answers_text answers ++ waits_text c (system_of run.state) script.tasks answers) so_far.config in
    let by_state = ap (λ (s : System). answers_text answers ++ waits_text script.setup s script.tasks answers) so_far.state in
    record {
      run = run;
      so_far = so_far;
      quiescent = quiescent;
      report_is = shown ∙ (by_config ∙ by_state);
      journal_is = told ∙ ap (λ (c : Setup). journal_text c run.journal.items) so_far.config;
    }
