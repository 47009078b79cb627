-- What the writing of both texts leaves, and what a command on a journal leaves, is what their commands tell; and a run goes by its words.
use Rattle.std.proofs.Common.{◌≡◌, ℕ, true, List, [], Option, Some, None, refl, sym, ap, subst, ◌∙◌, append-nil}
use Rattle.std.specs.Prelude.{IfSome, IsSomeAnd}
use Rattle.mv_io.specs.Sink.{Appends}
use Rattle.mv_ending.specs.Written.{WroteOf}
use Rattle.mv_replay.specs.Outcome.{ReportAfter}
use Rattle.mv_program.specs.declared.command.Command.{Command}
use Rattle.mv_program.specs.declared.command.Command.TheVariants.{Spool, Load, Journal, Polled}
use Rattle.mv_program.specs.declared.command.Command.TheVariants as asked
use Rattle.mv_program.specs.declared.status.Status.{Status}
use Rattle.mv_program.specs.declared.status.Status.TheVariants.{Done, Words, Deck, TooLong, ReadFailed, ReportFailed}
use Rattle.mv_program.specs.declared.status.Status.TheVariants.{JournalFailed, NoMemory, Illegal, Text}
use Rattle.mv_program.specs.declared.status.Status.TheVariants.{Script}
use Rattle.mv_program.specs.Program.{TellsTexts, TellsReport, Told, Writes, extent_of, has_journal, reads_input}
use Rattle.mv_program.specs.Status.{replay_of}

-- what holds of the command holds of the words that are it
pub told_for : (w c : Option Command) (s : Status) (input report0 report1 journal0 journal1 : Option (List ℕ)) → w ≡ c
    → Told c s input report0 report1 journal0 journal1 → Told w s input report0 report1 journal0 journal1
told_for w c s input report0 report1 journal0 journal1 e told =
    subst (λ (k : Option Command). Told k s input report0 report1 journal0 journal1) (sym e) told

-- ---- a command that writes both texts

-- of texts of a kind, and what stands in the sinks before and behind their writing
module _ (Tells : List ℕ → List ℕ → List ℕ → Type 0) (report0 report1 journal0 journal1 : Option (List ℕ)) (report journal : List ℕ) where
  -- those that are told of the bytes that were read are told of the input
  of_input : (input left : Option (List ℕ)) (items : List ℕ) → IfSome input (λ xs. (items ≡ xs) × (left ≡ Some []))
      → Tells items report journal → IfSome input (λ xs. Tells xs report journal)
  of_input None left items read tells = tt
  of_input (Some xs) left items read tells = subst (λ (bytes : List ℕ). Tells bytes report journal) read.0 tells

  -- so much was written of them as the status says
  texts_are_told : (s : Status) (input : Option (List ℕ)) → IfSome input (λ bytes. Tells bytes report journal)
      → Writes s report0 report1 journal0 journal1 report journal
      → WroteOf Tells (extent_of s) input report0 report1 journal0 journal1
  texts_are_told Done None tells wrote = tt
  texts_are_told Done (Some xs) tells wrote = (report, journal, tells, wrote)
  texts_are_told ReportFailed None tells wrote = tt
  texts_are_told ReportFailed (Some xs) tells wrote = (report, journal, tells, wrote)
  texts_are_told JournalFailed None tells wrote = tt
  texts_are_told JournalFailed (Some xs) tells wrote = (report, journal, tells, wrote)
  texts_are_told s input tells wrote = absurd wrote

  -- the same of an input that was read
  read_is_told : (s : Status) (input left : Option (List ℕ)) (items : List ℕ) → IfSome input (λ xs. (items ≡ xs) × (left ≡ Some []))
      → Tells items report journal → Writes s report0 report1 journal0 journal1 report journal
      → WroteOf Tells (extent_of s) input report0 report1 journal0 journal1
  read_is_told s input left items read tells wrote = texts_are_told s input (of_input input left items read tells) wrote

-- and so of every command that writes a journal, whether or not it reads its input
pub run_is_told : (c : Command) (s : Status) (input left report0 report1 journal0 journal1 : Option (List ℕ)) (text report journal : List ℕ)
    → has_journal c ≡ true → (reads_input c ≡ true → IfSome input (λ xs. (text ≡ xs) × (left ≡ Some [])))
    → TellsTexts c text report journal → Writes s report0 report1 journal0 journal1 report journal
    → Told (Some c) s input report0 report1 journal0 journal1
run_is_told (Spool n) s input left report0 report1 journal0 journal1 text report journal runs read tells wrote =
    read_is_told (TellsTexts (Spool n)) report0 report1 journal0 journal1 report journal s input left text (read refl) tells wrote
run_is_told (Polled n seed) s input left report0 report1 journal0 journal1 text report journal runs read tells wrote =
    read_is_told (TellsTexts (Polled n seed)) report0 report1 journal0 journal1 report journal s input left text (read refl) tells wrote
run_is_told asked.Script s input left report0 report1 journal0 journal1 text report journal runs read tells wrote =
    read_is_told (TellsTexts asked.Script) report0 report1 journal0 journal1 report journal s input left text (read refl) tells wrote
run_is_told (Load jobs n) s input left report0 report1 journal0 journal1 text report journal runs read tells wrote =
    texts_are_told (TellsTexts (Load jobs n)) report0 report1 journal0 journal1 report journal s (Some []) tells wrote
run_is_told (Journal k) s input left report0 report1 journal0 journal1 text report journal runs read tells wrote = absurd cc

-- ---- a command on a journal has none itself

-- nothing more stands behind what stood there
nothing_more : (old new : Option (List ℕ)) → new ≡ old → Appends old new []
nothing_more None new e = tt
nothing_more (Some xs) new e = e ∙ ap Some (sym (append-nil xs))

-- So much of a report of this kind was written, and no journal, as that status says.
pub report_is_told : (Reports : List ℕ → List ℕ → Type 0) (s : Status) (input report0 report1 journal0 journal1 : Option (List ℕ))
    → IsSomeAnd (replay_of s) (λ r. ReportAfter Reports r input report0 report1) → journal1 ≡ journal0
    → WroteOf (TellsReport Reports) (extent_of s) input report0 report1 journal0 journal1
report_is_told Reports Done None report0 report1 journal0 journal1 wrote kept = tt
report_is_told Reports Done (Some bytes) report0 report1 journal0 journal1 wrote kept =
    (wrote.0, [], record { reported = wrote.1; none = refl }, (wrote.2, nothing_more journal0 journal1 kept))
report_is_told Reports ReportFailed None report0 report1 journal0 journal1 wrote kept = tt
report_is_told Reports ReportFailed (Some bytes) report0 report1 journal0 journal1 wrote kept =
    (wrote.0, [], record { reported = wrote.1; none = refl }, (wrote.2, kept))
report_is_told Reports Words input report0 report1 journal0 journal1 wrote kept = absurd wrote
report_is_told Reports (Deck f) input report0 report1 journal0 journal1 wrote kept = absurd wrote
report_is_told Reports JournalFailed input report0 report1 journal0 journal1 wrote kept = absurd wrote
report_is_told Reports TooLong input report0 report1 journal0 journal1 wrote kept = (wrote, kept)
report_is_told Reports ReadFailed input report0 report1 journal0 journal1 wrote kept = (wrote, kept)
report_is_told Reports NoMemory input report0 report1 journal0 journal1 wrote kept = (wrote, kept)
report_is_told Reports (Illegal line) input report0 report1 journal0 journal1 wrote kept = (wrote, kept)
report_is_told Reports (Script f) input report0 report1 journal0 journal1 wrote kept = absurd wrote
report_is_told Reports (Text f) input report0 report1 journal0 journal1 wrote kept = (wrote, kept)
