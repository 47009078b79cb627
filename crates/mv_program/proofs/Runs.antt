-- The text of a run's configuration and entries is the journal of a run, of a deck's or of a script's; it is legal, and within the
-- limit.
use Rattle.std.proofs.Common.{◌≡◌, ℕ, ◌≤◌, List, length, refl, ap, sym, subst, arith}
use Rattle.std.specs.Prelude.{All}
use Rattle.mv_deck.specs.Deck.{JobData}
use Rattle.mv_deck.specs.Sound.{IsSound}
use Rattle.mv_machine.specs.declared.entry.Entry.{Entry}
use Rattle.mv_machine.proofs.Orderly.{history_is_orderly}
use Rattle.mv_machine.specs.Legal.{Legal}
use Rattle.mv_config.specs.Limits.{highest_place, events_limit}
use Rattle.mv_config.specs.Setup.{Setup}
use Rattle.mv_calls.specs.Numbers.{calls}
use Rattle.mv_operationtext.specs.declared.version.Version.TheVariants.{Two}
use Rattle.mv_operationtext.specs.EntryText.{IsTyped}
use Rattle.mv_entrytext.specs.Fault.{HasJournal}
use Rattle.mv_entrytext.specs.Journal.{journal_text}
use Rattle.mv_entrytext.proofs.CallNumbers.{calls_are_numbers}
use Rattle.mv_entrytext.proofs.LegalRanges.{legal_journal}
use Rattle.mv_entrytext.proofs.Stated.{states, stated}
use Rattle.mv_plan.specs.SpoolRun.{IsRun}
use Rattle.mv_plan.specs.SpoolSetup.{spool_setup}
use Rattle.mv_plan.proofs.deck.Planned.{planned}
use Rattle.mv_plan.proofs.deck.Setup.{spool_setup_is_valid}
use Rattle.mv_plan.proofs.results.HandedOut.{are_handed_out}
use Rattle.mv_deck.specs.Weight.{most_initiators}
use Rattle.mv_script.specs.declared.answer.Answer.{Answer}
use Rattle.mv_script.specs.AnswerText.{AreInRange, answers_text}
use Rattle.mv_script.specs.Events.{EventsAreHandedOut}
use Rattle.mv_script.specs.Run.{IsScriptRun, script_answers, moves_in}
use Rattle.mv_script.specs.Script.{ScriptData}
use Rattle.mv_config.specs.Check.{IsValid}
use Rattle.mv_replay.specs.Judgement.{journal_limit, IsLegalJournal}
use Rattle.mv_replay.proofs.Lengths.{text_fits}
use Rattle.mv_program.specs.Texts.{TellsHistory, IsJournalOfRun, IsRunOfScript}

-- entries that are legal are so in the same configuration
pub legal_so : (c d : Setup) (es : List Entry) → d ≡ c → Legal c es → Legal d es
legal_so c d es same legal = subst (λ (x : Setup). Legal x es) (sym same) legal

-- the text of a configuration and of legal entries that have one tells them
told_by : (c : Setup) (es : List Entry) (text : List ℕ) → HasJournal c es → text ≡ journal_text c es → Legal c es
    → length es ≤ events_limit → TellsHistory text c es
told_by c es text written kept legal few = record {
  states = states text Two c es (calls c es) written (calls_are_numbers c es written.count) kept;
  legal = legal;
  few = few;
}

-- and the text of a run's entries is the journal of a run, by the laws of legal histories and of runs
pub journal_of_run : (deck : List JobData) (n : ℕ) (es : List Entry) (text : List ℕ)
    → 1 ≤ n → n ≤ most_initiators → IsSound deck n → IsRun deck n es
    → length es ≤ events_limit → All (λ e. e.place ≤ highest_place) es → All IsTyped es
    → text ≡ journal_text (spool_setup deck n) es → IsJournalOfRun deck n text
journal_of_run deck n es text some few sound run most low typed kept =
    let c = spool_setup deck n in
    let legal = run.follow.legal in
    let valid = spool_setup_is_valid deck n some few sound.light in
    record {
      events = es;
      told = told_by c es text (legal_journal c es valid legal low typed (omega arith)) kept legal most;
      run = run;
      orderly = history_is_orderly c es legal;
      exact = (are_handed_out deck n some (planned deck n sound) es run).exact;
    }

-- the same of a script, with the text of the answers
pub run_of_script : (script : ScriptData) (lists : List (List Answer)) (es : List Entry) (answers text : List ℕ)
    → IsValid script.setup → IsScriptRun script (moves_in lists) es → lists ≡ script_answers script (moves_in lists) es
    → length es ≤ events_limit → All (λ e. e.place ≤ highest_place) es → All IsTyped es
    → answers ≡ answers_text lists → AreInRange lists → EventsAreHandedOut script lists es → text ≡ journal_text script.setup es
    → IsRunOfScript script answers text
run_of_script script lists es answers text valid run answered most low typed written in_range handed kept =
    let legal = run.finish.follow.legal in
    record {
      events = es;
      lists = lists;
      told = told_by script.setup es text (legal_journal script.setup es valid legal low typed (omega arith)) kept legal most;
      run = run;
      orderly = history_is_orderly script.setup es legal;
      answered = answered;
      written = written;
      in_range = in_range;
      events_handed_out = handed;
    }

-- a text that tells a history is a legal journal, of as many events
pub history_is_legal : (text : List ℕ) (c : Setup) (es : List Entry) → TellsHistory text c es → IsLegalJournal text (length es)
history_is_legal text c es told = record {
  version = Two;
  setup = c;
  entries = es;
  states = told.states;
  legal = told.legal;
  number = refl;
}

-- and no longer than a journal may be, since it has no more events than a run may have
pub history_fits : (text : List ℕ) (c : Setup) (es : List Entry) → TellsHistory text c es → length text ≤ journal_limit
history_fits text c es told =
    let is = stated text Two c es (calls c es) told.states in
    omega (arith, ap length is.2, text_fits Two c es (calls c es) is.0 is.1 told.few)
