-- The texts of the run of a deck: its report, and the journal of its history; and the texts of the run of a script: its
-- answers, and the journal of its history.
use Rattle.std.specs.Prelude.{◌≡◌, ℕ, ◌≤◌, List, length}
use Rattle.mv_deck.specs.Deck.{JobData, deck_of}
use Rattle.mv_calls.specs.Numbers.{calls}
use Rattle.mv_operationtext.specs.declared.version.Version.TheVariants.{Two}
use Rattle.mv_entrytext.specs.Fault.{StatesJournal}
use Rattle.mv_machine.specs.declared.entry.Entry.{Entry}
use Rattle.mv_machine.specs.Legal.{Legal}
use Rattle.mv_config.specs.Limits.{events_limit}
use Rattle.mv_machine.specs.Orderly.{IsOrderly, IsExact}
use Rattle.mv_config.specs.Setup.{Setup}
use Rattle.mv_plan.specs.SpoolRun.{IsRun}
use Rattle.mv_plan.specs.SpoolSetup.{spool_setup}
use Rattle.mv_report.specs.Outcome.{report}
use Rattle.mv_script.specs.declared.answer.Answer.{Answer}
use Rattle.mv_script.specs.AnswerText.{AreInRange, answers_text}
use Rattle.mv_script.specs.Events.{EventsAreHandedOut}
use Rattle.mv_script.specs.Run.{IsScriptRun, script_answers, moves_in}
use Rattle.mv_script.specs.Script.{ScriptData}

-- the most bytes of a deck, and of a script
abbrev pub deck_limit : ℕ
deck_limit = 1048576

-- the report on the deck of the input
abbrev pub report_of : List ℕ → List ℕ
report_of input = report (deck_of input)

-- a text is the journal of this legal history: it states this configuration and these events with the machine's call numbers, and
-- the events are at most as many as a run may have
pub record TellsHistory (text : List ℕ) (setup : Setup) (events : List Entry) : Type 0 where
  pub states : StatesJournal text Two setup events (calls setup events)
  pub legal : Legal setup events
  pub few : length events ≤ events_limit

-- a text is the journal of a run of the deck with this many initiators: of a history in which each task has done its program,
-- and nothing else was done. The history is orderly, so latches were granted in order; and it is exact, so each code that was
-- released reached one pause
pub record IsJournalOfRun (deck : List JobData) (initiators : ℕ) (text : List ℕ) : Type 0 where
  pub events : List Entry
  pub told : TellsHistory text (spool_setup deck initiators) events
  pub run : IsRun deck initiators events
  pub orderly : IsOrderly (spool_setup deck initiators) events
  pub exact : IsExact events

-- two texts are the answers and the journal of one run of the script: of a history in which each task has made its calls, and
-- nothing else was done, and in which each word that an answer shows was read. The answers are those of this history and of
-- these words, and no other answers have their text. If the script has a table, its events were handed out once each, in the
-- order of their completion
pub record IsRunOfScript (script : ScriptData) (answers journal : List ℕ) : Type 0 where
  pub events : List Entry
  pub lists : List (List Answer)
  pub told : TellsHistory journal script.setup events
  pub run : IsScriptRun script (moves_in lists) events
  pub orderly : IsOrderly script.setup events
  pub answered : lists ≡ script_answers script (moves_in lists) events
  pub written : answers ≡ answers_text lists
  pub in_range : AreInRange lists
  pub events_handed_out : EventsAreHandedOut script lists events
