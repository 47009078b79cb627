-- What a run of a script leaves.
use Rattle.std.specs.Prelude.{◌≡◌, ℕ, ◌≤◌, [], All, length}
use Rattle.mv_config.specs.Check.{IsValid}
use Rattle.mv_config.specs.Limits.{events_limit, highest_place}
use Rattle.mv_machine.specs.Orderly.{IsOrderly}
use Rattle.mv_script.specs.Events.{EventsAreHandedOut}
use Rattle.mv_script.specs.Run.{IsScriptRun, moves_in, script_answers}
use Rattle.mv_script.specs.Script.{ScriptData}
use Rattle.mv_runscript.specs.declared.run.ScriptRun.{ScriptRun}

-- The outcome is one of a run of the script. Its history is a run of the script's tasks, of which no entry was read yet, with the
-- script's configuration. Each call has the answer that it has by that history. If the script has a table, its events are handed
-- out once each, in the order of their completion.
pub record IsScriptRunOf (script : ScriptData) (r : ScriptRun) : Type 0 where
  pub config : r.history.config ≡ script.setup
  pub whole : r.history.past ≡ []
  pub valid : IsValid script.setup
  pub run : IsScriptRun script (moves_in r.answers.items) r.history.coming
  pub orderly : IsOrderly script.setup r.history.coming
  pub answers : r.answers.items ≡ script_answers script (moves_in r.answers.items) r.history.coming
  pub events : EventsAreHandedOut script r.answers.items r.history.coming
  pub few : length r.history.coming ≤ events_limit
  pub places : All (λ e. e.place ≤ highest_place) r.history.coming
