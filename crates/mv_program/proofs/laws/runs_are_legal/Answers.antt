-- The journal of a run is in version 2, with the machine's call numbers, and no longer than that of so many events can be.
use Rattle.mv_program.proofs.Runs.{history_is_legal, history_fits}
use Rattle.mv_plan.specs.SpoolSetup.{spool_setup}
use Rattle.mv_program.proofs.laws.runs_are_legal.Goals as goal

pub returns-clause-deck : goal.returns-clause-deck
returns-clause-deck c = λ deck initiators text run. history_is_legal text (spool_setup deck initiators) run.events run.told

pub returns-clause-script : goal.returns-clause-script
returns-clause-script c = λ script answers text run. history_is_legal text script.setup run.events run.told

pub returns-clause-within : goal.returns-clause-within
returns-clause-within c = history_fits
