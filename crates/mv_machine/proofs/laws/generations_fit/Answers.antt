-- Its clauses are lemmas of Budgets, ElementRuns and Longer.
use Rattle.mv_machine.proofs.Budgets.{places_fit, no_high_generation}
use Rattle.mv_machine.proofs.ElementRuns.{generation_fits}
use Rattle.mv_machine.proofs.Longer.{entries_fit}
use Rattle.mv_machine.proofs.laws.generations_fit.Goals as goal

pub returns-clause-fits : goal.returns-clause-fits
returns-clause-fits c = generation_fits

pub returns-clause-places : goal.returns-clause-places
returns-clause-places c = places_fit

pub returns-clause-generations : goal.returns-clause-generations
returns-clause-generations c = no_high_generation

pub returns-clause-entries : goal.returns-clause-entries
returns-clause-entries c = entries_fit
