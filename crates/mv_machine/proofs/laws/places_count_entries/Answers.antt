-- Its clauses are lemmas of Budgets.
use Rattle.mv_machine.proofs.Budgets.{place_is_count, places_count}
use Rattle.mv_machine.proofs.laws.places_count_entries.Goals as goal

pub returns-clause-places : goal.returns-clause-places
returns-clause-places c = places_count

pub returns-clause-after : goal.returns-clause-after
returns-clause-after c = place_is_count
