-- Its clauses are lemmas of Reading.
use Rattle.mv_guarded.proofs.Reading.{grants, guarded, undisturbed, stays, value_read}
use Rattle.mv_guarded.proofs.laws.sections_see_one_number.Goals as goal

pub returns-clause-grant : goal.returns-clause-grant
returns-clause-grant c = grants

pub returns-clause-written : goal.returns-clause-written
returns-clause-written c = guarded

pub returns-clause-undisturbed : goal.returns-clause-undisturbed
returns-clause-undisturbed c = undisturbed

pub returns-clause-stays : goal.returns-clause-stays
returns-clause-stays c = stays

pub returns-clause-read : goal.returns-clause-read
returns-clause-read c = value_read
