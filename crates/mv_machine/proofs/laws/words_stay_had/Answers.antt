-- Its clauses are lemmas of Longer.
use Rattle.mv_machine.proofs.Longer.{had_now, had_longer}
use Rattle.mv_machine.proofs.laws.words_stay_had.Goals as goal

pub returns-clause-now : goal.returns-clause-now
returns-clause-now c = had_now

pub returns-clause-longer : goal.returns-clause-longer
returns-clause-longer c = had_longer
