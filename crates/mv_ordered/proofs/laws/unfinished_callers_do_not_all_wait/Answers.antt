-- Its clauses are lemmas of Chains.
use Rattle.mv_ordered.proofs.Chains.{someone_continues, all_finished}
use Rattle.mv_ordered.proofs.laws.unfinished_callers_do_not_all_wait.Goals as goal

pub returns-clause-someone : goal.returns-clause-someone
returns-clause-someone c = someone_continues

pub returns-clause-all : goal.returns-clause-all
returns-clause-all c = all_finished
