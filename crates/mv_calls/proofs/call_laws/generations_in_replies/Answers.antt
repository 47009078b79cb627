-- Its clauses are lemmas of Generations and Uses.
use Rattle.mv_calls.proofs.Generations.{each_names}
use Rattle.mv_calls.proofs.Uses.{possible_names}
use Rattle.mv_calls.proofs.call_laws.generations_in_replies.Goals as goal

pub returns-clause-entries : goal.returns-clause-entries
returns-clause-entries c = each_names

pub returns-clause-possible : goal.returns-clause-possible
returns-clause-possible c = possible_names
