-- Its clauses are lemmas of Codes.
use Rattle.mv_calls.proofs.Codes.{each_names_low, possible_names_low}
use Rattle.mv_calls.proofs.call_laws.codes_in_replies.Goals as goal

pub returns-clause-entries : goal.returns-clause-entries
returns-clause-entries c = each_names_low

pub returns-clause-possible : goal.returns-clause-possible
returns-clause-possible c = possible_names_low
