-- Its clauses are lemmas of OneHistory and Words.
use Rattle.mv_machine.proofs.OneHistory.{budgets_fit}
use Rattle.mv_machine.proofs.Words.{reached_word, reached_unpack, reached_fields}
use Rattle.mv_machine.proofs.laws.reached_states_have_words.Goals as goal

pub returns-clause-budgets : goal.returns-clause-budgets
returns-clause-budgets c = budgets_fit

pub returns-clause-word : goal.returns-clause-word
returns-clause-word c = reached_word

pub returns-clause-unpacks : goal.returns-clause-unpacks
returns-clause-unpacks c = reached_unpack

pub returns-clause-fields : goal.returns-clause-fields
returns-clause-fields c = reached_fields
