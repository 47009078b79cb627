-- Its clauses are lemmas of LinesAgain.
use Rattle.mv_entrytext.proofs.LinesAgain.{one_journal, reads_back}
use Rattle.mv_entrytext.proofs.laws.text_determines_journal.Goals as goal

pub returns-clause-one : goal.returns-clause-one
returns-clause-one c = one_journal

pub returns-clause-read_back : goal.returns-clause-read_back
returns-clause-read_back c = reads_back
