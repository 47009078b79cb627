-- A text determines its journal, and a list has one first illegal entry.
use Rattle.mv_replay.proofs.Endings.{one_count, one_finding, one_ending}
use Rattle.mv_replay.proofs.laws.no_text_asks_for_two_endings.Goals as goal

pub returns-clause-count : goal.returns-clause-count
returns-clause-count c = one_count

pub returns-clause-found : goal.returns-clause-found
returns-clause-found c = one_finding

pub returns-clause-asked : goal.returns-clause-asked
returns-clause-asked c = one_ending
