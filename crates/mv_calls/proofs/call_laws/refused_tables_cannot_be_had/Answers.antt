-- The law is can_have_is of TableFacts.
use Rattle.mv_calls.proofs.TableFacts.{can_have_is}
use Rattle.mv_calls.proofs.call_laws.refused_tables_cannot_be_had.Goals as goal

pub returns : goal.returns
returns c = can_have_is
