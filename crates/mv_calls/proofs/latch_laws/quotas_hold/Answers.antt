-- Its clauses are lemmas of Uses.
use Rattle.mv_calls.proofs.Uses.{all_kept, posted_kept, listed_is_fair}
use Rattle.mv_calls.proofs.latch_laws.quotas_hold.Goals as goal

pub returns-clause-all : goal.returns-clause-all
returns-clause-all c = all_kept

pub returns-clause-posted : goal.returns-clause-posted
returns-clause-posted c = posted_kept

pub returns-clause-requests : goal.returns-clause-requests
returns-clause-requests c = listed_is_fair
