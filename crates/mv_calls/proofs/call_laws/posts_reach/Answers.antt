-- Its clauses are lemmas of Posting and Uses.
use Rattle.mv_calls.proofs.Posting.{exits_are_own, targets_add_up}
use Rattle.mv_calls.proofs.Uses.{call_exits, post_hears}
use Rattle.mv_calls.proofs.call_laws.posts_reach.Goals as goal

pub returns-clause-exits : goal.returns-clause-exits
returns-clause-exits c = exits_are_own

pub returns-clause-heard : goal.returns-clause-heard
returns-clause-heard c = call_exits

pub returns-clause-post : goal.returns-clause-post
returns-clause-post c = post_hears

pub returns-clause-targets : goal.returns-clause-targets
returns-clause-targets c = targets_add_up
