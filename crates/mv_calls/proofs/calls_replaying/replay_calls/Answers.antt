-- What holds of every legal list.
use Rattle.mv_machine.proofs.OnePost.{posts_are_taken_once}
use Rattle.mv_machine.proofs.Orderly.{history_is_orderly}
use Rattle.mv_calls.proofs.calls_replaying.replay_calls.Goals as goal

pub returns-in-None-clause-orderly : goal.returns-in-None-clause-orderly
returns-in-None-clause-orderly c = history_is_orderly c.args.config.now c.args.entries.now c.in-None.ensures.judged.legal

pub returns-in-None-clause-posts : goal.returns-in-None-clause-posts
returns-in-None-clause-posts c = posts_are_taken_once c.args.config.now c.args.entries.now c.in-None.ensures.judged.legal
