-- The list is gone through from the opening.
use Rattle.mv_machine.specs.System.{opening}
use Rattle.mv_machine.proofs.OnePost.{posts_are_taken_once}
use Rattle.mv_machine.proofs.Orderly.{history_is_orderly}
use Rattle.mv_machine.proofs.Replays.{not_legal, opening_places}
use Rattle.mv_machine.proofs.replaying.replay.Goals as goal

pub first_illegal-requires-clause-at_most : goal.first_illegal-requires-clause-at_most
first_illegal-requires-clause-at_most c = λ o. rw c.in_ok-state.ensures.system (opening_places c.args.config.now o)

pub returns-in-Some-clause-not_legal : goal.returns-in-Some-clause-not_legal
returns-in-Some-clause-not_legal c = λ _ l. not_legal c.args.config.now (opening c.args.config.now) c.args.entries.now c.in-Some.illegal
    (rw c.in_ok-state.ensures.system at c.in-Some.ensures.legal) l

pub returns-in-None-clause-orderly : goal.returns-in-None-clause-orderly
returns-in-None-clause-orderly c = history_is_orderly c.args.config.now c.args.entries.now
    (rw c.in_ok-state.ensures.system at c.in-None.ensures.legal)

pub returns-in-None-clause-posts : goal.returns-in-None-clause-posts
returns-in-None-clause-posts c = posts_are_taken_once c.args.config.now c.args.entries.now
    (rw c.in_ok-state.ensures.system at c.in-None.ensures.legal)
