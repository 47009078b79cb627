-- The law is posts_are_taken_once of OnePost.
use Rattle.mv_machine.proofs.OnePost.{posts_are_taken_once}
use Rattle.mv_machine.proofs.laws.posts_complete_once.Goals as goal

pub returns : goal.returns
returns c = record { posts = posts_are_taken_once }
