use Rattle.mv_script.proofs.Tries.{post_tried, release_tried}
use Rattle.mv_script.proofs.laws.tries_are_done_or_moved.Goals as goal

pub returns-clause-posts : goal.returns-clause-posts
returns-clause-posts c = post_tried

pub returns-clause-releases : goal.returns-clause-releases
returns-clause-releases c = release_tried
