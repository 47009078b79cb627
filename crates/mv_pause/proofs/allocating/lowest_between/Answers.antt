-- Each element that is asked for is the task's own.
use Rattle.std.proofs.Common.{rules}
use Rattle.std.proofs.lemmas.Iterator.{serves_from_Range}
use Rattle.mv_pause.proofs.allocating.lowest_between.Goals as goal

pub find-requires-clause-callable : goal.find-requires-clause-callable
find-requires-clause-callable c = serves_from_Range (search rules) (λ x ge lt. let own = c.requires.own x ge lt in search rules)
