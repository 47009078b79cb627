use Rattle.std.proofs.Common.{length}
use Rattle.mv_pollscript.proofs.finding.+first_call.Given as goal

abbrev pub decreases-first_call : goal.decreases-first_call
decreases-first_call l = length l.lists.now
