-- What has been passed is shared, and the front goes on in what is left.
use Rattle.std.proofs.Common.{◌≡◌, ◌++◌, take, drop}
use Rattle.mv_latch.specs.Latch.{shared_front}
use Rattle.mv_latch.proofs.queue.shared_len.Given as goal

abbrev pub invariant-loop-i : goal.invariant-loop-i
invariant-loop-i l = take l.i l.list ++ shared_front (drop l.i l.list) ≡ shared_front l.list
