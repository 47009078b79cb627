use Rattle.std.proofs.Common.{◌≡◌, ◌+◌, length}
use Rattle.mv_polledspool.specs.Polled.{ArePolled}
use Rattle.mv_polledspool.proofs.spool.poll_all.Given as goal

abbrev pub invariant-loop : goal.invariant-loop
invariant-loop g l = record {
  count : length l.tasks.items ≡ l.spool.initiators + 3;
  polled : ArePolled l.spool l.tasks.items;
}
