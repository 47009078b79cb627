use Rattle.std.proofs.Common.{◌≡◌, ◌≤◌, length, take}
use Rattle.mv_polledspool.specs.Polled.{unfinished}
use Rattle.mv_polledspool.proofs.spool.count_unfinished.Given as goal

abbrev pub invariant-loop-one : goal.invariant-loop-one
invariant-loop-one l = record { few : l.count ≤ l.one-index; count : l.count ≡ length (unfinished (take l.one-index l.polled)) }
