use Rattle.std.proofs.Common.{◌≡◌, ◌+◌, length, take}
use Rattle.mv_polledspool.specs.Polled.{unfinished}
use Rattle.mv_polledspool.proofs.spool.place_of.Given as goal

abbrev pub invariant-loop-place : goal.invariant-loop-place
invariant-loop-place l = length (unfinished (take l.place l.polled)) + l.left ≡ l.number
