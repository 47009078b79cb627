use Rattle.std.proofs.Common.{◌≡◌, length, take}
use Rattle.mv_wait.proofs.waiting.put_first.Given as goal

abbrev pub invariant-loop-p : goal.invariant-loop-p
invariant-loop-p l = record {
  size : length l.places ≡ length l.fn.places;
  first : take l.p l.places ≡ take l.p l.ecbs;
}
