use Rattle.std.proofs.Common.{◌≡◌, take}
use Rattle.std.specs.Prelude.{vec_capacity}
use Rattle.mv_polled.specs.Wakers.{no_wakers}
use Rattle.mv_polled.proofs.waiting.put_places.Given as goal

abbrev pub invariant-loop-ecb : goal.invariant-loop-ecb
invariant-loop-ecb l = record {
  items : l.wakers.items ≡ no_wakers (take l._ecb-index l.ecbs);
  room : vec_capacity l.wakers ≡ vec_capacity l.fn.wakers;
}
