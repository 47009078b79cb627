use Rattle.std.proofs.Common.{◌≡◌, take}
use Rattle.std.specs.Prelude.{vec_capacity}
use Rattle.mv_polled.proofs.waiting.put_blocks.Given as goal

abbrev pub invariant-loop-ecb : goal.invariant-loop-ecb
invariant-loop-ecb l = record {
  items : l.blocks.items ≡ take l.ecb-index l.ecbs;
  room : vec_capacity l.blocks ≡ vec_capacity l.fn.blocks;
}
