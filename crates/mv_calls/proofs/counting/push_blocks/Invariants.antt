-- The blocks from a place on lie on top, and the others have room.
use Rattle.std.proofs.Common.{◌≡◌, ◌+◌, ◌++◌, ◌≤◌, reverse, length, drop, vec_len, vec_capacity}
use Rattle.mv_calls.proofs.counting.push_blocks.Given as goal

abbrev pub invariant-loop-at : goal.invariant-loop-at
invariant-loop-at l = record {
  within : l.at ≤ length l.blocks;
  pushed : reverse l.stack.items ≡ drop l.at l.blocks ++ reverse l.initial.stack.items;
  room : vec_len l.stack + l.at ≤ vec_capacity l.stack;
  capacity : vec_capacity l.stack ≡ vec_capacity l.initial.stack;
}

abbrev pub decreases-loop-at : goal.decreases-loop-at
decreases-loop-at l = l.at
