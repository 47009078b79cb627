-- The blocks of the wakes from a place on lie on top, and those of the others have room.
use Rattle.std.proofs.Common.{◌≡◌, ◌+◌, ◌++◌, ◌≤◌, reverse, length, drop, take, vec_len, vec_capacity}
use Rattle.mv_machine.specs.Waking.{blocks_of}
use Rattle.mv_calls.proofs.counting.push_wakes.Given as goal

abbrev pub invariant-loop-at : goal.invariant-loop-at
invariant-loop-at l = record {
  within : l.at ≤ length l.wakes;
  pushed : reverse l.stack.items ≡ blocks_of (drop l.at l.wakes) ++ reverse l.initial.stack.items;
  room : vec_len l.stack + length (blocks_of (take l.at l.wakes)) ≤ vec_capacity l.stack;
  capacity : vec_capacity l.stack ≡ vec_capacity l.initial.stack;
}

abbrev pub decreases-loop-at : goal.decreases-loop-at
decreases-loop-at l = l.at
