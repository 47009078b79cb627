use Rattle.std.proofs.Common.{◌≡◌, [], ◌+◌, ◌*◌, ◌≤◌, length, vec_capacity}
use Rattle.std.specs.List.{AllByRecursion}
use Rattle.mv_ordered.specs.Held.{held}
use Rattle.mv_cache.specs.Whole.{IsReading, WasRead}
use Rattle.mv_cache.proofs.cache.read_all.Given as goal

abbrev pub invariant-loop-made : goal.invariant-loop-made
invariant-loop-made g l = record {
  ready : IsReading l.station l.task;
  bare : held l.task.log ≡ [];
  number : l.task.number ≡ l.fn.task.number;
  left : 5 * l.reads ≤ l.task.left + 5 * l.made;
  count : length l.room.items ≤ l.made;
  room : l.reads ≤ vec_capacity l.room;
  read : AllByRecursion (WasRead l.task.number l.task.log) l.room.items;
}
