use Rattle.std.proofs.Common.{◌≡◌, ◌≤◌, ◌++◌, length, vec_len, vec_capacity}
use Rattle.std.specs.Vec.Iter.{into_iter_items, into_iter_len}
use Rattle.mv_wait.proofs.station.tasks_of.Given as goal

abbrev pub invariant-loop-caller : goal.invariant-loop-caller
invariant-loop-caller l = record {
  yielded : l.yielded ++ into_iter_items l.caller-iterator ≡ l.fn.callers.items;
  count : into_iter_len l.caller-iterator ≡ length (into_iter_items l.caller-iterator);
  tasks : l.tasks.items ≡ l.yielded;
  wakers : vec_len l.wakers ≡ length l.yielded;
  room : (length l.fn.callers.items ≤ vec_capacity l.tasks) × (length l.fn.callers.items ≤ vec_capacity l.wakers);
}
