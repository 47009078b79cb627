use Rattle.std.proofs.Common.{◌≡◌, ◌≤◌, ◌<◌, ◌+◌, ◌*◌, ℕ, [], length, vec_capacity}
use Rattle.mv_handover.specs.Ready.{CanHandOver}
use Rattle.mv_handover.specs.Setup.{slots}
use Rattle.mv_handover.specs.Slots.{posts, takes, part}
use Rattle.mv_handover.proofs.Through.{SeesNone}
use Rattle.mv_handover.proofs.handover.consume.Given as goal

abbrev pub invariant-loop-slot : goal.invariant-loop-slot
invariant-loop-slot g l = record {
  ready : CanHandOver l.station 1 l.task;
  left : 4 * l.count + 4 ≤ l.task.left + l.slot;
  seen : SeesNone l.task;
  takes : (s : ℕ) → s < slots → takes s l.task.log ≡ [];
  posts : (s : ℕ) → s < slots → posts s l.task.log ≡ [];
}

abbrev pub invariant-loop-i : goal.invariant-loop-i
invariant-loop-i g l = record {
  ready : CanHandOver l.station 1 l.task;
  left : 4 * l.count ≤ l.task.left + 4 * l.i;
  within : l.i ≤ l.count;
  size : length l.taken.items ≡ l.i;
  room : l.count ≤ vec_capacity l.taken;
  seen : SeesNone l.task;
  takes : (s : ℕ) → s < slots → takes s l.task.log ≡ part s l.taken.items;
  posts : (s : ℕ) → s < slots → posts s l.task.log ≡ [];
}
