use Rattle.std.proofs.Common.{◌≡◌, ◌≤◌, ◌<◌, ◌+◌, ◌*◌, ℕ, length, take}
use Rattle.mv_handover.specs.Ready.{CanHandOver}
use Rattle.mv_handover.specs.Setup.{slots}
use Rattle.mv_handover.specs.Slots.{posts, part}
use Rattle.mv_handover.proofs.handover.produce.Given as goal

abbrev pub invariant-loop-i : goal.invariant-loop-i
invariant-loop-i g l = record {
  ready : CanHandOver l.station 0 l.task;
  left : 4 * length l.items ≤ l.task.left + 4 * l.i;
  posts : (s : ℕ) → s < slots → posts s l.task.log ≡ part s (take l.i l.items);
}
