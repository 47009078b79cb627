use Rattle.std.proofs.Common.{◌≡◌, ◌≤◌, reverse, vec_capacity, vec_len}
use Rattle.mv_wait.specs.Task.{IsRecorded, blocks_in}
use Rattle.mv_wait.proofs.Posts.{Underway}
use Rattle.mv_wait.proofs.station.Station.post.Given as goal

abbrev pub invariant-loop-next : goal.invariant-loop-next
invariant-loop-next g l = record {
  underway : Underway l.self.config l.code l.ecb l.fn.task l.answer l.task-inside.caller (reverse l.task-inside.pending.items);
  told : l.task-inside.caller.told ≡ l.fn.task.told;
  recorded : IsRecorded l.task-inside.caller l.task-inside.keep;
  room : l.task-inside.caller.left ≤ vec_capacity l.task-inside.pending;
  places : vec_len l.task-inside.places ≡ blocks_in l.task-inside.caller.about;
}

abbrev pub decreases-loop-next : goal.decreases-loop-next
decreases-loop-next g l = l.task-inside.caller.left
