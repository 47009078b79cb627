use Rattle.std.proofs.Common.{◌≡◌, ◌++◌, length, map}
use Rattle.std.specs.Vec.Iter.{into_iter_items, into_iter_len}
use Rattle.mv_board.specs.Faces.{part_of}
use Rattle.mv_wait.proofs.station.Station.close.Given as goal

abbrev pub invariant-loop-task : goal.invariant-loop-task
invariant-loop-task l = record {
  yielded : l.yielded ++ into_iter_items l.task-iterator ≡ l.fn.tasks.items;
  count : into_iter_len l.task-iterator ≡ length (into_iter_items l.task-iterator);
  board : l.closing.board ≡ l.fn.self;
  back : l.closing.back ≡ map part_of l.yielded;
}
