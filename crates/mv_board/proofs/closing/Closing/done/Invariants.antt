-- The numbers so far are those that the merge of the logs leads the volumes to.
use Rattle.std.proofs.Common.{◌≡◌, ℕ, ◌<◌, length, get_or}
use Rattle.mv_machine.specs.Legal.{after}
use Rattle.mv_machine.specs.Merge.{merged}
use Rattle.mv_board.proofs.closing.Closing.done.Given as goal

abbrev pub invariant-loop-volume : goal.invariant-loop-volume
invariant-loop-volume l = record {
  wide : length l.volumes ≡ 8;
  held : (n : ℕ) → n < l.volume → n < l.config.volumes
      → get_or l.volumes n 0 ≡ ((after l.config (merged l.logs.items)).volume n).state;
}
