-- The numbers of the volumes so far.
use Rattle.std.proofs.Common.{◌≡◌, map, get_or}
use Rattle.std.specs.List.{range_with_len}
use Rattle.mv_work.proofs.closing.volumes_of.Given as goal

abbrev pub invariant-loop-volume : goal.invariant-loop-volume
invariant-loop-volume l = l.volumes.items ≡ map (λ v. get_or l.held v 0) (range_with_len 0 l.volume)
