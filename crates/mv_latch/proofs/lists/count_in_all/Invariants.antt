-- What has been counted, and what is left to count.
use Rattle.std.proofs.Common.{◌≡◌, ◌+◌, drop}
use Rattle.mv_latch.specs.LatchSet.{count_in}
use Rattle.mv_latch.specs.Queues.{items_of}
use Rattle.mv_latch.specs.Selection.{selects}
use Rattle.mv_latch.proofs.lists.count_in_all.Given as goal

abbrev pub invariant-loop-list : goal.invariant-loop-list
invariant-loop-list l =
    l.total + count_in (selects l.selection) (items_of (drop l.list-index l.lists)) ≡ count_in (selects l.selection) (items_of l.lists)
