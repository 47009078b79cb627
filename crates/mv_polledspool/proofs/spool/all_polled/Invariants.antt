use Rattle.std.proofs.Common.{◌≡◌, ◌≤◌, ◌++◌, length, map, vec_capacity}
use Rattle.std.specs.List.{AllByRecursion}
use Rattle.std.specs.Vec.Iter.{into_iter_items, into_iter_len}
use Rattle.mv_polledspool.specs.declared.polled.Polled.{Polled}
use Rattle.mv_deck.specs.Deck.{deck_data}
use Rattle.mv_polledspool.specs.Polled.{IsUnpolled}
use Rattle.mv_polledspool.proofs.spool.all_polled.Given as goal

abbrev pub invariant-loop-task : goal.invariant-loop-task
invariant-loop-task l = record {
  yielded : l.yielded ++ into_iter_items l.task-iterator ≡ into_iter_items l.initial.task-iterator;
  count : into_iter_len l.task-iterator ≡ length (into_iter_items l.task-iterator);
  new : AllByRecursion (IsUnpolled (deck_data l.deck) l.initiators) l.polled.items;
  tasks : map (λ (p : Polled). p.task) l.polled.items ≡ l.yielded;
  room : length l.fn.tasks.items ≤ vec_capacity l.polled;
}
