use Rattle.std.proofs.Common.{◌≡◌, ◌+◌, ◌≤◌, ◌<◌, ℕ, get_or, length, vec_capacity}
use Rattle.mv_deck.specs.Deck.{deck_data}
use Rattle.mv_work.specs.Works.{IsNew}
use Rattle.mv_spool.proofs.spool.works_of.Given as goal

abbrev pub invariant-loop-number : goal.invariant-loop-number
invariant-loop-number l = record {
  count : length l.works.items ≡ l.number;
  new : (k : ℕ) (d : _) → k < length l.works.items → IsNew (deck_data l.deck) l.initiators k (get_or l.works.items k d);
  room : l.initiators + 3 ≤ vec_capacity l.works;
}
