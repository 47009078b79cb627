use Rattle.std.proofs.Common.{◌≡◌, ℕ, ◌<◌, length, get_or, map, take}
use Rattle.std.specs.List.{sum_by}
use Rattle.mv_deck.specs.Deck.{deck_data}
use Rattle.mv_report.specs.Outcome.{lines_of_steps, added_by, steps_done, held_of}
use Rattle.mv_report.proofs.outcome.outcome_of.Given as goal

-- what the jobs so far wrote and added
abbrev pub invariant-loop-i : goal.invariant-loop-i
invariant-loop-i l = record {
  lines : l.lines.items ≡ map lines_of_steps (take l.i (steps_done (deck_data l.deck)));
  eight : length l.volumes ≡ 8;
  volumes : (v : ℕ) → v < 8 → get_or l.volumes v 0 ≡ held_of (sum_by (added_by v) (take l.i (steps_done (deck_data l.deck))));
}
