use Rattle.std.proofs.Common.{◌≡◌, length, map, fold, drop}
use Rattle.mv_deck.specs.Deck.{deck_data}
use Rattle.mv_work.specs.Recording.{all_records, lines_recorded, with_record}
use Rattle.mv_work.proofs.reporting.lines_recorded.Given as goal

-- the lines so far, and those of the records that are left
abbrev pub invariant-loop-brought : goal.invariant-loop-brought
invariant-loop-brought l = record {
  long : length l.lines.items ≡ length l.deck.jobs.items;
  lines : fold (with_record (deck_data l.deck)) l.lines.items (all_records (map (λ r. r.jobs) (drop l.brought-index l.records)))
      ≡ lines_recorded (deck_data l.deck) (all_records (map (λ r. r.jobs) l.records));
}
