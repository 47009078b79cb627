-- What the volumes hold, volume by volume.
use Rattle.std.proofs.Common.{◌≡◌, ℕ, ◌<◌, List, length, get_or, map}
use Rattle.std.proofs.lemmas.List.FromFn.{fill_by_all}
use Rattle.mv_deck.specs.Deck.{JobData}
use Rattle.mv_report.specs.Outcome.{total, totals, held_of}

pub hold_totals : (deck : List JobData) (volumes : List ℕ) → length volumes ≡ 8
    → ((v : ℕ) → v < 8 → get_or volumes v 0 ≡ held_of (total deck v)) → volumes ≡ map held_of (totals deck)
hold_totals deck volumes eight each = fill_by_all (λ v. held_of (total deck v)) volumes 8 0 eight each
