-- How contracts see the one history of some callers, which is kept as the callers' logs and gives its entries one by one.
use Rattle.std.specs.Prelude.{◌≡◌, List, [], ◌∷◌, ◌++◌, Contains}
use Rattle.mv_machine.specs.declared.entry.Entry.{Entry}
use Rattle.mv_config.specs.Setup.{Setup}

-- a history's configuration, the entries that were given, and those that are still to come
pub record HistoryFace : Type 0 where
  pub config : Setup
  pub past : List Entry
  pub coming : List Entry

-- an entry is in one of these logs
abbrev pub StandsIn : List (List Entry) → Entry → Type 0
StandsIn logs e = (log : List Entry) × Contains logs log × Contains log e

-- the next entry was given, and nothing else changed
pub record IsGiven (old : HistoryFace) (e : Entry) (new : HistoryFace) : Type 0 where
  pub config : new.config ≡ old.config
  pub past : new.past ≡ old.past ++ e ∷ []
  pub coming : old.coming ≡ e ∷ new.coming
