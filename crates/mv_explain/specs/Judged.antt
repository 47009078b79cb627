-- What the events of a journal are found to be: what `replay_calls` says of them, and in version 1 `replay`.
use Rattle.std.specs.Prelude.{◌≡◌, ℕ, List, take}
use Rattle.mv_machine.specs.declared.entry.Entry.{Entry}
use Rattle.mv_machine.specs.Legal.{Legal}
use Rattle.mv_machine.specs.Replay.{IsFirstIllegal}
use Rattle.mv_config.specs.Setup.{Setup}
use Rattle.mv_machine.specs.System.{opening}
use Rattle.mv_calls.specs.CallsReplay.{IsFirstNumber}
use Rattle.mv_calls.specs.Numbers.{calls}
use Rattle.mv_explain.specs.declared.judging.Verdict.{Verdict}
use Rattle.mv_explain.specs.declared.judging.Verdict.TheVariants as verdict

-- what the events of a journal of this version are found to be, with these call numbers: legal; or the first that the machine does not
-- make so, and what it answers there; or the first that has another number, and its number
abbrev pub IsVerdict : (version : ℕ) → Setup → List Entry → List ℕ → Verdict → Type 0
IsVerdict version c es ns verdict.Legal = Legal c es × (version ≡ 2 → ns ≡ calls c es)
IsVerdict version c es ns (verdict.Illegal i) =
    IsFirstIllegal c (opening c) es i × (version ≡ 2 → take i.index ns ≡ calls c (take i.index es))
IsVerdict version c es ns (verdict.Misnumbered index kept machine) = (version ≡ 2) × IsFirstNumber c es ns index kept machine
