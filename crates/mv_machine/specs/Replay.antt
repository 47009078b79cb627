-- The results of `replay` for a list of entries.
use Rattle.std.specs.Prelude.{◌≡◌, ◌≢◌, List, ◌∷◌, ◌++◌, length, Some}
use Rattle.mv_machine.specs.declared.entry.Entry.{Entry}
use Rattle.mv_machine.specs.declared.replaying.Illegal.{Illegal}
use Rattle.mv_machine.specs.declared.replaying.ReplayRefusal.{ReplayRefusal}
use Rattle.mv_machine.specs.declared.replaying.ReplayRefusal.TheVariants as refusal
use Rattle.mv_machine.specs.Legal.{LegalFrom, after_from}
use Rattle.mv_config.specs.Setup.{Setup}
use Rattle.mv_machine.specs.System.{System, answer, opening}

-- the entries before this one are legal, and at this one the machine's answer is not the place and the reply that were kept
pub record IsFirstIllegal (c : Setup) (s : System) (es : List Entry) (i : Illegal) : Type 0 where
  pub before : List Entry
  pub entry : Entry
  pub later : List Entry
  pub split : es ≡ before ++ entry ∷ later
  pub index : i.index ≡ length before
  pub legal : LegalFrom c s before
  pub kept : i.kept ≡ (entry.place, entry.reply)
  pub machine : i.machine ≡ answer c (after_from s before) entry.caller entry.object entry.op
  pub differs : i.machine ≢ Some i.kept

-- the refusal of a list: its first illegal entry, or no memory
abbrev pub IsRefused : Setup → List Entry → ReplayRefusal → Type 0
IsRefused c es (refusal.Illegal i) = IsFirstIllegal c (opening c) es i
IsRefused c es refusal.NoMemory = Unit {0}
