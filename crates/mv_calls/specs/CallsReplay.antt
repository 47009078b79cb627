-- Why a list of entries with call numbers is refused.
use Rattle.std.specs.Prelude.{◌≡◌, ◌≢◌, ℕ, ◌+◌, List, take, slice_get, Some}
use Rattle.mv_machine.specs.declared.entry.Entry.{Entry}
use Rattle.mv_machine.specs.declared.replaying.Illegal.{Illegal}
use Rattle.mv_machine.specs.declared.replaying.ReplayRefusal.{ReplayRefusal}
use Rattle.mv_machine.specs.declared.replaying.ReplayRefusal.TheVariants as replay
use Rattle.mv_machine.specs.Legal.{Legal}
use Rattle.mv_machine.specs.Replay.{IsFirstIllegal}
use Rattle.mv_config.specs.Setup.{Setup}
use Rattle.mv_machine.specs.System.{opening}
use Rattle.mv_calls.specs.declared.calls_replaying.CallsRefusal.{CallsRefusal}
use Rattle.mv_calls.specs.declared.calls_replaying.CallsRefusal.TheVariants as refusal
use Rattle.mv_calls.specs.declared.judge.Judge.{Judge}
use Rattle.mv_calls.specs.Judge.{HasJudged}
use Rattle.mv_calls.specs.Numbers.{calls}

-- two lists agree before `index`, and there have two different numbers: x in the first list, y in the second
pub record IsFirstOther (xs ys : List ℕ) (index x y : ℕ) : Type 0 where
  pub same : take index xs ≡ take index ys
  pub one : slice_get xs index ≡ Some x
  pub other : slice_get ys index ≡ Some y
  pub differs : x ≢ y

-- the entries up to this one are legal, and each has its call number but this one, which has another
pub record IsFirstNumber (c : Setup) (es : List Entry) (kept : List ℕ) (index k machine : ℕ) : Type 0 where
  pub legal : Legal c (take (index + 1) es)
  pub other : IsFirstOther kept (calls c (take (index + 1) es)) index k machine

-- the entries before this one are legal and have their call numbers, and this one is not the machine's
pub record IsFirstBad (c : Setup) (es : List Entry) (kept : List ℕ) (i : Illegal) : Type 0 where
  pub illegal : IsFirstIllegal c (opening c) es i
  pub numbers : take i.index kept ≡ calls c (take i.index es)

-- why a list with call numbers is refused
abbrev pub IsCallsRefused : Setup → List Entry → List ℕ → CallsRefusal → Type 0
IsCallsRefused c es kept (refusal.Illegal i) = IsFirstBad c es kept i
IsCallsRefused c es kept (refusal.Number index k machine) = IsFirstNumber c es kept index k machine
IsCallsRefused c es kept refusal.NoMemory = Unit {0}

-- the refusal of a list that `replay` refused
abbrev pub of_replay : ReplayRefusal → CallsRefusal
of_replay (replay.Illegal i) = refusal.Illegal i
of_replay replay.NoMemory = refusal.NoMemory

-- the refusal of a list that is known not to be legal, whatever call numbers it has
abbrev pub IsIllegalRefused : Setup → List Entry → CallsRefusal → Type 0
IsIllegalRefused c es (refusal.Illegal i) = IsFirstIllegal c (opening c) es i
IsIllegalRefused c es (refusal.Number index k machine) = ⊥
IsIllegalRefused c es refusal.NoMemory = Unit {0}

-- all entries were judged, and have their call numbers
pub record IsReplayed (c : Setup) (es : List Entry) (kept : List ℕ) (j : Judge) : Type 0 where
  pub judged : HasJudged c es j
  pub numbers : kept ≡ calls c es
