-- What a judge has found of a list of entries, and what it finds of the next entry.
use Rattle.std.specs.Prelude.{◌≡◌, ℕ, List, [], ◌∷◌, ◌++◌}
use Rattle.mv_machine.specs.declared.entry.Entry.{Entry}
use Rattle.mv_machine.specs.Legal.{Legal, after}
use Rattle.mv_config.specs.Setup.{Setup}
use Rattle.mv_machine.specs.State.{system_of, wakes_of, IsOpenedWith}
use Rattle.mv_machine.specs.Told.{last_wakes}
use Rattle.mv_calls.specs.declared.judge.Judge.{Judge}
use Rattle.mv_calls.specs.Counters.{HasCounted}
use Rattle.mv_calls.specs.Numbers.{calls}

-- the entries are legal, and the judge is in its state after them
pub record HasJudged (c : Setup) (es : List Entry) (j : Judge) : Type 0 where
  pub legal : Legal c es
  pub state : system_of j.state ≡ after c es
  pub wakes : wakes_of j.state ≡ last_wakes c es
  pub opened : IsOpenedWith c j.state
  pub counters : HasCounted c es j.counters

-- one more entry is legal after these, and has this call number
pub record IsJudgedNext (c : Setup) (es : List Entry) (e : Entry) (n : ℕ) (j : Judge) : Type 0 where
  pub judged : HasJudged c (es ++ e ∷ []) j
  pub number : calls c (es ++ e ∷ []) ≡ calls c es ++ n ∷ []

-- one more entry is not legal after these
abbrev pub IsUnfitNext : Setup → List Entry → Entry → Type 0
IsUnfitNext c es e = Legal c (es ++ e ∷ []) → ⊥
