-- The merge of logs: each time, the first log whose next entry has its object's next place gives that entry.
use Rattle.std.specs.Prelude.{◌≡◌, ℕ, zero, suc, ◌+◌, ◌==◌, List, [], ◌∷◌, length, Option, Some, None, if◌then◌else◌}
use Rattle.mv_machine.specs.declared.entry.Entry.{Entry}
use Rattle.mv_machine.specs.declared.entry.Object.{Object}
use Rattle.mv_machine.specs.Legal.{Legal, same_object}
use Rattle.mv_machine.specs.Parts.{parts, KeepsBudgets}
use Rattle.mv_config.specs.Setup.{Setup}

-- the next place of each object
abbrev pub Places : Type 0
Places = Object → ℕ

-- the places before the first entry: all 0
abbrev pub start : Places
start o = 0

-- the places after one more entry on this object
abbrev pub risen : Places → Object → Places
risen p o = λ q. if same_object q o then p q + 1 else p q

-- a pick: an entry, and what is left of all logs after it
abbrev pub Pick : Type 0
Pick = Option (Entry × List (List Entry))

-- a pick from the logs that follow this one, which keeps its entries
abbrev pub behind : List Entry → Pick → Pick
behind log None = None
behind log (Some r) = Some (r.0, log ∷ r.1)

-- the pick from these logs: the first log whose next entry has its object's next place gives that entry
abbrev pub pick : Places → List (List Entry) → Pick
pick p [] = None
pick p ([] ∷ logs) = behind [] (pick p logs)
pick p ((e ∷ es) ∷ logs) = if e.place == p e.object then Some (e, es ∷ logs) else behind (e ∷ es) (pick p logs)

-- a picked entry, then the entries that follow it
abbrev pub followed : (Entry → List (List Entry) → List Entry) → Pick → List Entry
followed rest None = []
followed rest (Some r) = r.0 ∷ rest r.0 r.1

-- the entries of at most n picks, one after the other
abbrev pub merge_from : ℕ → Places → List (List Entry) → List Entry
merge_from zero p logs = []
merge_from (suc n) p logs = followed (λ e rest. merge_from n (risen p e.object) rest) (pick p logs)

-- the number of entries in these logs
abbrev pub entry_count : List (List Entry) → ℕ
entry_count [] = 0
entry_count (log ∷ logs) = length log + entry_count logs

-- the merge of these logs: one pick for each of their entries
abbrev pub merged : List (List Entry) → List Entry
merged logs = merge_from (entry_count logs) start logs

-- the logs are the parts of the callers in one legal history that keeps the budgets
pub record AreOneHistory (c : Setup) (logs : List (List Entry)) : Type 0 where
  pub history : List Entry
  pub legal : Legal c history
  pub budgets : KeepsBudgets c history
  pub parts : parts c.callers history ≡ logs
