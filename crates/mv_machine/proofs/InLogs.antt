-- What is still to come of a history stands in its logs.
use Rattle.std.proofs.Common.{ℕ, zero, suc, ◌==◌, Bool, true, false, if◌then◌else◌, List, [], ◌∷◌, drop, None, Some}
use Rattle.std.proofs.lemmas.List.Elements.{All-contains_itself, All-from_recursion, All-weaker, recursion_from_All}
use Rattle.std.specs.List.{All, AllByRecursion, Contains}
use Rattle.mv_machine.specs.declared.entry.Entry.{Entry}
use Rattle.mv_machine.specs.declared.merging.History.TheInside.{Inside}
use Rattle.mv_machine.specs.History.{StandsIn}
use Rattle.mv_machine.specs.Merge.{Places, Pick, risen, behind, pick, followed, merge_from, entry_count}
use Rattle.mv_machine.specs.Room.{lefts, coming_of}
use Rattle.mv_machine.specs.State.{system_of}
use Rattle.mv_machine.specs.System.{place_of}

-- what holds of each entry of some logs
abbrev Each : (Entry → Type 0) → List (List Entry) → Type 0
Each P logs = AllByRecursion (λ log. AllByRecursion P log) logs

-- holds of the one that is picked, and of each that is left
abbrev IsOf : (Entry → Type 0) → Pick → Type 0
IsOf P None = Unit {0}
IsOf P (Some r) = P r.0 × Each P r.1

behind_each : (P : Entry → Type 0) (log : List Entry) (r : Pick) → AllByRecursion P log → IsOf P r → IsOf P (behind log r)
behind_each P log None a is = tt
behind_each P log (Some r) a is = (is.0, (a, is.1))

pick_each : (P : Entry → Type 0) (p : Places) (logs : List (List Entry)) → Each P logs → IsOf P (pick p logs)
pick_each P p [] a = tt
pick_each P p ([] ∷ logs) a = behind_each P [] (pick p logs) tt (pick_each P p logs a.1)
pick_each P p ((e ∷ es) ∷ logs) a = go (e.place == p e.object) (pick_each P p logs a.1) where
  go : (b : Bool) → IsOf P (pick p logs) → IsOf P (if b then Some (e, es ∷ logs) else behind (e ∷ es) (pick p logs))
  go true is = (a.0.0, (a.0.1, a.1))
  go false is = behind_each P (e ∷ es) (pick p logs) a.0 is

-- so it does of each of their merge
merge_each : (P : Entry → Type 0) (n : ℕ) (p : Places) (logs : List (List Entry)) → Each P logs → AllByRecursion P (merge_from n p logs)
merge_each P zero p logs a = tt
merge_each P (suc n) p logs a = go (pick p logs) (pick_each P p logs a) (λ q rest b. merge_each P n q rest b) where
  go : (r : Pick) → IsOf P r → ((q : Places) (rest : List (List Entry)) → Each P rest → AllByRecursion P (merge_from n q rest))
      → AllByRecursion P (followed (λ e rest. merge_from n (risen p e.object) rest) r)
  go None is later = tt
  go (Some r) is later = (is.0, later (risen p r.0.object) r.1 is.1)

-- and of what is left of each log
drop_each : (P : Entry → Type 0) (n : ℕ) (log : List Entry) → AllByRecursion P log → AllByRecursion P (drop n log)
drop_each P zero log a = a
drop_each P (suc n) [] a = tt
drop_each P (suc n) (e ∷ es) a = drop_each P n es a.1

lefts_each : (P : Entry → Type 0) (ms : List ℕ) (logs : List (List Entry)) → Each P logs → Each P (lefts ms logs)
lefts_each P [] logs a = tt
lefts_each P (m ∷ ms) [] a = tt
lefts_each P (m ∷ ms) (log ∷ logs) a = (drop_each P m log a.0, lefts_each P ms logs a.1)

-- each entry of some logs stands in one of them
each_stands : (logs : List (List Entry)) → Each (StandsIn logs) logs
each_stands logs = recursion_from_All (λ log. AllByRecursion (StandsIn logs) log) logs
    (All-weaker (Contains logs) (λ log. AllByRecursion (StandsIn logs) log)
    (λ log i. recursion_from_All (StandsIn logs) log
    (All-weaker (Contains log) (StandsIn logs) (λ e j. (log, i, j)) log (All-contains_itself log))) logs (All-contains_itself logs))

-- so does each that is still to come
pub coming_stands : (x : Inside) → All (StandsIn x.logs.items) (coming_of x)
coming_stands x =
    let left : List (List Entry) = lefts x.merged.items x.logs.items in
    All-from_recursion (StandsIn x.logs.items) (coming_of x)
    (merge_each (StandsIn x.logs.items) (entry_count left) (place_of (system_of x.state)) left
    (lefts_each (StandsIn x.logs.items) x.merged.items x.logs.items (each_stands x.logs.items)))
