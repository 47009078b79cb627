-- The memory of a history, and the entries of it that were given.
use Rattle.std.specs.Prelude.{◌≡◌, ℕ, ◌-◌, ◌<◌, ◌≤◌, List, [], ◌∷◌, ◌++◌, length, take, drop, replicate, sum, slice_set, Some}
use Rattle.mv_machine.specs.declared.entry.Entry.{Entry}
use Rattle.mv_machine.specs.declared.merging.History.TheInside.{Inside}
use Rattle.mv_machine.specs.declared.merging.MergeRoom.{MergeRoom}
use Rattle.mv_machine.specs.declared.merging.Picked.{Picked}
use Rattle.mv_machine.specs.History.{HistoryFace}
use Rattle.mv_machine.specs.Legal.{after}
use Rattle.mv_config.specs.Limits.{events_limit}
use Rattle.mv_machine.specs.Merge.{Places, pick, merged, merge_from, entry_count, AreOneHistory}
use Rattle.mv_config.specs.Setup.{Setup}
use Rattle.mv_machine.specs.State.{IsOpenedWith, system_of, wakes_of}
use Rattle.mv_machine.specs.System.{opening, place_of}
use Rattle.mv_machine.specs.Told.{last_wakes}

-- no entry is given yet, and the budgets of a run are within the limit
pub record IsRoomFor (c : Setup) (r : MergeRoom) : Type 0 where
  pub few : sum c.budgets ≤ events_limit
  pub opened : IsOpenedWith c r.state
  pub opening : system_of r.state ≡ opening c
  pub unshown : wakes_of r.state ≡ []
  pub logs : r.merged.items ≡ replicate c.callers 0

-- what is left of the logs after this many entries of each
abbrev pub lefts : List ℕ → List (List Entry) → List (List Entry)
lefts [] logs = []
lefts (n ∷ ns) [] = []
lefts (n ∷ ns) (log ∷ logs) = drop n log ∷ lefts ns logs

-- the entry is the merge's next pick, and `p.merged` entries of its caller are merged after it
pub record IsPicked (places : Places) (merged : List ℕ) (logs : List (List Entry)) (p : Picked) : Type 0 where
  pub caller : p.caller < length merged
  pub picks : pick places (lefts merged logs) ≡ Some (p.entry, lefts (slice_set merged p.caller p.merged) logs)

-- the entries that are still to come: the merge of what is left of all logs
abbrev pub coming_of : Inside → List Entry
coming_of h =
    let left = lefts h.merged.items h.logs.items in
    merge_from (entry_count left) (place_of (system_of h.state)) left

-- the entries that were given: those before what is still to come in the merge of the logs
abbrev pub past_of : Inside → List Entry
past_of h = take (length (merged h.logs.items) - length (coming_of h)) (merged h.logs.items)

-- a history: the entries that were given, and those that are still to come
abbrev pub history_of : Inside → HistoryFace
history_of h = record { config = h.config; past = past_of h; coming = coming_of h }

-- The logs are one history, which is no longer than a run may be. What was given and what is still to come are the merge of the
-- logs, and the machine is in the state after what was given.
pub record IsHistory (h : Inside) : Type 0 where
  pub one : AreOneHistory h.config h.logs.items
  pub few : length (merged h.logs.items) ≤ events_limit
  pub logs : length h.merged.items ≡ length h.logs.items
  pub whole : past_of h ++ coming_of h ≡ merged h.logs.items
  pub opened : IsOpenedWith h.config h.state
  pub after : system_of h.state ≡ after h.config (past_of h)
  pub wakes : wakes_of h.state ≡ last_wakes h.config (past_of h)
