-- What has been counted of a list of entries, and how the next entry is counted.
use Rattle.std.specs.Prelude.{◌≡◌, ℕ, ◌+◌, ◌*◌, ◌≤◌, List, [], ◌∷◌, ◌++◌, length, map, reverse, slice_index_or, All, vec_capacity}
use Rattle.mv_latch.specs.declared.operation.Wake.{Wake}
use Rattle.mv_machine.specs.declared.entry.Entry.{Entry}
use Rattle.mv_config.specs.Check.{IsValid}
use Rattle.mv_machine.specs.Legal.{Legal}
use Rattle.mv_config.specs.Setup.{Setup}
use Rattle.mv_machine.specs.Told.{last_wakes}
use Rattle.mv_calls.specs.declared.counters.CallCounters.{CallCounters}
use Rattle.mv_calls.specs.declared.counting.Counter.{Counter}
use Rattle.mv_calls.specs.Numbers.{Numbering, unnumbered, numbering_after, calls}

-- the numbering that a counter keeps: its stack has the first pending block on top
abbrev pub numbering_of : Counter → Numbering
numbering_of x = record { group = x.group; pending = reverse x.pending.items; last = x.last }

-- the numbering of caller k
abbrev pub numbering_at : List Counter → ℕ → Numbering
numbering_at xs k = slice_index_or (map numbering_of xs) k unnumbered

-- The most blocks that may be pending of a caller: those of the wakes of one event, and the targets of exits that were started
-- within one another. The sources of such exits rise, so each exit is among them at most once: up to eight targets are left of
-- the innermost exit, and up to seven of each other exit.
abbrev pub pending_room : Setup → ℕ
pending_room c = 1 + c.callers * c.posted_quota + 7 * length c.exits

-- a counter has room for all blocks that may be pending
abbrev pub HasRoom : Setup → Counter → Type 0
HasRoom c x = pending_room c ≤ vec_capacity x.pending

-- the counters are those after these entries: each caller's numbering is kept, with room for what may be pending
pub record HasCounted (c : Setup) (es : List Entry) (x : CallCounters) : Type 0 where
  pub valid : IsValid c
  pub kept : numbering_at x.counters.items ≡ numbering_after c es
  pub callers : length x.counters.items ≡ c.callers
  pub room : All (HasRoom c) x.counters.items

-- an entry may be counted next, with these wakes: it is legal after the others, and the machine shows these wakes after it
pub record IsCountable (c : Setup) (es : List Entry) (e : Entry) (ws : List Wake) (x : CallCounters) : Type 0 where
  pub counted : HasCounted c es x
  pub legal : Legal c (es ++ e ∷ [])
  pub wakes : ws ≡ last_wakes c (es ++ e ∷ [])

-- the entry was counted, and has this call number
pub record IsCountedNext (c : Setup) (es : List Entry) (e : Entry) (n : ℕ) (x : CallCounters) : Type 0 where
  pub counted : HasCounted c (es ++ e ∷ []) x
  pub number : calls c (es ++ e ∷ []) ≡ calls c es ++ n ∷ []
