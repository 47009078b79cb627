-- A latch set in memory, and what contracts see of it.
use Rattle.std.specs.Prelude.{◌*◌}
use Rattle.mv_latch.specs.declared.latch_set.LatchSet.TheInside.{Inside}
use Rattle.mv_latch.specs.LatchSet.{LatchLists, IsSound}
use Rattle.mv_latch.specs.Queues.{items_of, HaveRoom}

-- what contracts see of a latch set: the requests, the number of callers and the quotas
abbrev pub view_of : Inside → LatchLists
view_of s = record { lists = items_of s.lists.items; callers = s.callers; quota = s.quota; posted = s.posted }

-- the invariant of a latch set: the quotas are kept, and each list has room for all requests that they allow
pub record IsLatchSet (s : Inside) : Type 0 where
  pub sound : IsSound (view_of s)
  pub room : HaveRoom (s.callers * s.quota) s.lists.items
