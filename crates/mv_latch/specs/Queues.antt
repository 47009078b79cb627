-- The lists of requests in memory.
use Rattle.std.specs.Prelude.{ℕ, ◌≤◌, List, map, vec_capacity, Vec}
use Rattle.std.specs.List.{AllByRecursion}
use Rattle.std.proofs.Common.{Global}
use Rattle.mv_latch.specs.declared.request.Request.{Request}

-- the requests of each list
abbrev pub items_of : List (Vec Request Global) → List (List Request)
items_of queues = map (λ v. v.items) queues

-- how many requests each list takes before it needs memory
abbrev pub capacities : List (Vec Request Global) → List ℕ
capacities queues = map (λ v. vec_capacity v) queues

-- each list has a capacity of `room` requests or more
abbrev pub HaveRoom : ℕ → List (Vec Request Global) → Type 0
HaveRoom room queues = AllByRecursion (λ n. room ≤ n) (capacities queues)
