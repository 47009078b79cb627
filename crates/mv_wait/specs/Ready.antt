-- Which blocks of a list are ready: the task has seen them complete, and their watches are in its list.
use Rattle.std.specs.Prelude.{◌≡◌, ℕ, ◌<◌, ◌==◌, Bool, true, false, List, length, filter, get_or, ◌⊎◌}
use Rattle.std.specs.List.{AllByRecursion, list_any}
use Rattle.mv_board.specs.declared.watch.Watch.{Watch}
use Rattle.mv_board.specs.declared.watch.Watch.TheVariants as watch

-- whether a watch is of block n
abbrev pub is_block : ℕ → Watch → Bool
is_block n (watch.Ecb m) = m == n
is_block n w = false

-- whether a list of watches has that of a block, which then is ready
abbrev pub has_ready : List Watch → ℕ → Bool
has_ready ws n = list_any (is_block n) ws

-- how many of these blocks are ready
abbrev pub ready_count : List Watch → List ℕ → ℕ
ready_count ws es = length (filter (has_ready ws) es)

-- each of these blocks is ready, or among the first n of `others`
abbrev pub AreReadyBut : List ℕ → ℕ → List Watch → List ℕ → Type 0
AreReadyBut others n ws es = AllByRecursion (λ e. (has_ready ws e ≡ true) ⊎ ((j : ℕ) × (j < n) × (get_or others j 0 ≡ e))) es
