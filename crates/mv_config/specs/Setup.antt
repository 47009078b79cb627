-- The contents of a configuration, as contracts see them.
use Rattle.std.specs.Prelude.{ℕ, zero, suc, ◌==◌, ◌-◌, ◌*◌, ◌/◌, nat_lt, Bool, false, ◌&&◌, ◌||◌, List, [], Option, Some, None}
use Rattle.std.specs.Prelude.{slice_get, slice_index}
use Rattle.std.specs.List.{list_any, range_with_len}

-- an exit: the event control block that it starts from, and the blocks that it posts
pub record SetupExit : Type 0 where
  pub source : ℕ
  pub targets : List ℕ

-- how contracts see a configuration
pub record Setup : Type 0 where
  pub callers : ℕ
  pub elements_per_caller : ℕ
  pub volumes : ℕ
  pub latches : ℕ
  pub quota : ℕ
  pub posted_quota : ℕ
  pub budgets : List ℕ
  pub owners : List ℕ
  pub exits : List SetupExit

-- the caller that waits on an event control block
abbrev pub owner_of : Setup → ℕ → ℕ
owner_of c ecb = slice_index c.owners ecb

-- the number of elements
abbrev pub element_count : Setup → ℕ
element_count c = c.callers * c.elements_per_caller

-- the caller that owns an element
abbrev pub element_owner : Setup → ℕ → ℕ
element_owner c element = element / c.elements_per_caller

-- the elements that a caller owns, whose numbers follow one another
abbrev pub own_elements : Setup → ℕ → List ℕ
own_elements c k = range_with_len (k * c.elements_per_caller) c.elements_per_caller

-- whether there is an exit and it starts from this block
abbrev pub starts_from : ℕ → Option SetupExit → Bool
starts_from ecb None = false
starts_from ecb (Some x) = x.source == ecb

-- whether a block is the source or a target of an exit
abbrev pub is_on : SetupExit → ℕ → Bool
is_on x ecb = (x.source == ecb) || list_any (λ target. target == ecb) x.targets

-- whether a block is the source or a target of any exit
abbrev pub is_on_exit : Setup → ℕ → Bool
is_on_exit c ecb = list_any (λ x. is_on x ecb) c.exits

-- whether this block is the source of the exit of this number, counted from 1
abbrev pub is_exit_of : Setup → ℕ → ℕ → Bool
is_exit_of c exit ecb = nat_lt 0 exit && starts_from ecb (slice_get c.exits (exit - 1))

-- the targets of an exit, if there is one
abbrev pub targets_at : Option SetupExit → List ℕ
targets_at None = []
targets_at (Some x) = x.targets

-- the targets of the exit of this number, counted from 1. No exit has the number 0
abbrev pub targets_of : Setup → ℕ → List ℕ
targets_of c zero = []
targets_of c (suc x) = targets_at (slice_get c.exits x)
