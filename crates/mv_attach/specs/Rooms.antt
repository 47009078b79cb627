-- A room that is a list, which a task fills.
use Rattle.std.specs.Prelude.{◌≡◌, ℕ, ◌≤◌, [], vec_capacity, Vec}
use Rattle.std.proofs.Common.{Global}

-- the room is empty, and has a capacity of `count` or more
abbrev pub HasRoom : {A : Type 0} → ℕ → Vec A Global → Type 0
HasRoom count room = (room.items ≡ []) × (count ≤ vec_capacity room)
