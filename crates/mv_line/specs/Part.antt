-- The parts of a text between separator bytes.
use Rattle.std.specs.Prelude.{ℕ, ◌==◌, List, [], length, Option, Some, None}
use Rattle.std.specs.Borrow.{Bor}
use Rattle.std.specs.List.{slice_split}

-- the parts of a text between bytes of this value, empty ones too: one more than there are such bytes
unfoldable pub parts_at : ℕ → List ℕ → List (List ℕ)
parts_at byte text = slice_split (λ b. b == byte) text

-- the parts of the text that is left; none after the last part
abbrev pub parts_left : ℕ → Option (Bor (List ℕ)) → List (List ℕ)
parts_left byte None = []
parts_left byte (Some text) = parts_at byte text.now

-- a bound that falls with each part: one more than the bytes that are left, 0 after the last part
abbrev pub left_of : Option (Bor (List ℕ)) → ℕ
left_of None = 0
left_of (Some text) = Prim.Native.Nat.suc (length text.now)
