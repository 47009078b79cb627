-- The fullword of an event control block, and the state that it represents.
use Rattle.std.specs.Prelude.{ℕ, Bool, true, false, ◌+◌, ◌-◌, ◌^◌, ◌<◌, ◌≤◌, ◌≡◌, ◌⊎◌, nat_lt, ◌==◌, if◌then◌else◌}

-- the state of a block: not used yet; a task waits; a task waits and an exit is to run; the event is complete with a code
pub data EcbState : Type 0 where
  Zero : EcbState
  Waiting : EcbState
  Extended : (exit : ℕ) → EcbState
  Complete : (code : ℕ) → EcbState

-- whether the event is complete
abbrev pub is_complete : EcbState → Bool
is_complete (Complete code) = true
is_complete _ = false

-- the wait bit as a number: bit 0 of the fullword, its highest
abbrev pub wait_bit : ℕ
wait_bit = 2 ^ 31

-- the completion bit as a number: bit 1 of the fullword
abbrev pub completion_bit : ℕ
completion_bit = 2 ^ 30

-- the fullword that represents a state
abbrev pub word_of : EcbState → ℕ
word_of Zero = 0
word_of Waiting = wait_bit
word_of (Extended y) = wait_bit + y
word_of (Complete c) = completion_bit + c

-- a word is a block's fullword: it is zero, or has exactly one of the two bits
abbrev pub IsEcbWord : ℕ → Type 0
IsEcbWord w = (w ≡ 0) ⊎ ((completion_bit ≤ w) × (w < wait_bit + completion_bit))

-- the state that a block's fullword represents
abbrev pub state_of : ℕ → EcbState
state_of w =
    if w == 0 then Zero
    else if nat_lt w wait_bit then Complete (w - completion_bit)
    else if w == wait_bit then Waiting
    else Extended (w - wait_bit)
