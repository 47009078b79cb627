-- The requests that a caller has at latches, by its own log: for programs that keep the lock order.
use Rattle.std.specs.Prelude.{◌≡◌, ℕ, ◌==◌, not, ◌&&◌, List, [], ◌∷◌, ◌++◌, map, filter, Result, Ok, Err}
use Rattle.mv_machine.specs.declared.entry.Entry.{Entry}
use Rattle.mv_machine.specs.Kept.{StandingRequest, standing}
use Rattle.mv_calls.specs.LatchCalls.{Requested, GrantedAs, PendingAs}
use Rattle.mv_calls.specs.Refusal.{Refusal}

-- the latch and the number of a standing request
abbrev pub named : StandingRequest → ℕ × ℕ
named t = (t.latch, t.request.id)

-- the latches at which a caller with this log has requests, each with the number of the request, in the order of its obtains
abbrev pub held : List Entry → List (ℕ × ℕ)
held log = map named (standing log)

-- the requests of a list without the one of this number at this latch
abbrev pub without : ℕ → ℕ → List (ℕ × ℕ) → List (ℕ × ℕ)
without latch id names = filter (λ n. not ((n.0 == latch) && (n.1 == id))) names

-- after an obtain of the Waiting form with this answer, the caller has its own request too if it was granted, and otherwise the
-- same requests
abbrev pub HasObtained : ℕ → List (ℕ × ℕ) → List (ℕ × ℕ) → Result Requested Refusal → Type 0
HasObtained latch old new (Ok (GrantedAs id)) = new ≡ old ++ (latch, id) ∷ []
HasObtained latch old new (Ok (PendingAs id)) = ⊥
HasObtained latch old new (Err why) = new ≡ old
