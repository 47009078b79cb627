-- Calls that are parts of the plan's tasks and have an answer of their own; and what the code's types say in the plan's words.
use Rattle.std.specs.Prelude.{ℕ, ◌+◌, Bool, false, nat_lt, List, [], ◌∷◌}
use Rattle.mv_calls.specs.Program.{Call, finished, wrong}
use Rattle.mv_calls.specs.declared.outcomes.WaitSlot.{WaitSlot}
use Rattle.mv_calls.specs.declared.outcomes.WaitSlot.TheVariants as wait_slot
use Rattle.mv_deck.specs.declared.deck.After.{After}
use Rattle.mv_plan.specs.SpoolTasks.{Named}
use Rattle.mv_work.specs.declared.finding.Found.{Found}
use Rattle.mv_work.specs.declared.running.Named as code

-- ---- waits

-- the position and the code of the lowest that was found complete
abbrev pub lowest_complete : ℕ → List WaitSlot → Call (ℕ × ℕ)
lowest_complete p [] = wrong
lowest_complete p (wait_slot.Complete code ∷ slots) = finished (p, code)
lowest_complete p (wait_slot.Open ∷ slots) = lowest_complete (p + 1) slots

-- what was found
abbrev pub pair_of : Found → ℕ × ℕ
pair_of f = (f.position, f.code)

-- whether an end was found that is above what a part accepts
abbrev pub is_end_above : After → WaitSlot → Bool
is_end_above part (wait_slot.Complete end) = nat_lt part.most end
is_end_above part wait_slot.Open = false

-- ---- the rounds of an initiator

-- what a code named
abbrev pub named_of : code.Named → Named
named_of named = record { job = named.job; skipped = named.skipped }
