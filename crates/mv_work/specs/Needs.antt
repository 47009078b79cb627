-- What a task waits for, as a call, and the answer to it.
use Rattle.std.specs.Prelude.{◌≡◌, ℕ, ◌*◌, List, [], ◌∷◌, length}
use Rattle.mv_latch.specs.declared.request.LatchForm.TheVariants.{Waiting}
use Rattle.mv_config.specs.Setup.{Setup}
use Rattle.mv_calls.specs.LatchCalls.{obtain}
use Rattle.mv_calls.specs.declared.outcomes.Given.{Given}
use Rattle.mv_calls.specs.Pauses.{pause}
use Rattle.mv_calls.specs.Program.{Call, accepted, finished, wrong}
use Rattle.mv_calls.specs.Waits.{wait}
use Rattle.mv_calls.specs.declared.outcomes.WaitSlot.{WaitSlot}
use Rattle.mv_calls.specs.declared.outcomes.WaitSlot.TheVariants.{Complete}
use Rattle.mv_plan.specs.SpoolTasks.{granted_as}
use Rattle.mv_work.specs.declared.need.Blocks.{Blocks}
use Rattle.mv_work.specs.declared.need.Need.{Need}
use Rattle.mv_work.specs.declared.need.Need.TheVariants as need
use Rattle.mv_work.specs.declared.need.Got.{Got}
use Rattle.mv_work.specs.declared.need.Got.TheVariants as got

-- how many blocks a task waits for at once, at most
abbrev pub most_blocks : ℕ
most_blocks = 8

-- what a wait tells: how its blocks were found, what a pause was given, or the number of a request that was granted
pub data Answer : Type 0 where
  Slots : (slots : List WaitSlot) → Answer
  Gave : (gift : Given) → Answer
  Holds : (id : ℕ) → Answer

-- a wait until n of these blocks are complete
pub record IsWaitFor (n : ℕ) (es : List ℕ) (b : Blocks) : Type 0 where
  pub count : b.count ≡ n
  pub blocks : b.ecbs.items ≡ es

-- the call that a need is. It is not to be refused
abbrev pub need_call : Setup → Need → Call Answer
need_call c (need.Blocks b) = accepted (wait c b.count b.ecbs.items) (λ slots. finished (Slots slots))
need_call c (need.Block e) = accepted (wait c 1 (e ∷ [])) (λ slots. finished (Slots slots))
need_call c (need.Pause token) = accepted (pause c token) (λ gift. finished (Gave gift))
need_call c (need.Latch latch requestor mode) =
    accepted (obtain c latch requestor mode Waiting) (granted_as (λ id. finished (Holds id)))

-- the events that it may need
abbrev pub need_events : Need → ℕ
need_events (need.Blocks b) = 2 * length b.ecbs.items
need_events (need.Block e) = 2
need_events (need.Pause token) = 2
need_events (need.Latch latch requestor mode) = 2

-- the answer, as the program of the task reads it
abbrev pub answer_of : Got → Answer
answer_of (got.Slots found) = Slots found.items
answer_of (got.Code code) = Slots (Complete code ∷ [])
answer_of (got.Given given) = Gave given
answer_of (got.Granted token) = Holds token.id

-- what follows how blocks were found; any other answer is foreseen nowhere
abbrev pub on_slots : {A : Type 0} → (List WaitSlot → Call A) → Answer → Call A
on_slots f (Slots slots) = f slots
on_slots f answer = wrong

-- what follows a gift
abbrev pub on_gift : {A : Type 0} → (Given → Call A) → Answer → Call A
on_gift f (Gave gift) = f gift
on_gift f answer = wrong

-- what follows a grant
abbrev pub on_grant : {A : Type 0} → (ℕ → Call A) → Answer → Call A
on_grant f (Holds id) = f id
on_grant f answer = wrong
