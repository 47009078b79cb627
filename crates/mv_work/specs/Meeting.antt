-- What meets a need: whoever runs a task shows that its waits are so.
use Rattle.std.specs.Prelude.{◌≡◌, ℕ, ◌<◌, ◌≤◌, ◌+◌, length, Result, MatchResult}
use Rattle.std.specs.List.{AllByRecursion}
use Rattle.mv_board.specs.Faces.{CallerFace}
use Rattle.mv_config.specs.Limits.{highest_generation}
use Rattle.mv_config.specs.Setup.{Setup, element_count, owner_of}
use Rattle.mv_calls.specs.Program.{Done, Wrong}
use Rattle.mv_calls.specs.Exits.{StartsExit}
use Rattle.mv_work.specs.declared.lost.Lost.{Lost}
use Rattle.mv_work.specs.declared.need.Got.{Got}
use Rattle.mv_work.specs.declared.need.Got.TheVariants as got
use Rattle.mv_work.specs.declared.need.Need.{Need}
use Rattle.mv_work.specs.declared.need.Need.TheVariants as need
use Rattle.mv_work.specs.Needs.{answer_of, most_blocks, need_call, need_events}
use Rattle.mv_work.specs.Ran.{Ran}

-- an answer to this need: as many slots as blocks, a code for one block, the next token of the same element, a request for the latch
abbrev pub IsAnswerTo : Need → Got → Type 0
IsAnswerTo (need.Blocks b) (got.Slots found) = length found.items ≡ length b.ecbs.items
IsAnswerTo (need.Block e) (got.Code code) = Unit {0}
IsAnswerTo (need.Pause token) (got.Given given) =
    (given.next.element ≡ token.element) × (given.next.generation ≤ highest_generation)
IsAnswerTo (need.Latch latch requestor mode) (got.Granted token) = token.latch ≡ latch
IsAnswerTo n g = ⊥

-- the call of the need was made: it was answered so; or it was refused, or answered as nothing foresees
abbrev pub IsMet : Setup → Need → CallerFace → Result Got Lost → CallerFace → Type 0
IsMet c n t r u = MatchResult r
    (λ g. IsAnswerTo n g × Ran (need_call c n) (Done (answer_of g)) t u × (t.left ≤ u.left + need_events n))
    (λ lost. Ran (need_call c n) Wrong t u)

-- what a need of task k asks of the configuration
abbrev pub MayMeet : Setup → ℕ → Need → Type 0
MayMeet c k (need.Blocks b) =
    (length b.ecbs.items ≤ most_blocks) × AllByRecursion (λ e. e < length c.owners) b.ecbs.items
MayMeet c k (need.Block e) = (e < length c.owners) × (owner_of c e ≡ k) × (StartsExit c e → ⊥)
MayMeet c k (need.Pause token) = token.element < element_count c
MayMeet c k (need.Latch latch requestor mode) = Unit {0}
