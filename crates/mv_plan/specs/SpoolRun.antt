-- The histories of the spool: each task follows its program.
use Rattle.std.specs.Prelude.{ℕ, List}
use Rattle.mv_machine.specs.declared.entry.Entry.{Entry}
use Rattle.mv_deck.specs.Deck.{JobData}
use Rattle.mv_calls.specs.Runs.{FollowPrograms, FinishPrograms}
use Rattle.mv_plan.specs.SpoolSetup.{spool_setup}
use Rattle.mv_plan.specs.SpoolTasks.{task_program}

-- the history is legal for the deck's configuration, each entry is what its caller's task does next, and no wait ended too soon
abbrev pub Follows : List JobData → ℕ → List Entry → Type 0
Follows deck initiators es = FollowPrograms (spool_setup deck initiators) (task_program deck initiators) es

-- the history follows the plan, and each task is done
abbrev pub IsRun : List JobData → ℕ → List Entry → Type 0
IsRun deck initiators es = FinishPrograms (spool_setup deck initiators) (task_program deck initiators) es
