-- The posts of wakes.
use Rattle.std.specs.Prelude.{List}
use Rattle.mv_latch.specs.declared.operation.Wake.{Wake}
use Rattle.mv_config.specs.Reach.{reach, total}
use Rattle.mv_config.specs.Setup.{Setup}
use Rattle.mv_machine.specs.Waking.{blocks_of}
use Rattle.mv_board.specs.Faces.{CallerFace}
use Rattle.mv_calls.specs.Keeping.{Kept}
use Rattle.mv_calls.specs.Posts.{wakes_posted}
use Rattle.mv_calls.specs.Program.{Program, Done}
use Rattle.mv_wait.specs.Run.{Runs}

-- the program that makes no event and has no answer
abbrev pub all_posted : Program (Unit {0})
all_posted = Done tt

-- the task posted the blocks of these wakes, in order, and made no other events
abbrev pub PostsWakes : Setup → List Wake → CallerFace → CallerFace → Type 0
PostsWakes c ws t u = (kept : Kept) → Runs (total (reach c) (blocks_of ws)) (wakes_posted c ws kept all_posted) all_posted t u
