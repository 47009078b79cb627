-- What holds at a stage of a call.
use Rattle.std.proofs.Common.{◌≡◌}
use Rattle.mv_polled.specs.declared.turn.Stage.{Stage}
use Rattle.mv_polled.specs.declared.turn.Stage.TheVariants.{New, Waits, Over}
use Rattle.mv_polled.specs.Turn.{AtStage}

pub at_new : (s : Stage) (A B : Type 0) → s ≡ New → AtStage s A B → A
at_new New A B e a = a
at_new Waits A B e b = absurd (cc e)
at_new Over A B e a = absurd a
