-- The outcome of a release.
use Rattle.std.specs.Prelude.{◌≡◌, ℕ, Bool, true, Result, Ok, Err}
use Rattle.mv_latch.specs.declared.operation.LatchOp.TheVariants.{Release}
use Rattle.mv_latch.specs.declared.operation.LatchReply.TheVariants as latch_reply
use Rattle.mv_config.specs.Setup.{Setup}
use Rattle.mv_board.specs.Faces.{CallerFace}
use Rattle.mv_latchset.specs.declared.releasing.ReleaseLatchRefusal.{ReleaseLatchRefusal}
use Rattle.mv_latchset.specs.declared.releasing.ReleaseLatchRefusal.TheVariants as refused
use Rattle.mv_latchset.specs.Obtaining.{IsAnswered}
use Rattle.mv_latchset.specs.Waking.{PostsWakes}

-- the request was released and the wakes of that event were posted, or the refusal is the reply to the one event
abbrev pub IsReleasedBy : Setup → ℕ → ℕ → Bool → CallerFace → Result ℕ ReleaseLatchRefusal → CallerFace → Type 0
IsReleasedBy c latch id conditional t (Ok granted) u =
    (v : CallerFace) × IsAnswered (Release latch id conditional) (latch_reply.Released granted) t v × PostsWakes c v.wakes v u
IsReleasedBy c latch id conditional t (Err refused.Gone) u =
    IsAnswered (Release latch id conditional) latch_reply.Gone t u
IsReleasedBy c latch id conditional t (Err refused.StillWaiting) u =
    (conditional ≡ true) × IsAnswered (Release latch id conditional) latch_reply.Waiting t u
