-- An obtain in its two halves, before its wait and after it.
use Rattle.std.specs.Prelude.{◌≡◌, ℕ, ◌≤◌, [], Result, None, IfOk, MatchResult}
use Rattle.mv_latch.specs.declared.operation.LatchOp.TheVariants.{Obtain}
use Rattle.mv_latch.specs.declared.operation.LatchReply.TheVariants.{Queued}
use Rattle.mv_latch.specs.declared.request.LatchForm.{LatchForm}
use Rattle.mv_latch.specs.declared.request.LatchForm.TheVariants.{Waiting}
use Rattle.mv_latch.specs.declared.request.Mode.{Mode}
use Rattle.mv_config.specs.Setup.{Setup}
use Rattle.mv_board.specs.Faces.{CallerFace}
use Rattle.mv_calls.specs.Keeping.{kept_of}
use Rattle.mv_calls.specs.LatchCalls.{obtain, obtain_refusal}
use Rattle.mv_calls.specs.Rest.{IsAtRest}
use Rattle.mv_calls.specs.Services.{obtain_events}
use Rattle.mv_wait.specs.Run.{Went, IsServed}
use Rattle.mv_latchset.specs.declared.obtaining.ObtainRefusal.{ObtainRefusal}
use Rattle.mv_latchset.specs.declared.obtaining.Obtained.{Obtained}
use Rattle.mv_latchset.specs.Answers.{obtain_answer}
use Rattle.mv_latchset.specs.Obtaining.{IsAnswered, IsObtainedBy, IsRefusedBy, IsOfLatch}

-- an obtain was made with this answer; this is all that the contract of the call says
pub record IsObtainMade (c : Setup) (latch requestor : ℕ) (mode : Mode) (form : LatchForm) (t : CallerFace)
    (r : Result Obtained ObtainRefusal) (u : CallerFace) : Type 0 where
  pub served : IsServed (obtain_events form) (obtain c latch requestor mode form) (λ a. a ≡ obtain_answer r) t u
  pub causes : MatchResult r
      (λ got. (obtain_refusal c latch requestor mode form (kept_of t.number t.log) ≡ None)
      × IsObtainedBy (Obtain latch requestor mode form) latch form t got u)
      (λ why. IsRefusedBy c latch requestor mode form t why u)
  pub there : IfOk r (IsOfLatch latch)

-- what an obtain of the Waiting form requires of its task
pub record MayObtain (t : CallerFace) : Type 0 where
  pub rest : IsAtRest t.log
  pub left : 2 ≤ t.left

-- An obtain of the Waiting form is under way: since it began the task made one event, the Obtain, which was queued.
pub record IsObtaining (c : Setup) (latch requestor : ℕ) (mode : Mode) (id : ℕ) (t0 t : CallerFace) : Type 0 where
  pub may : MayObtain t0
  pub accepted : obtain_refusal c latch requestor mode Waiting (kept_of t0.number t0.log) ≡ None
  pub queued : CallerFace
  pub event : IsAnswered (Obtain latch requestor mode Waiting) (Queued id) t0 queued
  pub since : Went [] queued t
