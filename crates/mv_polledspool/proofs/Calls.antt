-- The call of a need, from its first poll to its answer.
use Rattle.std.proofs.Common.{refl, sym, ap, subst}
use Rattle.mv_board.specs.Faces.{BoardFace, CallerFace}
use Rattle.mv_polled.specs.Waiting.{WaitFace, IsWaitAt}
use Rattle.mv_polled.specs.Pausing.{PauseFace, IsPauseAt}
use Rattle.mv_polled.specs.Obtaining.{ObtainFace, IsObtainAt}
use Rattle.mv_polledspool.specs.declared.meeting.Call.{Call}
use Rattle.mv_polledspool.specs.declared.meeting.Call.TheVariants as call
use Rattle.mv_polledspool.specs.declared.meeting.Meeting.{Meeting}
use Rattle.mv_polledspool.specs.Meeting.{IsCallOf, IsMeeting, IsTaken, IsTakenUp}
use Rattle.mv_work.specs.declared.need.Need.{Need}
use Rattle.mv_work.specs.declared.need.Need.TheVariants as need
use Rattle.mv_work.specs.Meeting.{MayMeet}
use Rattle.mv_work.specs.Needs.{need_events}
use Rattle.mv_wait.specs.Run.{MayCall}

taken_meets : (b : BoardFace) (n : Need) (k : Call) (w : WaitFace) (u : CallerFace) → MayCall b (need_events n) u
    → MayMeet b.config u.number n → IsTaken n k w → IsCallOf b.config n k w u u
taken_meets b (need.Blocks bl) call.Wait w u rests may is = (
  ap (λ (f : WaitFace). f.count) is,
  ap (λ (f : WaitFace). f.ecbs) is,
  may.0,
  subst (λ (f : WaitFace). IsWaitAt b.config f u u) (sym is)
      (refl, record { rest = rests.rest; blocks = may.1; left = rests.left }),
)
taken_meets b (need.Block e) call.Block w u rests may is = (
  ap (λ (f : WaitFace). f.count) is,
  ap (λ (f : WaitFace). f.ecbs) is,
  subst (λ (f : WaitFace). IsWaitAt b.config f u u) (sym is)
      (refl, record { rest = rests.rest; blocks = (may.0, tt); left = rests.left }),
)
taken_meets b (need.Pause token) (call.Pause p) w u rests may is = (
  ap (λ (f : PauseFace). f.token) is,
  subst (λ (f : PauseFace). IsPauseAt b.config f u u) (sym is) (refl, record { rest = rests.rest; element = may; left = rests.left }),
)
taken_meets b (need.Latch latch requestor mode) (call.Obtain q) w u rests may is = (
  ap (λ (f : ObtainFace). f.latch) is,
  ap (λ (f : ObtainFace). f.requestor) is,
  ap (λ (f : ObtainFace). f.mode) is,
  subst (λ (f : ObtainFace). IsObtainAt b.config f u u) (sym is) (refl, record { rest = rests.rest; left = rests.left }),
)
taken_meets b n k w u rests may is = absurd is

-- the call of a need that was taken up may be polled for the first time
pub new_meets : (b : BoardFace) (n : Need) (m : Meeting) (u : CallerFace) → MayCall b (need_events n) u
    → MayMeet b.config u.number n → IsTakenUp n m → IsMeeting b.config n m u u
new_meets b n m u rests may is = taken_meets b n m.call m.wait u rests may is
