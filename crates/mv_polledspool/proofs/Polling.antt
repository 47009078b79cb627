-- A task that is polled, from one state to the next.
use Rattle.std.proofs.Common.{◌≡◌, ℕ, Option, Some, None, Result, Ok, Err, sym, subst}
use Rattle.mv_board.specs.Faces.{CallerFace, IsSame}
use Rattle.mv_plan.specs.SpoolSetup.{spool_setup}
use Rattle.mv_polledspool.specs.declared.polled.Polled.{Polled}
use Rattle.mv_polledspool.specs.declared.polled.State.TheVariants.{New, Waits}
use Rattle.mv_polledspool.specs.Meeting.{IsMeeting}
use Rattle.mv_polledspool.specs.Polled.{HasTakenUp, IsPolled, Stands}
use Rattle.mv_polledspool.proofs.Calls.{new_meets}
use Rattle.mv_wait.proofs.Runs.{same_caller}
use Rattle.mv_work.specs.declared.lost.Lost.{Lost}
use Rattle.mv_work.specs.declared.need.Need.{Need}
use Rattle.mv_work.specs.declared.work.SpoolWork.{SpoolWork}
use Rattle.mv_work.specs.Spool.{SpoolFace}
use Rattle.mv_work.specs.Works.{HasCome, IsNew}
use Rattle.mv_work.proofs.Meeting.{CanMeet, done_worked, lost_worked, waits_ready}

-- a task that waits in a call which it began as it was then, and what holds of it
pub record IsAtCall (s : SpoolFace) (t : CallerFace) (p : Polled) : Type 0 where
  pub need : Need
  pub began : CallerFace
  pub come : HasCome s p.work t (Ok (Some need)) began
  pub ready : CanMeet s p.work.role t need began
  pub same : IsSame began p.task
  pub meeting : IsMeeting s.board.config need p.meeting began p.task

module _ (s : SpoolFace) (config : s.board.config ≡ spool_setup s.jobs s.initiators) where
  -- what holds of a task once it has taken up its next call
  pub stands_next : (k : ℕ) (t : CallerFace) (p : Polled) (next : Result (Option Need) Lost) {w : SpoolWork} {u : CallerFace}
      → (p.task ≡ u) × (p.work ≡ w)
      → HasCome s w t next u → HasTakenUp next p.state p.meeting → Stands s k t p p.state
  stands_next k t p next {w} {u} same come taken =
      go next taken (subst (λ (w : SpoolWork). HasCome s w t next p.task) (sym same.1)
      (subst (λ (u : CallerFace). HasCome s w t next u) (sym same.0) come)) where
        go : (next : Result (Option Need) Lost) → HasTakenUp next p.state p.meeting → HasCome s p.work t next p.task
            → Stands s k t p p.state
        go (Ok (Some n)) taken come =
            let at = waits_ready s t n p.task p.work.role config come in
            subst (Stands s k t p) (sym taken.0)
            (n, p.task, come, same_caller p.task, new_meets s.board n p.meeting p.task at.task at.may taken.1)
        go (Ok None) taken come = subst (Stands s k t p) (sym taken) (done_worked s p.work.role t p.task come)
        go (Err lost) taken come = subst (Stands s k t p) (sym taken) (lost_worked s p.work.role t p.task come)

  -- a task that is new
  pub new_stands : (k : ℕ) (p : Polled) (is : IsPolled s k p) → p.state ≡ New → (p.task ≡ is.new) × IsNew s.jobs s.initiators k p.work
  new_stands k p is new = subst (Stands s k is.new p) new is.stands

  -- one that waits
  pub waits : (k : ℕ) (p : Polled) (is : IsPolled s k p) → p.state ≡ Waits → IsAtCall s is.new p
  waits k p is at =
      let w = subst (Stands s k is.new p) at is.stands in record {
        need = w.0;
        began = w.1;
        come = w.2;
        ready = waits_ready s is.new w.0 w.1 p.work.role config w.2;
        same = w.3;
        meeting = w.4;
      }
