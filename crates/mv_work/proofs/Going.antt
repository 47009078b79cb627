-- From what a role's program comes to, to where the task has come. Used by begin and go_on of each role.
use Rattle.std.proofs.Common.{◌≡◌, ℕ, ◌<◌, length, Option, Result, Ok, Err, Global, Vec, sym, subst}
use Rattle.mv_board.specs.Faces.{CallerFace}
use Rattle.mv_plan.specs.SpoolSetup.{initiator, scheduler, writer}
use Rattle.mv_plan.specs.SpoolTasks.{scheduling, writing}
use Rattle.mv_work.specs.declared.initiator.Initiator.{Initiator}
use Rattle.mv_work.specs.declared.lost.Lost.{Lost}
use Rattle.mv_work.specs.declared.need.Got.{Got}
use Rattle.mv_work.specs.declared.need.Got.TheVariants as got
use Rattle.mv_work.specs.declared.need.Need.{Need}
use Rattle.mv_work.specs.declared.next.Next.{Next}
use Rattle.mv_work.specs.declared.next.Next.TheVariants as next
use Rattle.mv_work.specs.declared.stage.InitiatorStage.{InitiatorStage}
use Rattle.mv_work.specs.declared.stage.InitiatorStage.TheVariants as at
use Rattle.mv_work.specs.declared.stage.SchedulerStage.{SchedulerStage}
use Rattle.mv_work.specs.declared.work.Role.TheVariants as role
use Rattle.mv_work.specs.Initiating.{InitiatorComes, IsInitiatorAnswer}
use Rattle.mv_work.specs.Noting.{initiating_noted}
use Rattle.mv_work.specs.Scheduling.{SchedulerComes}
use Rattle.mv_work.specs.Spool.{SpoolFace}
use Rattle.mv_work.specs.Waiting.{need_of, stage_then}
use Rattle.mv_work.specs.Works.{HasComeAs}
use Rattle.mv_work.specs.Writing.{WriterComes}

-- an initiator that was told something is one of the spool's
pub told_index : (sp : SpoolFace) (me : Initiator) (s : InitiatorStage) (g : Got) → IsInitiatorAnswer sp me s g → me.index < sp.initiators
told_index sp me (at.Pause round) (got.Given given) is = is.0.index
told_index sp me (at.Latch r) (got.Granted token) is = is.0.0.at.index
told_index sp me s g is = absurd is

-- the task was t when it was new, and is u; the stage and the need are those that were kept
module _ (sp : SpoolFace) (t u : CallerFace) (need : Result (Option Need) Lost) where
  pub scheduler_come : (was now : Option SchedulerStage) (came : Result (Next SchedulerStage) Lost) → now ≡ stage_then was came
      → need ≡ need_of came → t.number ≡ scheduler → SchedulerComes sp (scheduling sp.board.config sp.initiators sp.jobs) t came u
      → HasComeAs sp (role.Scheduler now) t need u
  scheduler_come was now came at needs is x =
      subst (λ s. HasComeAs sp (role.Scheduler s) t need u) (sym at)
      (subst (λ n. HasComeAs sp (role.Scheduler (stage_then was came)) t n u) (sym needs) (go came x)) where
        go : (came : Result (Next SchedulerStage) Lost) → SchedulerComes sp (scheduling sp.board.config sp.initiators sp.jobs) t came u
            → HasComeAs sp (role.Scheduler (stage_then was came)) t (need_of came) u
        go (Ok (next.Wait to n)) x = (is, x.come)
        go (Ok next.Done) x = (x.come.went.same, (is, x.come))
        go (Err lost) x = (x.come.went.same, (is, x.come))

  pub initiator_come : (me : Initiator) (was now : Option InitiatorStage) (came : Result (Next InitiatorStage) Lost)
      → now ≡ stage_then was came → need ≡ need_of came → t.number ≡ initiator me.index → me.index < sp.initiators
      → InitiatorComes sp me (initiating_noted sp.board.config sp.jobs me.index) t came u
      → HasComeAs sp (role.Initiator me now) t need u
  initiator_come me was now came at needs is lt x =
      subst (λ s. HasComeAs sp (role.Initiator me s) t need u) (sym at)
      (subst (λ n. HasComeAs sp (role.Initiator me (stage_then was came)) t n u) (sym needs) (go came x)) where
        go : (came : Result (Next InitiatorStage) Lost)
            → InitiatorComes sp me (initiating_noted sp.board.config sp.jobs me.index) t came u
            → HasComeAs sp (role.Initiator me (stage_then was came)) t (need_of came) u
        go (Ok (next.Wait to n)) x = (is, x.come)
        go (Ok next.Done) x = (x.come.went.same, (is, lt, x.come))
        go (Err lost) x = (x.come.went.same, (is, lt, x.come))

  pub writer_come : (ends : Vec ℕ Global) (was now : Option ℕ) (came : Result (Next ℕ) Lost) → now ≡ stage_then was came
      → need ≡ need_of came → t.number ≡ writer sp.initiators → WriterComes sp ends (writing sp.board.config (length sp.jobs)) t came u
      → HasComeAs sp (role.Writer ends now) t need u
  writer_come ends was now came at needs is x =
      subst (λ s. HasComeAs sp (role.Writer ends s) t need u) (sym at)
      (subst (λ n. HasComeAs sp (role.Writer ends (stage_then was came)) t n u) (sym needs) (go came x)) where
        go : (came : Result (Next ℕ) Lost) → WriterComes sp ends (writing sp.board.config (length sp.jobs)) t came u
            → HasComeAs sp (role.Writer ends (stage_then was came)) t (need_of came) u
        go (Ok (next.Wait to n)) x = (is, x.come)
        go (Ok next.Done) x = (x.come.went.same, (is, x.come))
        go (Err lost) x = (x.come.went.same, (is, x.come))
