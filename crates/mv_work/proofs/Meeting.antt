-- From what a task waits for, and how that was met, to what it was told. For whoever runs tasks.
use Rattle.std.proofs.Common.{◌≡◌, ℕ, ◌+◌, ◌*◌, ◌<◌, ◌≤◌, [], Option, Some, None, Result, Ok, Err, sym, ◌∙◌, subst, arith}
use Rattle.mv_board.specs.Faces.{CallerFace, IsSame}
use Rattle.mv_config.specs.Setup.{element_count}
use Rattle.mv_calls.specs.Keeping.{kept_of}
use Rattle.mv_calls.specs.Program.{Call, Program, Done, Wrong, accepted, unrefused}
use Rattle.mv_calls.specs.Refusal.{Refusal}
use Rattle.mv_plan.specs.SpoolSetup.{initiator, scheduler, spool_setup, writer}
use Rattle.mv_wait.proofs.Runs.{same_then}
use Rattle.mv_wait.specs.Run.{IsServed, MayCall}
use Rattle.mv_work.specs.declared.need.Got.{Got}
use Rattle.mv_work.specs.declared.need.Got.TheVariants as got
use Rattle.mv_work.specs.declared.need.Need.{Need}
use Rattle.mv_work.specs.declared.need.Need.TheVariants as need
use Rattle.mv_work.specs.declared.initiator.Initiator.{Initiator}
use Rattle.mv_work.specs.declared.lost.Lost.{Lost}
use Rattle.mv_work.specs.declared.stage.InitiatorStage.{InitiatorStage}
use Rattle.mv_work.specs.declared.stage.InitiatorStage.TheVariants as at
use Rattle.mv_work.specs.declared.work.Role.{Role}
use Rattle.mv_work.specs.declared.work.Role.TheVariants as role
use Rattle.mv_work.specs.Initiating.{IsInitiatorAnswer, IsInitiatorNeed}
use Rattle.mv_work.specs.Meeting.{IsAnswerTo, MayMeet}
use Rattle.mv_work.specs.Needs.{Answer, answer_of, need_call, need_events}
use Rattle.mv_work.specs.Ran.{Ran, RanOut}
use Rattle.mv_work.specs.Scheduling.{AreBlocks, AreSlots}
use Rattle.mv_work.specs.Spool.{SpoolFace}
use Rattle.mv_work.specs.Waiting.{Stages, Told, Waits}
use Rattle.mv_work.specs.Works.{HasComeAs, HasWorked, ProgramIs, ToldAs, WaitsAs}
use Rattle.mv_work.proofs.Runs.{leads_astray, out_done, out_wrong, ran_last, served_as}
use Rattle.mv_work.proofs.Waits.{rests_less, told_answer}

-- ---- a need was met

slots_are : (count : Option ℕ) (n : Need) (g : Got) → IsAnswerTo n g → AreBlocks count n → AreSlots count g
slots_are None (need.Block e) (got.Code code) is fits = tt
slots_are None (need.Block e) g is fits = absurd is
slots_are (Some count) (need.Blocks b) (got.Slots found) is fits = is ∙ fits
slots_are (Some count) (need.Blocks b) g is fits = absurd is
slots_are count n g is fits = absurd fits

initiator_is : (sp : SpoolFace) (me : Initiator) (s : InitiatorStage) (n : Need) (g : Got) → IsAnswerTo n g → IsInitiatorNeed sp me s n
    → IsInitiatorAnswer sp me s g
initiator_is sp me (at.Pause round) (need.Pause token) (got.Given given) is fits = (fits.0, (is.0 ∙ fits.1.0, is.1))
initiator_is sp me (at.Latch r) (need.Latch latch requestor mode) (got.Granted token) is fits = (fits.0, is ∙ fits.1)
initiator_is sp me (at.Pause round) (need.Pause token) g is fits = absurd is
initiator_is sp me (at.Latch r) (need.Latch latch requestor mode) g is fits = absurd is
initiator_is sp me s n g is fits = absurd fits

-- what is needed is there

own_there : (sp : SpoolFace) (me : Initiator) (s : InitiatorStage) (n : Need) → sp.board.config ≡ spool_setup sp.jobs sp.initiators
    → IsInitiatorNeed sp me s n → MayMeet sp.board.config (initiator me.index) n
own_there sp me (at.Pause round) (need.Pause token) is fits =
    subst (λ c. token.element < element_count c) (sym is)
    (let own = fits.1.0 in let lt = fits.0.index in let one : (sp.initiators + 3) * 1 ≡ sp.initiators + 3 = omega arith in omega arith)
own_there sp me (at.Latch r) (need.Latch latch requestor mode) is fits = tt
own_there sp me s n is fits = absurd fits

-- an initiator that waits is one of the spool's
own_index : (sp : SpoolFace) (me : Initiator) (s : InitiatorStage) (n : Need) → IsInitiatorNeed sp me s n → me.index < sp.initiators
own_index sp me (at.Pause round) (need.Pause token) fits = fits.0.index
own_index sp me (at.Latch r) (need.Latch latch requestor mode) fits = fits.0.0.at.index
own_index sp me s n fits = absurd fits

-- the call of what the task waits for may be made; after an answer the task was told that, and otherwise it has worked
pub record CanMeet (sp : SpoolFace) (r : Role) (t : CallerFace) (n : Need) (u : CallerFace) : Type 0 where
  pub same : IsSame t u
  pub task : MayCall sp.board (need_events n) u
  pub may : MayMeet sp.board.config u.number n
  pub told : (g : Got) (v : CallerFace) → IsAnswerTo n g → Ran (need_call sp.board.config n) (Done (answer_of g)) u v
      → u.left ≤ v.left + need_events n → ToldAs sp r t g v
  pub lost : (v : CallerFace) → Ran (need_call sp.board.config n) Wrong u v → HasWorked sp r t v

module _ (sp : SpoolFace) (t : CallerFace) (n : Need) (u : CallerFace) where
  ready : {S A : Type 0} {stages : Stages S A} {Fits : S → Need → Type 0} {Answers : S → Got → Type 0} {whole : Call A} {s : S} (a : A)
      (r : Role) (k : ℕ) → t.number ≡ k → Waits sp.board stages Fits whole t s n u → (Fits s n → MayMeet sp.board.config k n)
      → ((g : Got) → IsAnswerTo n g → Fits s n → Answers s g)
      → ((g : Got) (v : CallerFace) → Told sp.board stages Answers whole t s g v → ToldAs sp r t g v)
      → ((v : CallerFace) → IsSame t v → RanOut whole a t v → HasWorked sp r t v) → CanMeet sp r t n u
  ready {stages = stages} {s = s} a r k is x may answers told worked = record {
    same = x.same;
    task = rests_less x.task (omega arith);
    may = subst (λ k. MayMeet sp.board.config k n) (sym (x.same.number ∙ is)) (may x.fits);
    told = λ g v is ran few. told g v (told_answer g (answers g is) x ran few);
    lost = λ v ran. worked v (same_then t u v x.same ran.went.same) (out_wrong a (leads_astray (stages.then s) x.leads ran));
  }

  -- so it is of a task that waits in its role
  pub waits_ready : (r : Role) → sp.board.config ≡ spool_setup sp.jobs sp.initiators → WaitsAs sp r t n u → CanMeet sp r t n u
  waits_ready role.Reader is at = absurd at
  waits_ready (role.Scheduler None) is at = absurd at
  waits_ready (role.Scheduler (Some s)) is at =
      ready [] (role.Scheduler (Some s)) scheduler at.0 at.1 (λ fits. fits.may)
      (λ g to fits. record { numbers = fits.numbers; slots = slots_are _ n g to fits.blocks })
      (λ g v x. (at.0, x))
      (λ v same x. (same, (at.0, x)))
  waits_ready (role.Initiator me None) is at = absurd at
  waits_ready (role.Initiator me (Some s)) is at =
      ready me.noted.jobs (role.Initiator me (Some s)) (initiator me.index) at.0 at.1 (own_there sp me s n is) (initiator_is sp me s n)
      (λ g v x. (at.0, x))
      (λ v same x. (same, (at.0, own_index sp me s n at.1.fits, x)))
  waits_ready (role.Writer ends None) is at = absurd at
  waits_ready (role.Writer ends (Some j)) is at =
      ready ends.items (role.Writer ends (Some j)) (writer sp.initiators) at.0 at.1 (λ fits. fits.may)
      (λ g to fits. record {
        number = fits.number;
        room = fits.room;
        slot = slots_are None n g to fits.block;
      })
      (λ g v x. (at.0, x))
      (λ v same x. (same, (at.0, x)))

-- ---- a task that makes no more events

-- what holds of each task's program, if something else does
program_as : (P Q : (A : Type 0) → Call A → A → Type 0) (s : SpoolFace) (k : ℕ) → ((A : Type 0) (call : Call A) (a : A) → P A call a → Q A call a)
    → (r : Role) → ProgramIs P s r k → ProgramIs Q s r k
program_as P Q s k so role.Reader x = (x.0, so _ _ _ x.1)
program_as P Q s k so (role.Scheduler stage) x = (x.0, so _ _ _ x.1)
program_as P Q s k so (role.Initiator me stage) x = (x.0, x.1, so _ _ _ x.2)
program_as P Q s k so (role.Writer ends job) x = (x.0, so _ _ _ x.1)

module _ (s : SpoolFace) (r : Role) (t u : CallerFace) where
  -- a task that is done
  pub done_worked : HasComeAs s r t (Ok None) u → HasWorked s r t u
  done_worked x = (
    x.0,
    program_as (λ A call a. Ran call (Done a) t u) (λ A call a. RanOut call a t u) s t.number (λ A call a ran. out_done ran) r x.1,
  )

  -- and one that is lost
  pub lost_worked : {lost : Lost} → HasComeAs s r t (Err lost) u → HasWorked s r t u
  lost_worked x = (
    x.0,
    program_as (λ A call a. Ran call Wrong t u) (λ A call a. RanOut call a t u) s t.number (λ A call a ran. out_wrong a ran) r x.1,
  )

-- ---- how the calls of the services meet needs

-- a call that is not to be refused was served so: what is left is what follows the answer
pub met : {A : Type 0} {most : ℕ} {call : Call (Result A Refusal)} {a : Result A Refusal} {q : Program Answer} {t u : CallerFace}
    (f : A → Call Answer) → IsServed most call (λ b. b ≡ a) t u → unrefused f a (kept_of u.number u.log) ≡ q → Ran (accepted call f) q t u
met f s is = ran_last (served_as s) (unrefused f) is
