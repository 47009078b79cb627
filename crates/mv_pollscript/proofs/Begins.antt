-- A task that begins its next call, which waits.
use Rattle.std.proofs.Common.{◌≡◌, ℕ, ◌<◌, ◌≤◌, List, [], length, take, Option, Some, refl, sym, ap, ◌∙◌, subst, arith}
use Rattle.std.specs.Prelude.{count_by, slice_get}
use Rattle.mv_board.specs.Faces.{BoardFace, CallerFace}
use Rattle.mv_calls.specs.Rest.{IsAtRest}
use Rattle.mv_calls.specs.declared.table.Table.{Table}
use Rattle.mv_element.specs.declared.element.Token.{Token}
use Rattle.mv_latch.specs.declared.request.LatchForm.TheVariants.{Waiting}
use Rattle.mv_config.specs.Setup.{Setup, element_count}
use Rattle.mv_polled.specs.Obtaining.{IsObtainAt, MayObtain, ObtainFace, new_obtain}
use Rattle.mv_polled.specs.Pausing.{IsPauseAt, MayPause, PauseFace, new_pause}
use Rattle.mv_polled.specs.Waiting.{IsWaitAt, MayWait, WaitFace, new_wait}
use Rattle.mv_runscript.specs.Making.{AreGoodIn, AreSoundIn, IsForScripts}
use Rattle.mv_runscript.proofs.Scripts.{sound_at}
use Rattle.mv_runscript.proofs.Steps.{cost_more}
use Rattle.mv_script.specs.Costs.{cost}
use Rattle.mv_script.specs.Fault.{obtain_meant}
use Rattle.mv_script.specs.Script.{is_obtain}
use Rattle.mv_script.specs.Sound.{IfThere}
use Rattle.mv_scriptline.specs.declared.call.Call.{Call}
use Rattle.mv_scriptline.specs.declared.call.Call.TheVariants as call
use Rattle.mv_wait.specs.Run.{MayCall}
use Rattle.mv_pollscript.specs.Task.{IsStageFor, IsTaskAt, Stands}
use Rattle.mv_pollscript.specs.declared.task.ScriptTask.{ScriptTask}
use Rattle.mv_pollscript.specs.declared.task.Stage.{Stage}
use Rattle.mv_pollscript.specs.declared.task.Stage.TheVariants as stage
use Rattle.mv_pollscript.proofs.Places.{at_place}
use Rattle.mv_pollscript.proofs.Steps.{task_stands}

-- ---- calls that were made, and not polled yet

pub wait_for : (w : WaitFace) (count : ℕ) (es : List ℕ) → w ≡ new_wait (length es) count es
    → (call.Wait count es ≡ call.Wait w.count w.ecbs) × (w ≡ new_wait (length w.ecbs) w.count w.ecbs)
wait_for w count es is = subst (λ (x : WaitFace). (call.Wait count es ≡ call.Wait x.count x.ecbs)
    × (x ≡ new_wait (length x.ecbs) x.count x.ecbs)) (sym is) (refl, refl)

pub pause_for : (p : PauseFace) (token : Token) → p ≡ new_pause token → (call.Pause token ≡ call.Pause p.token) × (p ≡ new_pause p.token)
pause_for p token is = subst (λ (x : PauseFace). (call.Pause token ≡ call.Pause x.token) × (x ≡ new_pause x.token)) (sym is) (refl, refl)

pub obtain_for : (q : ObtainFace) (latch requestor : ℕ) (mode : _) → q ≡ new_obtain latch requestor mode
    → (call.Obtain latch requestor mode Waiting ≡ call.Obtain q.latch q.requestor q.mode Waiting)
    × (q ≡ new_obtain q.latch q.requestor q.mode)
obtain_for q latch requestor mode is =
    subst (λ (x : ObtainFace). (call.Obtain latch requestor mode Waiting ≡ call.Obtain x.latch x.requestor x.mode Waiting)
    × (x ≡ new_obtain x.latch x.requestor x.mode)) (sym is) (refl, refl)

-- ---- the task may poll them

element_exists : (c : Setup) (table : Option Table) (token : Token) → IsForScripts c → AreGoodIn c table (call.Pause token)
    → token.element < element_count c
element_exists c table token scripts good = let e = scripts.elements in let low = good.0 in rw e (omega arith)

module _ (c : Setup) (table : Option Table) (t : CallerFace) (scripts : IsForScripts c) (rest : IsAtRest t.log) where
  stands_begun : (d : Call) (s : Stage) → IsStageFor (Some s) d → AreGoodIn c table d → cost c d ≤ t.left → Stands c (Some d) t t s
  stands_begun d (stage.Waits w) is good left =
      let own = subst (AreGoodIn c table) is.0 good in
      let paid = subst (λ x. cost c x ≤ t.left) is.0 left in
      let may : MayWait c w.ecbs t = record { rest = rest; blocks = own.1.1; left = paid } in
      (ap (λ x. Some x) is.0, subst (λ (x : WaitFace). IsWaitAt c x t t) (sym is.1) (refl, may))
  stands_begun d (stage.Pauses p) is good left =
      let own = subst (AreGoodIn c table) is.0 good in
      let paid = subst (λ x. cost c x ≤ t.left) is.0 left in
      let may : MayPause c p.token t = record { rest = rest; element = element_exists c table p.token scripts own; left = paid } in
      (ap (λ x. Some x) is.0, subst (λ (x : PauseFace). IsPauseAt c x t t) (sym is.1) (refl, may))
  stands_begun d (stage.Obtains q) is good left =
      let paid = subst (λ x. cost c x ≤ t.left) is.0 left in
      let may : MayObtain t = record { rest = rest; left = paid } in
      (ap (λ x. Some x) is.0, subst (λ (x : ObtainFace). IsObtainAt c x t t) (sym is.1) (refl, may))
  stands_begun d stage.Halted is good left = refl
  stands_begun d stage.Between is good left = absurd is
  stands_begun d stage.Finished is good left = absurd is

module _ (b : BoardFace) (table : Option Table) (calls : List Call) (k : ℕ) (p q : ScriptTask) (at : IsTaskAt b table calls k p)
    (scripts : IsForScripts b.config) (sound : AreSoundIn b.config table [] calls) (between : p.stage ≡ stage.Between) where
  -- between two calls it is as it was after the last
  pub task_between : p.task ≡ at.between
  task_between = subst (Stands b.config (slice_get calls (length p.answers.items)) at.between p.task) between at.stands

  module _ (d : Call) (next : slice_get calls (length p.answers.items) ≡ Some d) where
    -- its next call is one of a script
    pub next_good : AreGoodIn b.config table d
    next_good =
        let place = at_place calls (length p.answers.items) d d next in
        subst (AreGoodIn b.config table) (sym place.1) (sound_at b.config table [] calls (length p.answers.items) d sound place.0).numbers

    -- and names an OBTAIN that the task has made, if it names one
    pub next_obtain : IfThere (λ n. (1 ≤ n) × (n ≤ length p.requests.items)) (obtain_meant d)
    next_obtain =
        let i = length p.answers.items in
        let place = at_place calls i d d next in
        subst (λ m. IfThere (λ n. (1 ≤ n) × (n ≤ m)) (obtain_meant d)) (sym at.count)
        (subst (λ (x : Call). IfThere (λ n. (1 ≤ n) × (n ≤ count_by is_obtain (take i calls))) (obtain_meant x)) (sym place.1)
        (sound_at b.config table [] calls i d sound place.0).obtain)

    -- and the task has the events that it may cost
    pub next_paid : cost b.config d ≤ at.between.left
    next_paid =
        let place = at_place calls (length p.answers.items) d d next in
        let cost = cost_more calls (length p.answers.items) d place.0 place.1 b.config in
        let left = at.left in omega arith

    pub next_may : MayCall b (cost b.config d) p.task
    next_may = subst (MayCall b (cost b.config d)) (sym task_between) (record { board = at.board; rest = at.rest; left = next_paid })

    -- it begins a call that waits
    pub task_begins : (s : Stage) → IsStageFor (Some s) d → q.task ≡ p.task → q.answers.items ≡ p.answers.items → q.requests.items ≡ p.requests.items
        → q.stage ≡ s → IsTaskAt b table calls k q
    task_begins s is task answers requests now =
        let begun = stands_begun b.config table at.between scripts at.rest d s is next_good next_paid in
        task_stands b table calls k p q at answers requests
        (subst (λ o. Stands b.config o at.between q.task q.stage) (sym next)
        (subst (λ u. Stands b.config (Some d) at.between u q.stage) (sym (task ∙ task_between))
        (subst (Stands b.config (Some d) at.between at.between) (sym now) begun)))

  -- it has no call left
  pub task_finished : q.task ≡ p.task → q.answers.items ≡ p.answers.items → q.requests.items ≡ p.requests.items → q.stage ≡ stage.Finished → IsTaskAt b table calls k q
  task_finished task answers requests now =
      task_stands b table calls k p q at answers requests
      (subst (Stands b.config (slice_get calls (length p.answers.items)) at.between q.task) (sym now) (task ∙ task_between))
