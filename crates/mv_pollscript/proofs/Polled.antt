-- A task that polls the call in which it is: the call has its answer, or goes on.
use Rattle.std.proofs.Common.{◌≡◌, ℕ, List, [], ◌∷◌, ◌++◌, length, Option, Some, Result, Ok, Err, refl, sym, ap, ◌∙◌, subst}
use Rattle.std.proofs.Common.{arith, length-append}
use Rattle.std.specs.Prelude.{OnOk, count_by, slice_get}
use Rattle.mv_board.specs.Faces.{BoardFace, CallerFace}
use Rattle.mv_calls.specs.Services as service
use Rattle.mv_calls.specs.declared.table.Table.{Table}
use Rattle.mv_latch.specs.declared.request.LatchForm.TheVariants.{Waiting}
use Rattle.mv_latchset.specs.Answers.{obtain_answer}
use Rattle.mv_latchset.specs.declared.obtaining.ObtainRefusal.{ObtainRefusal}
use Rattle.mv_latchset.specs.declared.obtaining.Obtained.{Obtained}
use Rattle.mv_latchset.specs.declared.token.LatchToken.{LatchToken}
use Rattle.mv_config.specs.Setup.{Setup}
use Rattle.mv_polled.specs.Obtaining.{IsLeftObtaining, IsObtainAt, IsObtained, IsObtaining, MayObtain, ObtainFace}
use Rattle.mv_polled.specs.Pausing.{IsPauseAt, PauseFace}
use Rattle.mv_polled.specs.Turn.{AtStage}
use Rattle.mv_polled.specs.Waiting.{IsWaitAt, WaitFace}
use Rattle.mv_script.specs.Answered.{done_or, obtained as obtained_told}
use Rattle.mv_script.specs.Script.{is_obtain}
use Rattle.mv_script.specs.declared.answer.Answer.{Answer}
use Rattle.mv_scriptline.specs.declared.call.Call.{Call}
use Rattle.mv_scriptline.specs.declared.call.Call.TheVariants as call
use Rattle.mv_runscript.specs.Making.{AreOfLatches, IsForScripts, MakesCall, token_in}
use Rattle.mv_runscript.specs.Served.{MakesService}
use Rattle.mv_runscript.proofs.Makes.{known_makes, plain_makes}
use Rattle.mv_runscript.proofs.Obtains.{latch_low, requests_more, tokens_more}
use Rattle.mv_pollscript.specs.Task.{IsTaskAt, Stands}
use Rattle.mv_pollscript.specs.declared.task.ScriptTask.{ScriptTask}
use Rattle.mv_pollscript.specs.declared.task.Stage.{Stage}
use Rattle.mv_pollscript.specs.declared.task.Stage.TheVariants as stage
use Rattle.mv_pollscript.proofs.Steps.{task_on, task_stands}

-- four facts that hold if there was memory
pub on_ok_all : {A E P Q R S T : Type 0} (r : Result A E) → OnOk r P → OnOk r Q → OnOk r R → OnOk r S → (P → Q → R → S → T) → OnOk r T
on_ok_all (Ok a) p q r s f = f p q r s
on_ok_all (Err e) p q r s f = tt

-- an obtain that has no answer yet may be polled again
pub obtain_again : (c : Setup) (t0 t u : CallerFace) (q : ObtainFace) → IsLeftObtaining c q t0 t u → IsObtainAt c q t0 u
obtain_again c t0 t u q left =
    subst (λ s. AtStage s ((u ≡ t0) × MayObtain t0) (IsObtaining c q.latch q.requestor q.mode q.id t0 u)) (sym left.stage) left.obtaining

module _ (b : BoardFace) (table : Option Table) (calls : List Call) (k : ℕ) (p q : ScriptTask) (at : IsTaskAt b table calls k p) where
  -- what the task has done since its last call, in this stage
  pub stands_in : (s : Stage) → p.stage ≡ s → Stands b.config (slice_get calls (length p.answers.items)) at.between p.task s
  stands_in s is = subst (Stands b.config (slice_get calls (length p.answers.items)) at.between p.task) is at.stands

  -- a call that is no OBTAIN has its answer
  same_requests : (d : Call) (a : Answer) → slice_get calls (length p.answers.items) ≡ Some d → count_by is_obtain (d ∷ []) ≡ 0
      → MakesCall b.config table d a p.requests.items p.requests.items at.between q.task → q.requests.items ≡ p.requests.items
      → q.answers.items ≡ p.answers.items ++ a ∷ [] → q.stage ≡ stage.Between → IsTaskAt b table calls k q
  same_requests d a next none makes requests answers between =
      let size = ap (λ (rs : List (Option LatchToken)). length rs) requests in
      task_on b table calls k p q at d a next
      (subst (λ (rs : List (Option LatchToken)). MakesCall b.config table d a p.requests.items rs at.between q.task) (sym requests) makes)
      (subst AreOfLatches (sym requests) at.requests) (omega arith) answers between

  -- ---- a WAIT

  pub wait_ends : (w : WaitFace) (a : Answer) → p.stage ≡ stage.Waits w
      → MakesService b.config (service.Wait w.count w.ecbs) a at.between q.task → q.requests.items ≡ p.requests.items
      → q.answers.items ≡ p.answers.items ++ a ∷ [] → q.stage ≡ stage.Between → IsTaskAt b table calls k q
  wait_ends w a is serves requests answers between =
      let d = call.Wait w.count w.ecbs in
      same_requests d a (stands_in (stage.Waits w) is).0 refl (plain_makes d refl refl refl serves) requests answers between

  pub wait_left : (w v : WaitFace) → p.stage ≡ stage.Waits w → (v.count ≡ w.count) × (v.ecbs ≡ w.ecbs)
      → IsWaitAt b.config v at.between q.task → q.answers.items ≡ p.answers.items → q.requests.items ≡ p.requests.items → q.stage ≡ stage.Waits v
      → IsTaskAt b table calls k q
  wait_left w v is same waits answers requests now =
      task_stands b table calls k p q at answers requests
      (subst (Stands b.config (slice_get calls (length p.answers.items)) at.between q.task) (sym now) (
        (stands_in (stage.Waits w) is).0 ∙ ap (λ n. Some (call.Wait n w.ecbs)) (sym same.0) ∙ ap (λ es. Some (call.Wait v.count es)) (sym same.1),
        waits,
      ))

  -- ---- a PAUSE

  pub pause_ends : (w : PauseFace) (a : Answer) → p.stage ≡ stage.Pauses w
      → MakesService b.config (service.Pause w.token) a at.between q.task → q.requests.items ≡ p.requests.items
      → q.answers.items ≡ p.answers.items ++ a ∷ [] → q.stage ≡ stage.Between → IsTaskAt b table calls k q
  pause_ends w a is serves requests answers between =
      let d = call.Pause w.token in
      same_requests d a (stands_in (stage.Pauses w) is).0 refl (plain_makes d refl refl refl serves) requests answers between

  pub pause_left : (w v : PauseFace) → p.stage ≡ stage.Pauses w → v.token ≡ w.token → IsPauseAt b.config v at.between q.task
      → q.answers.items ≡ p.answers.items → q.requests.items ≡ p.requests.items → q.stage ≡ stage.Pauses v → IsTaskAt b table calls k q
  pause_left w v is same pauses answers requests now =
      task_stands b table calls k p q at answers requests
      (subst (Stands b.config (slice_get calls (length p.answers.items)) at.between q.task) (sym now)
      ((stands_in (stage.Pauses w) is).0 ∙ ap (λ t. Some (call.Pause t)) (sym same), pauses))

  -- ---- an OBTAIN

  pub obtain_ends : (w v : ObtainFace) (r : Result Obtained ObtainRefusal) (a : Answer) (token : Option LatchToken) → IsForScripts b.config
      → p.stage ≡ stage.Obtains w → (v.latch ≡ w.latch) × (v.requestor ≡ w.requestor) × (v.mode ≡ w.mode)
      → IsObtained b.config v r at.between q.task → a ≡ done_or obtained_told (obtain_answer r) → token ≡ token_in r
      → q.requests.items ≡ p.requests.items ++ token ∷ [] → q.answers.items ≡ p.answers.items ++ a ∷ [] → q.stage ≡ stage.Between
      → IsTaskAt b table calls k q
  obtain_ends w v r a token scripts is same obtained answer got put answers between =
      let d = call.Obtain v.latch v.requestor v.mode Waiting in
      let next : slice_get calls (length p.answers.items) ≡ Some d =
      rw (same.0, same.1, same.2) ((stands_in (stage.Obtains w) is).0) in
      task_on b table calls k p q at d a next
      (known_makes refl answer obtained.served
      (requests_more v.latch r token p.requests.items q.requests.items obtained.latch got put))
      (tokens_more v.latch r token p.requests.items q.requests.items obtained.latch got put
      (latch_low b.config v.latch v.requestor v.mode Waiting at.between q.task r scripts obtained.causes) at.requests)
      (ap (λ (rs : List (Option LatchToken)). length rs) put ∙ length-append p.requests.items (token ∷ [])) answers between

  pub obtain_left : (w v : ObtainFace) → p.stage ≡ stage.Obtains w
      → (v.latch ≡ w.latch) × (v.requestor ≡ w.requestor) × (v.mode ≡ w.mode) → IsObtainAt b.config v at.between q.task
      → q.answers.items ≡ p.answers.items → q.requests.items ≡ p.requests.items → q.stage ≡ stage.Obtains v → IsTaskAt b table calls k q
  obtain_left w v is same obtains answers requests now =
      task_stands b table calls k p q at answers requests
      (subst (Stands b.config (slice_get calls (length p.answers.items)) at.between q.task) (sym now)
      (rw (same.0, same.1, same.2) ((stands_in (stage.Obtains w) is).0), obtains))
