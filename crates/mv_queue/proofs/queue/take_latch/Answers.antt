use Rattle.mv_attach.proofs.Always.{served_grown}
use Rattle.mv_attach.proofs.Says.{always_obtain}
use Rattle.mv_wait.specs.Prelude.{BoardFace, CallerFace, kept_of, obtain, Refusal, Setup, IsServed}
use Rattle.mv_wait.specs.LatchCalls.{Requested}
use Rattle.mv_guarded.proofs.Holding.{HasTaken, holds_granted, takes_only}
use Rattle.mv_guarded.proofs.Quiet.{obtain_is_quiet}
use Rattle.mv_guarded.specs.Guarded.{HoldsLatch}
use Rattle.mv_wait.specs.Prelude.latch_op.{Obtain}
use Rattle.mv_wait.specs.Prelude.latch_form.{Waiting}
use Rattle.mv_wait.specs.Prelude.mode.{Exclusive}
use Rattle.mv_latchset.specs.Obtaining.{IsObtainedBy, IsOfLatch}
use Rattle.mv_ordered.specs.Held.{held}
use Rattle.mv_queue.proofs.Calls.{still_did}
use Rattle.mv_queue.proofs.Logs.{IsStill}
use Rattle.mv_queue.specs.Queue.{Did, IsReady}
use Rattle.std.proofs.Common.{List, Ok, Result, [], le_refl, subst, sym, ℕ, ◌∷◌, ◌≡◌, ◌≤◌}
use Rattle.mv_queue.proofs.queue.take_latch.Goals as goal

-- each task may have one request
obtain_did : (b : BoardFace) (requestor most : ℕ) (Is : Result Requested Refusal → Type 0) (has : List (ℕ × ℕ)) (t u : CallerFace)
    → IsServed most (obtain b.config 0 requestor Exclusive Waiting) Is t u → held u.log ≡ has → IsReady b t → Did b most [] [] has t u
obtain_did b requestor most Is has t u s latches r =
    let one = subst (λ (c : Setup). c.quota ≤ 1) (sym r.config.1) (le_refl 1) in
    still_did b most (obtain b.config 0 requestor Exclusive Waiting) Is has t u s
    (served_grown IsStill most (obtain b.config 0 requestor Exclusive Waiting) Is t u s
    (always_obtain IsStill b.config 0 requestor Exclusive (kept_of t.number t.log) tt (λ id. tt)))
    (obtain_is_quiet b.config 0 requestor most Exclusive Is t u s one).keeps latches r

pub returns-in_default : goal.returns-in_default
returns-in_default g c =
    let b = c.args.station.now in
    let t = c.args.task.now in
    let u = c.obtain.new.task in
    let has = takes_only b.config 0 _ _ Exclusive c.obtain.result t u c.obtain.ensures.served c.requires.bare in
    obtain_did b _ _ _ [] t u c.obtain.ensures.served (subst (HasTaken 0 [] (held u.log)) c.in_default.is has) c.requires.ready

pub returns : goal.returns
returns g c =
    let b = c.args.station.now in
    let t = c.args.task.now in
    let u = c.obtain.new.task in
    let served = c.obtain.ensures.served in
    let token = c.in-Granted.token in
    let has = takes_only b.config 0 _ _ Exclusive c.obtain.result t u served c.requires.bare in
    let by = subst (λ o. IsObtainedBy (Obtain 0 c.from-requestor.result Exclusive Waiting) 0 Waiting t o u) c.in-Granted.is
    c.in-Ok.ensures.causes.1 in record {
      did = obtain_did b _ _ _ ((0, token.id) ∷ []) t u served
          (subst (λ got. HasTaken 0 [] (held u.log) (Ok got)) c.in-Granted.is (subst (HasTaken 0 [] (held u.log)) c.in-Ok.is has))
          c.requires.ready;
      holds = subst (λ k. HoldsLatch 0 Exclusive k u.log) (sym served.same.number)
          (holds_granted 0 Exclusive c.from-requestor.result t u token by);
      latch = subst (IsOfLatch 0) c.in-Granted.is c.in-Ok.ensures.latch;
    }
