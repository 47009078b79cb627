-- An obtain that goes on, between its two events.
use Rattle.std.proofs.Common.{◌≡◌, ℕ, ◌<◌, ◌≤◌, Bool, true, false, [], Ok, Err, None, inr, refl, sym, ap, subst, arith}
use Rattle.std.proofs.lemmas.Bool.{ltb-true}
use Rattle.mv_latch.specs.declared.operation.LatchOp.TheVariants.{Obtain, Confirm}
use Rattle.mv_latch.specs.declared.operation.LatchReply.TheVariants as latch_reply
use Rattle.mv_latch.specs.declared.request.LatchForm.{LatchForm}
use Rattle.mv_latch.specs.declared.request.LatchForm.TheVariants.{Waiting}
use Rattle.mv_latch.specs.declared.request.Mode.{Mode}
use Rattle.mv_machine.specs.Kept.{HasMade}
use Rattle.mv_config.specs.Setup.{Setup}
use Rattle.mv_board.specs.Faces.{CallerFace, IsSame}
use Rattle.mv_calls.specs.Keeping.{kept_of}
use Rattle.mv_calls.specs.LatchCalls.{GrantedAs, obtain_refusal}
use Rattle.mv_calls.specs.Refusal as refusal
use Rattle.mv_calls.specs.Rest.{IsAtRest}
use Rattle.mv_calls.specs.Services.{obtain_events}
use Rattle.mv_wait.specs.Run.{Went}
use Rattle.mv_wait.proofs.Runs.{same_then, went_log, went_none, went_then}
use Rattle.mv_latchset.specs.Obtaining.{IsAnswered, IsRequestSettled, IsQueuedAndSettled, settled_reply}
use Rattle.mv_latchset.specs.Polling.{IsObtaining, IsObtainMade}
use Rattle.mv_latchset.specs.Token.{stands}
use Rattle.mv_latchset.specs.declared.obtaining.ObtainRefusal.TheVariants as refused
use Rattle.mv_latchset.specs.declared.obtaining.Obtained.TheVariants as obtained
use Rattle.mv_latchset.specs.declared.token.LatchToken.{LatchToken}
use Rattle.mv_latchset.proofs.Admits.{may_be_asked}
use Rattle.mv_latchset.proofs.Obtains.{settled_served}
use Rattle.mv_latchset.proofs.Stands.{queued_stands, queued_is_made, settled_stands}

-- the obtain was queued, by its first event
pub obtaining_begun : (c : Setup) (latch requestor : ℕ) (mode : Mode) (form : LatchForm) (id : ℕ) (t u : CallerFace) → form ≡ Waiting
    → IsAtRest t.log → obtain_events form ≤ t.left → obtain_refusal c latch requestor mode form (kept_of t.number t.log) ≡ None
    → IsAnswered (Obtain latch requestor mode form) (latch_reply.Queued id) t u → IsObtaining c latch requestor mode id t u
obtaining_begun c latch requestor mode form id t u is rest left none h = record {
  may = record { rest = rest; left = subst (λ f. obtain_events f ≤ t.left) is left };
  accepted = subst (λ f. obtain_refusal c latch requestor mode f (kept_of t.number t.log) ≡ None) is none;
  queued = u;
  event = subst (λ f. IsAnswered (Obtain latch requestor mode f) (latch_reply.Queued id) t u) is h;
  since = went_none u;
}

module _ (c : Setup) (latch requestor : ℕ) (mode : Mode) (id : ℕ) (t0 t : CallerFace) (p : IsObtaining c latch requestor mode id t0 t) where
  -- it is the same task
  pub obtaining_same : IsSame t0 t
  obtaining_same = same_then t0 p.queued t p.event.1.same p.since.same

  -- there is such a latch
  pub obtaining_latch : latch < c.latches
  obtaining_latch =
      let may = may_be_asked c latch requestor mode Waiting (kept_of t0.number t0.log) p.accepted in ltb-true latch c.latches may.there

  -- the task made the request
  pub obtaining_made : HasMade latch id t.log
  obtaining_made = subst (HasMade latch id) (sym (went_log p.queued t p.since))
      (queued_is_made t0 p.queued latch requestor mode Waiting id p.event)

  -- an event is left
  pub obtaining_left : 0 < t.left
  obtaining_left =
      let much = p.may.left in
      let first = p.event.1.left in
      let since = p.since.left in omega arith

  -- looks make no difference
  pub obtaining_look : (u : CallerFace) → Went [] t u → IsObtaining c latch requestor mode id t0 u
  obtaining_look u looks = record {
    may = p.may;
    accepted = p.accepted;
    queued = p.queued;
    event = p.event;
    since = went_then [] [] p.queued t u p.since looks;
  }

  settles : (granted : Bool) (u : CallerFace) → IsAnswered (Confirm latch id) (settled_reply id granted) t u
      → IsRequestSettled latch id p.queued granted u
  settles granted u h = record { awaited = t; waited = p.since; confirmed = h }

  all_settled : (granted : Bool) (u : CallerFace) → IsAnswered (Confirm latch id) (settled_reply id granted) t u
      → IsQueuedAndSettled (Obtain latch requestor mode Waiting) latch id t0 granted u
  all_settled granted u h = record { waiting = p.queued; queued = p.event; settled = settles granted u h }

  -- the request stands behind its confirm, where it is granted
  pub obtaining_stands : (u : CallerFace) → IsAnswered (Confirm latch id) (settled_reply id true) t u → stands u id ≡ true
  obtaining_stands u h =
      settled_stands p.queued u latch id (settles true u h) (queued_stands t0 p.queued latch requestor mode Waiting id p.event)

  -- its end
  pub obtaining_granted : (u : CallerFace) (token : LatchToken) → IsAnswered (Confirm latch id) (settled_reply id true) t u
      → token.latch ≡ latch → token.id ≡ id → IsObtainMade c latch requestor mode Waiting t0 (Ok (obtained.Granted token)) u
  obtaining_granted u token h there is = record {
    served = settled_served c latch requestor mode Waiting (λ x. x ≡ Ok (GrantedAs token.id)) t0 u id true p.accepted refl
        (all_settled true u h) p.may.rest (ap (λ i. Ok (GrantedAs i)) (sym is));
    causes = (
      p.accepted,
      inr (
        refl,
        subst (λ n. IsQueuedAndSettled (Obtain latch requestor mode Waiting) latch n t0 true u) (sym is) (all_settled true u h),
      ),
    );
    there = there;
  }

  pub obtaining_purged : (u : CallerFace) → IsAnswered (Confirm latch id) (settled_reply id false) t u
      → IsObtainMade c latch requestor mode Waiting t0 (Err refused.Purged) u
  obtaining_purged u h = record {
    served = settled_served c latch requestor mode Waiting (λ x. x ≡ Err refusal.Purged) t0 u id false p.accepted refl
        (all_settled false u h) p.may.rest refl;
    causes = (p.accepted, refl, (id, all_settled false u h));
    there = tt;
  }
