-- An obtain, by what its event was answered.
use Rattle.std.proofs.Common.{◌≡◌, ℕ, ◌≤◌, nat_lt, Bool, true, false, Result, Ok, Err, Some, None, refl, sym, ap, subst, arith}
use Rattle.mv_latch.specs.declared.operation.LatchOp.TheVariants.{Obtain, Confirm}
use Rattle.mv_latch.specs.declared.operation.LatchReply.TheVariants as latch_reply
use Rattle.mv_latch.specs.declared.request.LatchForm.{LatchForm}
use Rattle.mv_latch.specs.declared.request.LatchForm.TheVariants as form_of
use Rattle.mv_latch.specs.declared.request.Mode.{Mode}
use Rattle.mv_machine.specs.declared.entry.Object.TheVariants.{Latches}
use Rattle.mv_machine.specs.declared.entry.Op.TheVariants as op_on
use Rattle.mv_machine.specs.Kept.{keeps_quotas}
use Rattle.mv_config.specs.Setup.{Setup}
use Rattle.mv_machine.specs.System.{posts_own_ecb}
use Rattle.mv_board.specs.Faces.{CallerFace}
use Rattle.mv_calls.specs.Keeping.{kept_of}
use Rattle.mv_calls.specs.LatchCalls.{Requested, GrantedAs, PendingAs, obtain, obtain_refusal, obtained, confirmed}
use Rattle.mv_calls.specs.Program.{Program, Do, Done, on_latch, unless_refused}
use Rattle.mv_calls.specs.Refusal.{Refusal}
use Rattle.mv_calls.specs.Refusal as refusal
use Rattle.mv_calls.specs.Rest.{IsAtRest}
use Rattle.mv_calls.specs.Services.{obtain_events}
use Rattle.mv_wait.specs.Run.{Runs, IsServed}
use Rattle.mv_wait.proofs.LatchSteps.{latch_runs}
use Rattle.mv_wait.proofs.Runs.{runs_then, runs_within}
use Rattle.mv_wait.proofs.Steps.{looked_runs, served_by, done_served}
use Rattle.mv_latchset.specs.declared.obtaining.ObtainRefusal.{ObtainRefusal}
use Rattle.mv_latchset.specs.declared.obtaining.ObtainRefusal.TheVariants as refused
use Rattle.mv_latchset.specs.Answers.{obtain_refused}
use Rattle.mv_latchset.specs.Obtaining.{IsAnswered, IsQueuedAndSettled, IsRefusedBy, settled_reply}
use Rattle.mv_latchset.specs.Replies.{IsPosted}
use Rattle.mv_latchset.proofs.Admits.{not_before, no_purge_before}
use Rattle.mv_latchset.proofs.Resting.{unqueued_rests, pending_rests, settled_rests}

-- an obtain may need an event, and one of the Waiting form two
pub some_events : (form : LatchForm) → 1 ≤ obtain_events form
some_events form_of.Conditional = omega arith
some_events form_of.Waiting = omega arith
some_events (form_of.Posted e) = omega arith

-- and no more than two
pub few_events : (form : LatchForm) → obtain_events form ≤ 2
few_events form_of.Conditional = omega arith
few_events form_of.Waiting = omega arith
few_events (form_of.Posted e) = omega arith

-- what is asked for, and the requestor, the mode and the form of the request
module _ (c : Setup) (latch requestor : ℕ) (mode : Mode) (form : LatchForm) where
  -- the program behind the refusals
  abbrev asked : Program (Result Requested Refusal)
  asked = Do Latches (op_on.Latch (Obtain latch requestor mode form)) (λ h. on_latch h.entry.reply (obtained latch form))

  -- nothing refuses the task's request before its event
  abbrev pub IsAllowed : CallerFace → Type 0
  IsAllowed t = obtain_refusal c latch requestor mode form (kept_of t.number t.log) ≡ None

  -- a program that was run to its end behind them
  obtain_served : (Is : Result Requested Refusal → Type 0) (t u : CallerFace) (a : Result Requested Refusal) → IsAllowed t
      → Runs (obtain_events form) asked (Done a) t u → IsAtRest t.log → IsAtRest u.log → Is a
      → IsServed (obtain_events form) (obtain c latch requestor mode form) Is t u
  obtain_served Is t u a none runs began rest is = served_by (obtain_events form) (obtain c latch requestor mode form) Is t u asked a
      (ap (λ r. unless_refused r asked) none) runs began rest is

  -- refused before its event
  pub stopped : (Is : Result Requested Refusal → Type 0) (t : CallerFace) (why : Refusal)
      → obtain_refusal c latch requestor mode form (kept_of t.number t.log) ≡ Some why → IsAtRest t.log → Is (Err why)
      → IsServed (obtain_events form) (obtain c latch requestor mode form) Is t t
  stopped Is t why some rest is =
      done_served (obtain_events form) (obtain c latch requestor mode form) Is t (Err why) (ap (λ r. unless_refused r asked) some) rest is

  -- and that is its cause
  pub stopped_by : (t : CallerFace) (why : ObtainRefusal)
      → obtain_refusal c latch requestor mode form (kept_of t.number t.log) ≡ Some (obtain_refused why)
      → IsRefusedBy c latch requestor mode form t why t
  stopped_by t refused.BadLatch some = (some, refl)
  stopped_by t refused.NotOwner some = (some, refl)
  stopped_by t refused.Quota some = (some, refl)
  stopped_by t (refused.NotNow id) some = absurd (not_before (nat_lt latch c.latches)
      (posts_own_ecb c (kept_of t.number t.log).caller (Obtain latch requestor mode form))
      (keeps_quotas c (kept_of t.number t.log).requests form) id some)
  stopped_by t refused.Purged some = absurd (no_purge_before (nat_lt latch c.latches)
      (posts_own_ecb c (kept_of t.number t.log).caller (Obtain latch requestor mode form))
      (keeps_quotas c (kept_of t.number t.log).requests form) some)

  -- granted at once
  pub granted_served : (Is : Result Requested Refusal → Type 0) (t u : CallerFace) (id : ℕ) → IsAllowed t
      → IsAnswered (Obtain latch requestor mode form) (latch_reply.Granted id) t u → IsAtRest t.log → Is (Ok (GrantedAs id))
      → IsServed (obtain_events form) (obtain c latch requestor mode form) Is t u
  granted_served Is t u id none h began is =
      obtain_served Is t u (Ok (GrantedAs id)) none
      (runs_within 1 (obtain_events form) asked (Done (Ok (GrantedAs id))) t u (some_events form)
      (latch_runs (λ ws. obtained latch form) (Done (Ok (GrantedAs id))) t u (Obtain latch requestor mode form) (latch_reply.Granted id)
      h refl)) began (unqueued_rests t u latch requestor mode form (latch_reply.Granted id) (λ w. refl) h began) is

  -- not made, since another stands in its way
  pub not_now_served : (Is : Result Requested Refusal → Type 0) (t u : CallerFace) (id : ℕ) → IsAllowed t → form ≡ form_of.Conditional
      → IsAnswered (Obtain latch requestor mode form) (latch_reply.NotNow id) t u → IsAtRest t.log → Is (Err (refusal.NotNow id))
      → IsServed (obtain_events form) (obtain c latch requestor mode form) Is t u
  not_now_served Is t u id none is_form h began is =
      obtain_served Is t u (Err (refusal.NotNow id)) none
      (runs_within 1 (obtain_events form) asked (Done (Err (refusal.NotNow id))) t u (some_events form)
      (latch_runs (λ ws. obtained latch form) (Done (Err (refusal.NotNow id))) t u (Obtain latch requestor mode form)
      (latch_reply.NotNow id) h (ap (λ f. obtained latch f (latch_reply.NotNow id)) is_form)))
      began (unqueued_rests t u latch requestor mode form (latch_reply.NotNow id) (λ w. refl) h began) is

  -- queued, and a block is to be posted
  pub pending_served : (Is : Result Requested Refusal → Type 0) (t u : CallerFace) (id : ℕ) → IsAllowed t → IsPosted form
      → IsAnswered (Obtain latch requestor mode form) (latch_reply.Queued id) t u → IsAtRest t.log → Is (Ok (PendingAs id))
      → IsServed (obtain_events form) (obtain c latch requestor mode form) Is t u
  pending_served Is t u id none posted h began is =
      obtain_served Is t u (Ok (PendingAs id)) none
      (runs_within 1 (obtain_events form) asked (Done (Ok (PendingAs id))) t u (some_events form)
      (latch_runs (λ ws. obtained latch form) (Done (Ok (PendingAs id))) t u (Obtain latch requestor mode form)
      (latch_reply.Queued id) h (ap (λ f. obtained latch f (latch_reply.Queued id)) posted.1)))
      began (pending_rests t u latch requestor mode form posted.0 id posted.1 h began) is

  -- what a confirm of one that no longer waits comes to
  abbrev pub found_as : ℕ → Bool → Result Requested Refusal
  found_as id true = Ok (GrantedAs id)
  found_as id false = Err refusal.Purged

  found_is : (id : ℕ) (granted : Bool) → confirmed id (settled_reply id granted) ≡ Done (found_as id granted)
  found_is id true = refl
  found_is id false = refl

  -- queued, waited for and confirmed
  pub settled_served : (Is : Result Requested Refusal → Type 0) (t u : CallerFace) (id : ℕ) (granted : Bool) → IsAllowed t
      → form ≡ form_of.Waiting → IsQueuedAndSettled (Obtain latch requestor mode form) latch id t granted u → IsAtRest t.log
      → Is (found_as id granted) → IsServed (obtain_events form) (obtain c latch requestor mode form) Is t u
  settled_served Is t u id granted none waits q began is =
      let v = q.waiting in
      let s = q.settled in
      let confirm : Program (Result Requested Refusal) =
      Do Latches (op_on.Latch (Confirm latch id)) (λ h. on_latch h.entry.reply (confirmed id)) in
      obtain_served Is t u (found_as id granted) none
      (runs_within 2 (obtain_events form) asked (Done (found_as id granted)) t u
      (subst (λ f. 2 ≤ obtain_events f) (sym waits) (omega arith))
      (runs_then 1 1 asked confirm (Done (found_as id granted)) t v u
      (latch_runs (λ ws. obtained latch form) confirm t v (Obtain latch requestor mode form) (latch_reply.Queued id) q.queued
      (ap (λ f. obtained latch f (latch_reply.Queued id)) waits))
      (looked_runs 1 confirm (Done (found_as id granted)) v s.awaited u s.waited
      (latch_runs (λ ws. confirmed id) (Done (found_as id granted)) s.awaited u (Confirm latch id) (settled_reply id granted)
      s.confirmed (found_is id granted)))))
      began
      (settled_rests t v u latch requestor mode id granted
      (subst (λ f. IsAnswered (Obtain latch requestor mode f) (latch_reply.Queued id) t v) waits q.queued) s began) is
