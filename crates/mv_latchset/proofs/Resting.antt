-- Which waits are open after events on the latch set.
use Rattle.std.proofs.Common.{◌≡◌, ℕ, ◌==◌, Bool, true, false, refl, sym, subst}
use Rattle.std.proofs.lemmas.Bool.{eq-eqb}
use Rattle.mv_latch.specs.declared.operation.LatchOp.TheVariants.{Obtain, Confirm, Release, Purge}
use Rattle.mv_latch.specs.declared.operation.LatchReply.{LatchReply}
use Rattle.mv_latch.specs.declared.operation.LatchReply.TheVariants.{Queued}
use Rattle.mv_latch.specs.declared.request.LatchForm.{LatchForm}
use Rattle.mv_latch.specs.declared.request.LatchForm.TheVariants as form_of
use Rattle.mv_latch.specs.declared.request.Mode.{Mode}
use Rattle.mv_machine.specs.declared.entry.Object.TheVariants.{Latches}
use Rattle.mv_machine.specs.declared.entry.Op.TheVariants as op_on
use Rattle.mv_machine.specs.declared.entry.Reply.TheVariants as reply_of
use Rattle.mv_machine.specs.System.{with_at}
use Rattle.mv_board.specs.Faces.{CallerFace}
use Rattle.mv_calls.specs.Rest.{OpenWaits, AreNone, IsAtRest, waits_after, open_waits}
use Rattle.mv_wait.proofs.Runs.{went_log}
use Rattle.mv_wait.proofs.Steps.{waits_one, still_at_rest}
use Rattle.mv_latchset.specs.Obtaining.{IsAnswered, IsRequestSettled, settled_reply}

-- ---- events that open no wait

-- of an obtain, where its reply opens none if it is to wait
pub unqueued_rests : (t u : CallerFace) (latch requestor : ℕ) (mode : Mode) (form : LatchForm) (r : LatchReply)
    → ((w : OpenWaits)
    → waits_after w Latches (op_on.Latch (Obtain latch requestor mode form_of.Waiting)) (reply_of.Latch r) ≡ w)
    → IsAnswered (Obtain latch requestor mode form) r t u → IsAtRest t.log → IsAtRest u.log
unqueued_rests t u latch requestor mode form r opens_none h rest =
    still_at_rest t u Latches (op_on.Latch (Obtain latch requestor mode form)) (reply_of.Latch r) h (go form) rest where
      go : (f : LatchForm) (w : OpenWaits)
          → waits_after w Latches (op_on.Latch (Obtain latch requestor mode f)) (reply_of.Latch r) ≡ w
      go form_of.Conditional w = refl
      go form_of.Waiting w = opens_none w
      go (form_of.Posted e) w = refl

pub pending_rests : (t u : CallerFace) (latch requestor : ℕ) (mode : Mode) (form : LatchForm) (ecb id : ℕ) → form ≡ form_of.Posted ecb
    → IsAnswered (Obtain latch requestor mode form) (Queued id) t u → IsAtRest t.log → IsAtRest u.log
pending_rests t u latch requestor mode form ecb id is h rest =
    still_at_rest t u Latches (op_on.Latch (Obtain latch requestor mode form)) (reply_of.Latch (Queued id)) h
    (λ w. subst (λ f. waits_after w Latches (op_on.Latch (Obtain latch requestor mode f)) (reply_of.Latch (Queued id)) ≡ w) (sym is) refl)
    rest

pub release_rests : (t u : CallerFace) (latch id : ℕ) (conditional : Bool) (r : LatchReply)
    → IsAnswered (Release latch id conditional) r t u → IsAtRest t.log → IsAtRest u.log
release_rests t u latch id conditional r h rest =
    still_at_rest t u Latches (op_on.Latch (Release latch id conditional)) (reply_of.Latch r) h (λ w. refl) rest

pub purge_rests : (t u : CallerFace) (requestor : ℕ) (r : LatchReply) → IsAnswered (Purge requestor) r t u → IsAtRest t.log
    → IsAtRest u.log
purge_rests t u requestor r h rest =
    still_at_rest t u Latches (op_on.Latch (Purge requestor)) (reply_of.Latch r) h (λ w. refl) rest

-- ---- a confirm ends its request's wait, if it was open

-- no wait is open but, maybe, that of one request
pub record AreNoneBut (latch id : ℕ) (w : OpenWaits) : Type 0 where
  pub armed : (n : ℕ) → w.armed n ≡ false
  pub parked : (n : ℕ) → w.parked n ≡ false
  pub latches : (l i : ℕ) → (l == latch) ≡ false → w.queued l i ≡ false
  pub requests : (i : ℕ) → (i == id) ≡ false → w.queued latch i ≡ false

-- where none is, there is none but that
none_but : (latch id : ℕ) (w : OpenWaits) → AreNone w → AreNoneBut latch id w
none_but latch id w none = record {
  armed = none.armed;
  parked = none.parked;
  latches = λ l i other. none.queued l i;
  requests = λ i other. none.queued latch i;
}

-- behind a request that is queued there is its own
but_queued : (latch requestor : ℕ) (mode : Mode) (id : ℕ) (w : OpenWaits) → AreNone w
    → AreNoneBut latch id
    (waits_after w Latches (op_on.Latch (Obtain latch requestor mode form_of.Waiting)) (reply_of.Latch (Queued id)))
but_queued latch requestor mode id w none = record {
  armed = none.armed;
  parked = none.parked;
  latches = λ l i other. rw other (none.queued l i);
  requests = λ i other. rw (eq-eqb latch latch refl, other) (none.queued latch i);
}

-- the confirm of that request leaves none
confirm_ends : (latch id : ℕ) (w : OpenWaits) (r : LatchReply) → AreNoneBut latch id w
    → AreNone (waits_after w Latches (op_on.Latch (Confirm latch id)) (reply_of.Latch r))
confirm_ends latch id w r but = record {
  armed = but.armed;
  parked = but.parked;
  queued = λ l i. go l i (l == latch) (i == id) refl refl;
} where
  go : (l i : ℕ) (a b : Bool) → (l == latch) ≡ a → (i == id) ≡ b
      → with_at w.queued latch (with_at (w.queued latch) id false) l i ≡ false
  go l i false b p q = rw p (but.latches l i p)
  go l i true false p q = rw (p, q) (but.requests i q)
  go l i true true p q = rw (p, q) refl

-- the task is at rest after a confirm, as before
pub confirm_rests : (t u : CallerFace) (latch id : ℕ) (r : LatchReply) → IsAnswered (Confirm latch id) r t u → IsAtRest t.log
    → IsAtRest u.log
confirm_rests t u latch id r h rest =
    subst AreNone (sym (waits_one t u Latches (op_on.Latch (Confirm latch id)) (reply_of.Latch r) h))
    (confirm_ends latch id (open_waits t.log) r (none_but latch id (open_waits t.log) rest))

-- and after the confirm of a request that was queued and waited for
pub settled_rests : (t v u : CallerFace) (latch requestor : ℕ) (mode : Mode) (id : ℕ) (granted : Bool)
    → IsAnswered (Obtain latch requestor mode form_of.Waiting) (Queued id) t v → IsRequestSettled latch id v granted u → IsAtRest t.log
    → IsAtRest u.log
settled_rests t v u latch requestor mode id granted h s rest =
    subst AreNone (sym (waits_one s.awaited u Latches (op_on.Latch (Confirm latch id))
    (reply_of.Latch (settled_reply id granted)) s.confirmed))
    (confirm_ends latch id (open_waits s.awaited.log) (settled_reply id granted)
    (subst (λ log. AreNoneBut latch id (open_waits log)) (sym (went_log v s.awaited s.waited))
    (subst (AreNoneBut latch id)
    (sym (waits_one t v Latches (op_on.Latch (Obtain latch requestor mode form_of.Waiting)) (reply_of.Latch (Queued id)) h))
    (but_queued latch requestor mode id (open_waits t.log) rest))))
