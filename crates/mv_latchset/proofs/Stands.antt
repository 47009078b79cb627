-- Which requests stand after an event on the latch set.
use Rattle.std.proofs.Common.{◌≡◌, ℕ, ◌==◌, true, refl, sym, ap, ◌∙◌, subst}
use Rattle.std.specs.List.{list_any}
use Rattle.std.proofs.lemmas.Bool.{eq-eqb}
use Rattle.mv_latch.specs.declared.operation.LatchOp.{LatchOp}
use Rattle.mv_latch.specs.declared.operation.LatchOp.TheVariants.{Obtain, Confirm}
use Rattle.mv_latch.specs.declared.operation.LatchReply.{LatchReply}
use Rattle.mv_latch.specs.declared.operation.LatchReply.TheVariants.{Granted, Queued}
use Rattle.mv_latch.specs.declared.request.LatchForm.{LatchForm}
use Rattle.mv_latch.specs.declared.request.Mode.{Mode}
use Rattle.mv_latch.proofs.Joined.{some_any}
use Rattle.mv_machine.specs.declared.entry.Object.TheVariants.{Latches}
use Rattle.mv_machine.specs.declared.entry.Op.TheVariants as op_on
use Rattle.mv_machine.specs.declared.entry.Reply.TheVariants as reply_of
use Rattle.mv_machine.specs.Kept.{stands_after, HasMade}
use Rattle.mv_board.specs.Faces.{CallerFace}
use Rattle.mv_board.proofs.Acting.{made_more}
use Rattle.mv_calls.specs.Keeping.{Kept, kept_of}
use Rattle.mv_wait.proofs.Runs.{entry_of, went_log}
use Rattle.mv_wait.proofs.Waits.{kept_one}
use Rattle.mv_latchset.specs.Obtaining.{IsAnswered, IsRequestSettled}
use Rattle.mv_latchset.specs.Token.{stands}

-- what is kept of requests after the event
requests_after : (t u : CallerFace) (op : LatchOp) (r : LatchReply) → IsAnswered op r t u
    → (kept_of u.number u.log).requests ≡ stands_after (kept_of t.number t.log).caller (kept_of t.number t.log).requests op r
requests_after t u op r h =
    (λ i. (kept_of (h.1.same.number i) (h.1.logged i)).requests)
    ∙ ap (λ (q : Kept). q.requests) (kept_one t.number t.log (entry_of t Latches h.0 (op_on.Latch op) (reply_of.Latch r)))

-- one that was granted, or queued, stands
pub granted_stands : (t u : CallerFace) (latch requestor : ℕ) (mode : Mode) (form : LatchForm) (id : ℕ)
    → IsAnswered (Obtain latch requestor mode form) (Granted id) t u → stands u id ≡ true
granted_stands t u latch requestor mode form id h =
    ap (list_any (λ r. r.request.id == id)) (requests_after t u (Obtain latch requestor mode form) (Granted id) h)
    ∙ some_any (λ r. r.request.id == id) (kept_of t.number t.log).requests _ (eq-eqb id id refl)

pub queued_stands : (t u : CallerFace) (latch requestor : ℕ) (mode : Mode) (form : LatchForm) (id : ℕ)
    → IsAnswered (Obtain latch requestor mode form) (Queued id) t u → stands u id ≡ true
queued_stands t u latch requestor mode form id h =
    ap (list_any (λ r. r.request.id == id)) (requests_after t u (Obtain latch requestor mode form) (Queued id) h)
    ∙ some_any (λ r. r.request.id == id) (kept_of t.number t.log).requests _ (eq-eqb id id refl)

-- and the task made it
pub queued_is_made : (t u : CallerFace) (latch requestor : ℕ) (mode : Mode) (form : LatchForm) (id : ℕ)
    → IsAnswered (Obtain latch requestor mode form) (Queued id) t u → HasMade latch id u.log
queued_is_made t u latch requestor mode form id h =
    subst (HasMade latch id) (sym h.1.logged)
    (made_more latch id t.log (entry_of t Latches h.0 (op_on.Latch (Obtain latch requestor mode form)) (reply_of.Latch (Queued id)))
    (rw (eq-eqb latch latch refl, eq-eqb id id refl) refl))

-- one that its confirm finds granted stands as before
pub settled_stands : (t u : CallerFace) (latch id : ℕ) → IsRequestSettled latch id t true u → stands t id ≡ true → stands u id ≡ true
settled_stands t u latch id s is =
    let v = s.awaited in
    ap (list_any (λ r. r.request.id == id)) (requests_after v u (Confirm latch id) (Granted id) s.confirmed)
    ∙ (λ i. list_any (λ r. r.request.id == id) (kept_of (s.waited.same.number i) (went_log t v s.waited i)).requests) ∙ is
