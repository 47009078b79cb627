-- What an event on the latch set is answered, and the wakes that it shows.
use Rattle.std.proofs.Common.{◌≡◌, ℕ, Bool, true, false, List, [], ◌∷◌, ◌++◌, refl, ap, ◌∙◌, subst}
use Rattle.mv_latch.specs.declared.operation.LatchOp.{LatchOp}
use Rattle.mv_latch.specs.declared.operation.LatchOp.TheVariants.{Obtain, Confirm, Release, Purge}
use Rattle.mv_latch.specs.declared.operation.LatchReply.TheVariants as latch_reply
use Rattle.mv_latch.specs.declared.operation.Wake.{Wake}
use Rattle.mv_latch.specs.declared.request.LatchForm.{LatchForm}
use Rattle.mv_latch.specs.declared.request.Mode.{Mode}
use Rattle.mv_machine.specs.declared.entry.Entry.{Entry}
use Rattle.mv_machine.specs.declared.entry.Object.TheVariants.{Latches}
use Rattle.mv_machine.specs.declared.entry.Op.TheVariants as op_on
use Rattle.mv_machine.specs.declared.entry.Reply.{Reply}
use Rattle.mv_machine.specs.declared.entry.Reply.TheVariants as reply_of
use Rattle.mv_machine.specs.Legal.{after}
use Rattle.mv_machine.specs.Parts.{IsPossible}
use Rattle.mv_machine.specs.Replies.{OnLatch, IsLatchReply}
use Rattle.mv_config.specs.Setup.{Setup}
use Rattle.mv_machine.specs.Waking.{AreFairWakes}
use Rattle.mv_board.specs.Faces.{CallerFace, Happened}
use Rattle.mv_calls.proofs.LatchReplies.{latch_says}
use Rattle.mv_calls.proofs.Uses.{wakes_heard}
use Rattle.mv_wait.proofs.Answering.{made_behind}
use Rattle.mv_wait.proofs.Runs.{entry_of}
use Rattle.mv_latchset.specs.Obtaining.{settled_reply}
use Rattle.mv_latchset.specs.Replies.{HasGrant}
use Rattle.mv_latchset.specs.Says.{SaysAsked, SaysStanding, SaysReleased, SaysPurged}

-- the reply is one of the operation's
pub latch_answers : (c : Setup) (t u : CallerFace) (op : LatchOp) (reply : Reply) → Happened t Latches (op_on.Latch op) reply u
    → IsPossible c u.number u.log u.told → (place : ℕ) × OnLatch (IsLatchReply place op) reply
latch_answers c t u op reply h p =
    let b = made_behind c t u Latches h.0 (op_on.Latch op) reply h.1 p in (
      (after c b.before).latches.place,
      latch_says c (after c b.before) (entry_of t Latches h.0 (op_on.Latch op) reply) op b.follows refl refl,
    )

-- the wakes that it shows are fair
pub fair_wakes : (c : Setup) (t u : CallerFace) (op : LatchOp) (reply : Reply) → Happened t Latches (op_on.Latch op) reply u
    → IsPossible c u.number u.log u.told → AreFairWakes c u.wakes
fair_wakes c t u op reply h p =
    let e = entry_of t Latches h.0 (op_on.Latch op) reply in
    let q : IsPossible c t.number (t.log ++ e ∷ []) (t.told ++ u.wakes ∷ []) =
    subst (λ (z : ℕ × List Entry × List (List Wake)). IsPossible c z.0 z.1 z.2)
    (λ i. (h.1.same.number i, h.1.logged i, h.1.shown i)) p in
    wakes_heard c t.number t.log e op t.told u.wakes q refl refl

-- what is asked of each operation's reply
asked_of : (place latch requestor : ℕ) (mode : Mode) (form : LatchForm) (reply : Reply)
    → OnLatch (IsLatchReply place (Obtain latch requestor mode form)) reply → SaysAsked form reply
asked_of place latch requestor mode form (reply_of.Latch (latch_reply.Granted id)) h = tt
asked_of place latch requestor mode form (reply_of.Latch (latch_reply.Queued id)) h = h.1
asked_of place latch requestor mode form (reply_of.Latch (latch_reply.NotNow id)) h = h
asked_of place latch requestor mode form reply h = absurd h

standing_of : (place latch id : ℕ) (reply : Reply) → OnLatch (IsLatchReply place (Confirm latch id)) reply → SaysStanding reply
standing_of place latch id (reply_of.Latch (latch_reply.Granted found)) h = tt
standing_of place latch id (reply_of.Latch latch_reply.Waiting) h = tt
standing_of place latch id (reply_of.Latch latch_reply.Gone) h = tt
standing_of place latch id reply h = absurd h

released_of : (place latch id : ℕ) (conditional : Bool) (reply : Reply)
    → OnLatch (IsLatchReply place (Release latch id conditional)) reply → SaysReleased reply
released_of place latch id conditional (reply_of.Latch (latch_reply.Released granted)) h = tt
released_of place latch id conditional (reply_of.Latch latch_reply.Gone) h = tt
released_of place latch id conditional (reply_of.Latch latch_reply.Waiting) h = tt
released_of place latch id conditional reply h = absurd h

purged_of : (place requestor : ℕ) (reply : Reply) → OnLatch (IsLatchReply place (Purge requestor)) reply → SaysPurged reply
purged_of place requestor (reply_of.Latch (latch_reply.Purged removed granted)) h = tt
purged_of place requestor reply h = absurd h

pub says_asked : (c : Setup) (t u : CallerFace) (latch requestor : ℕ) (mode : Mode) (form : LatchForm) (reply : Reply)
    → Happened t Latches (op_on.Latch (Obtain latch requestor mode form)) reply u → IsPossible c u.number u.log u.told
    → SaysAsked form reply
says_asked c t u latch requestor mode form reply h p =
    let a = latch_answers c t u (Obtain latch requestor mode form) reply h p in asked_of a.0 latch requestor mode form reply a.1

pub says_standing : (c : Setup) (t u : CallerFace) (latch id : ℕ) (reply : Reply)
    → Happened t Latches (op_on.Latch (Confirm latch id)) reply u → IsPossible c u.number u.log u.told → SaysStanding reply
says_standing c t u latch id reply h p =
    let a = latch_answers c t u (Confirm latch id) reply h p in standing_of a.0 latch id reply a.1

pub says_released : (c : Setup) (t u : CallerFace) (latch id : ℕ) (conditional : Bool) (reply : Reply)
    → Happened t Latches (op_on.Latch (Release latch id conditional)) reply u → IsPossible c u.number u.log u.told
    → SaysReleased reply
says_released c t u latch id conditional reply h p =
    let a = latch_answers c t u (Release latch id conditional) reply h p in released_of a.0 latch id conditional reply a.1

pub says_purged : (c : Setup) (t u : CallerFace) (requestor : ℕ) (reply : Reply)
    → Happened t Latches (op_on.Latch (Purge requestor)) reply u → IsPossible c u.number u.log u.told → SaysPurged reply
says_purged c t u requestor reply h p =
    let a = latch_answers c t u (Purge requestor) reply h p in purged_of a.0 requestor reply a.1

-- a release is answered Waiting only where it is conditional
pub waits_conditionally : (c : Setup) (t u : CallerFace) (latch id : ℕ) (conditional : Bool)
    → Happened t Latches (op_on.Latch (Release latch id conditional)) (reply_of.Latch latch_reply.Waiting) u
    → IsPossible c u.number u.log u.told → conditional ≡ true
waits_conditionally c t u latch id conditional h p =
    (latch_answers c t u (Release latch id conditional) (reply_of.Latch latch_reply.Waiting) h p).1

-- a confirm that finds a request granted names that request
pub settled_as : (place latch id : ℕ) (reply : Reply) (granted : Bool) → OnLatch (IsLatchReply place (Confirm latch id)) reply
    → HasGrant reply granted → reply ≡ reply_of.Latch (settled_reply id granted)
settled_as place latch id reply true says has =
    has.1 ∙ ap (λ n. reply_of.Latch (latch_reply.Granted n)) (subst (OnLatch (IsLatchReply place (Confirm latch id))) has.1 says)
settled_as place latch id reply false says has = has
