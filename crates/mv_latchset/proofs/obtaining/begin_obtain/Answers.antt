use Rattle.std.proofs.Common.{◌≡◌, None, Ok, Err, option_map, inl, refl, sym, ap, ◌∙◌, subst}
use Rattle.mv_latch.specs.declared.operation.LatchOp.{LatchOp}
use Rattle.mv_latch.specs.declared.operation.LatchOp.TheVariants.{Obtain}
use Rattle.mv_latch.specs.declared.operation.LatchReply.{LatchReply}
use Rattle.mv_latch.specs.declared.operation.LatchReply.TheVariants as latch_reply
use Rattle.mv_machine.specs.declared.entry.Object.TheVariants.{Latches}
use Rattle.mv_machine.specs.declared.entry.Op.TheVariants as op_on
use Rattle.mv_machine.specs.declared.entry.Reply.{Reply}
use Rattle.mv_machine.specs.declared.entry.Reply.TheVariants as reply_of
use Rattle.mv_board.specs.Faces.{CallerFace, Happened}
use Rattle.mv_calls.specs.Keeping.{kept_of}
use Rattle.mv_calls.specs.LatchCalls.{GrantedAs, PendingAs, obtain_refusal}
use Rattle.mv_calls.specs.Refusal as refusal
use Rattle.mv_latchset.specs.Answers.{obtain_refused}
use Rattle.mv_latchset.specs.Obtaining.{IsAnswered}
use Rattle.mv_latchset.proofs.Admits.{may_obtain}
use Rattle.mv_latchset.proofs.Answering.{says_asked}
use Rattle.mv_latchset.proofs.Obtains.{stopped, stopped_by, granted_served, not_now_served, pending_served}
use Rattle.mv_latchset.proofs.Between.{obtaining_begun}
use Rattle.mv_latchset.proofs.Stands.{granted_stands, queued_stands}
use Rattle.mv_latchset.proofs.obtaining.begin_obtain.Given as given
use Rattle.mv_latchset.proofs.obtaining.begin_obtain.Goals as goal
use Rattle.mv_latchset.proofs.obtaining.begin_obtain.Goals.{In_default}

-- ---- what each way through the call knows

-- nothing refuses the request before its event
allowed : (g : given.Over) (c : In_default g)
    → obtain_refusal c.args.station.now.config c.args.latch c.args.requestor c.args.mode c.args.form
    (kept_of c.args.task.now.number c.args.task.now.log) ≡ None
allowed g c = sym (c.refuses.ensures.refusal c.args.requestor c.args.mode) ∙ ap (λ o. option_map obtain_refused o) c.in_default.is

-- its event, under the reply that it is read as
read_as : (t u : CallerFace) (op : LatchOp) (r : Reply) (s : LatchReply) → r ≡ reply_of.Latch s
    → Happened t Latches (op_on.Latch op) r u → IsAnswered op s t u
read_as t u op r s is h = subst (λ x. Happened t Latches (op_on.Latch op) x u) is h

-- ---- refused before its event

pub returns-in-Some-clause-begun : goal.returns-in-Some-clause-begun
returns-in-Some-clause-begun g c =
    let a = c.args in
    let is = sym (c.refuses.ensures.refusal a.requestor a.mode) ∙ ap (λ o. option_map obtain_refused o) c.in-Some.is in record {
      served = stopped a.station.now.config a.latch a.requestor a.mode a.form (λ x. x ≡ Err (obtain_refused c.in-Some.refusal)) a.task.now
          (obtain_refused c.in-Some.refusal) is c.requires.task.rest refl;
      causes = stopped_by a.station.now.config a.latch a.requestor a.mode a.form a.task.now c.in-Some.refusal is;
      there = tt;
    }

-- ---- its event

pub event-reply-requires-clause-admitted : goal.event-reply-requires-clause-admitted
event-reply-requires-clause-admitted g c lt =
    let a = c.args in
    may_obtain a.station.now.config a.task.now.number a.latch a.requestor a.mode a.form a.task.now.log lt
    (allowed g (goal.at.event-reply-requires-clause-admitted g c).In_default) (c.refuses.ensures.kept c.in_default.is)

pub asked_in-requires : goal.asked_in-requires
asked_in-requires g c =
    let a = c.args in
    says_asked a.station.now.config a.task.now c.event-reply.new.task a.latch a.requestor a.mode a.form c.event-reply.result
    c.event-reply.ensures.event c.event-reply.ensures.possible

-- ---- granted at once

pub token_of-requires : goal.token_of-requires
token_of-requires g c =
    let a = c.args in
    granted_stands a.task.now c.event-reply.new.task a.latch a.requestor a.mode a.form c.in-Granted.id
    (read_as _ _ _ _ _ c.in-Granted.ensures.reply c.event-reply.ensures.event)

pub returns-in-Granted-clause-begun : goal.returns-in-Granted-clause-begun
returns-in-Granted-clause-begun g c =
    let a = c.args in
    let none = allowed g (goal.at.returns-in-Granted-clause-begun g c).In_default in
    let h = read_as _ _ _ _ _ c.in-Granted.ensures.reply c.event-reply.ensures.event in record {
      served = granted_served a.station.now.config a.latch a.requestor a.mode a.form (λ x. x ≡ Ok (GrantedAs c.token_of.result.id))
          a.task.now c.event-reply.new.task c.in-Granted.id none h c.requires.task.rest
          (ap (λ n. Ok (GrantedAs n)) (sym c.token_of.ensures.id));
      causes = (
        none,
        inl (subst (λ n. IsAnswered (Obtain a.latch a.requestor a.mode a.form) (latch_reply.Granted n) a.task.now c.event-reply.new.task)
            (sym c.token_of.ensures.id) h),
      );
      there = c.token_of.ensures.latch;
    }

-- ---- not made

pub returns-in-NotNow-clause-begun : goal.returns-in-NotNow-clause-begun
returns-in-NotNow-clause-begun g c =
    let a = c.args in
    let none = allowed g (goal.at.returns-in-NotNow-clause-begun g c).In_default in
    let h = read_as _ _ _ _ _ c.in-NotNow.ensures.reply c.event-reply.ensures.event in record {
      served = not_now_served a.station.now.config a.latch a.requestor a.mode a.form (λ x. x ≡ Err (refusal.NotNow c.in-NotNow.id))
          a.task.now c.event-reply.new.task c.in-NotNow.id none c.in-NotNow.ensures.form h c.requires.task.rest refl;
      causes = (none, c.in-NotNow.ensures.form, h);
      there = tt;
    }

-- ---- queued, and a block is to be posted

pub token_of-requires-in-Pending : goal.token_of-requires-in-Pending
token_of-requires-in-Pending g c =
    let a = c.args in
    queued_stands a.task.now c.event-reply.new.task a.latch a.requestor a.mode a.form c.in-Pending.id
    (read_as _ _ _ _ _ c.in-Pending.ensures.reply c.event-reply.ensures.event)

pub returns-in-Pending-clause-begun : goal.returns-in-Pending-clause-begun
returns-in-Pending-clause-begun g c =
    let a = c.args in
    let none = allowed g (goal.at.returns-in-Pending-clause-begun g c).In_default in
    let id = c.token_of-in-Pending.ensures.id in
    let h = read_as _ _ _ _ _ c.in-Pending.ensures.reply c.event-reply.ensures.event in record {
      served = pending_served a.station.now.config a.latch a.requestor a.mode a.form
          (λ x. x ≡ Ok (PendingAs c.token_of-in-Pending.result.id)) a.task.now c.event-reply.new.task c.in-Pending.id none
          c.in-Pending.ensures.form h c.requires.task.rest (ap (λ n. Ok (PendingAs n)) (sym id));
      causes = (
        none,
        (
          c.in-Pending.ensures.form,
          subst (λ n. IsAnswered (Obtain a.latch a.requestor a.mode a.form) (latch_reply.Queued n) a.task.now c.event-reply.new.task)
              (sym id) h,
        ),
      );
      there = c.token_of-in-Pending.ensures.latch;
    }

-- ---- queued, and its task is to wait

pub returns-in-Queued-clause-begun : goal.returns-in-Queued-clause-begun
returns-in-Queued-clause-begun g c =
    let a = c.args in
    let s = a.station.now.config in
    let none = allowed g (goal.at.returns-in-Queued-clause-begun g c).In_default in
    let is = c.in-Queued.ensures.form in
    let h = read_as _ _ _ _ _ c.in-Queued.ensures.reply c.event-reply.ensures.event in (
      is,
      obtaining_begun s a.latch a.requestor a.mode a.form c.in-Queued.id a.task.now c.event-reply.new.task is c.requires.task.rest
          c.requires.task.left none h,
    )
