use Rattle.std.proofs.Common.{◌≡◌, Ok, Err, refl, subst, arith}
use Rattle.std.proofs.lemmas.Result.{err_from_is_err_and}
use Rattle.mv_latch.specs.declared.operation.LatchOp.TheVariants.{Release}
use Rattle.mv_machine.specs.declared.entry.Object.TheVariants.{Latches}
use Rattle.mv_machine.specs.declared.entry.Op.TheVariants as op_on
use Rattle.mv_board.specs.Faces.{Happened}
use Rattle.mv_latchset.specs.Replies.{release_reply}
use Rattle.mv_latchset.proofs.Answering.{fair_wakes, says_released}
use Rattle.mv_latchset.proofs.Releases.{left_for_wakes, released_served, refusal_served, refusal_is_by}
use Rattle.mv_latchset.proofs.Resting.{release_rests}
use Rattle.mv_wait.proofs.Parts.{still_of}
use Rattle.mv_latchset.proofs.releasing.release_latch.Goals as goal

pub released_in-requires : goal.released_in-requires
released_in-requires g c = says_released c.args.station.now.config c.args.task.now c.event-reply.new.task c.args.token.latch
    c.args.token.id c.args.conditional c.event-reply.result c.event-reply.ensures.event c.event-reply.ensures.possible

pub returns-in_err-granted-clause-served : goal.returns-in_err-granted-clause-served
returns-in_err-granted-clause-served g c =
    let a = c.args in
    let v = c.event-reply.new.task in
    let p = err_from_is_err_and c.from_residual.result c.from_residual.ensures.1 in
    let is : c.from_residual.result ≡ Err c.in_err-granted.field-0.0 = rw (p.1, p.2) refl in
    refusal_served a.station.now.config a.token.latch a.token.id a.conditional a.task.now v c.in_err-granted.field-0.0
    c.from_residual.result is
    (subst (λ r. Happened a.task.now Latches (op_on.Latch (Release a.token.latch a.token.id a.conditional)) r v)
    c.in_err-granted.ensures c.event-reply.ensures.event)
    c.event-reply.ensures.possible c.requires.task.rest

pub returns-in_err-granted-clause-causes : goal.returns-in_err-granted-clause-causes
returns-in_err-granted-clause-causes g c =
    let a = c.args in
    let v = c.event-reply.new.task in
    let p = err_from_is_err_and c.from_residual.result c.from_residual.ensures.1 in
    let is : c.from_residual.result ≡ Err c.in_err-granted.field-0.0 = rw (p.1, p.2) refl in
    refusal_is_by a.station.now.config a.token.latch a.token.id a.conditional a.task.now v c.in_err-granted.field-0.0
    c.from_residual.result is
    (subst (λ r. Happened a.task.now Latches (op_on.Latch (Release a.token.latch a.token.id a.conditional)) r v)
    c.in_err-granted.ensures c.event-reply.ensures.event)
    c.event-reply.ensures.possible

pub post_wakes-requires-clause-task : goal.post_wakes-requires-clause-task
post_wakes-requires-clause-task g c =
    let s = c.args.station.now in
    let t = c.args.task.now in
    let v = c.event-reply.new.task in
    let a = c.args in
    let op = Release a.token.latch a.token.id a.conditional in
    let event = c.event-reply.ensures.event in record {
      board = still_of s s t v event.1.same c.requires.task.board refl;
      rest = release_rests t v a.token.latch a.token.id a.conditional (release_reply c.released_in.result)
          (subst (λ r. Happened t Latches (op_on.Latch op) r v) c.released_in.ensures event)
          c.requires.task.rest;
      left = left_for_wakes s.config v.wakes t.left v.left
          (fair_wakes s.config t v op c.event-reply.result event c.event-reply.ensures.possible)
          c.requires.task.left c.event-reply.ensures.few event.1.left;
    }

pub post_wakes-requires-clause-fair : goal.post_wakes-requires-clause-fair
post_wakes-requires-clause-fair g c = (fair_wakes c.args.station.now.config c.args.task.now c.event-reply.new.task
    (Release c.args.token.latch c.args.token.id c.args.conditional) c.event-reply.result c.event-reply.ensures.event
    c.event-reply.ensures.possible).each

pub returns-clause-served : goal.returns-clause-served
returns-clause-served g c =
    let s = c.args.station.now.config in
    let t = c.args.task.now in
    let v = c.event-reply.new.task in
    let a = c.args in
    let n = c.in_ok-granted.granted in
    let op = Release a.token.latch a.token.id a.conditional in
    let fair = fair_wakes s t v op c.event-reply.result c.event-reply.ensures.event c.event-reply.ensures.possible in
    let few = c.event-reply.ensures.few in
    let left = c.requires.task.left in
    released_served s a.token.latch a.token.id a.conditional (λ x. x ≡ Ok n) t v c.post_wakes.new.task n
    (subst (λ r. Happened t Latches (op_on.Latch op) r v) c.in_ok-granted.ensures c.event-reply.ensures.event)
    c.post_wakes.ensures.posted (fair.cost (omega arith)) c.requires.task.rest c.post_wakes.ensures.rest refl
