use Rattle.std.proofs.Common.{◌≡◌, ◌*◌, [], length, Err, refl, sym, ap, ◌∙◌, subst, arith}
use Rattle.mv_board.specs.Faces.{CallerFace}
use Rattle.mv_calls.specs.Program.{Wrong}
use Rattle.mv_calls.specs.Waits.{wait}
use Rattle.mv_wait.specs.Answers.{wait_refused}
use Rattle.mv_wait.specs.Run.{Went, IsServed}
use Rattle.mv_wait.specs.Task.{blocks_in}
use Rattle.mv_wait.specs.Waiting.{IsArmedFor, ArePlain, AreOwn}
use Rattle.mv_wait.proofs.Parts.{still_of, same_view, plain_still}
use Rattle.mv_wait.proofs.Recording.{recorded_looked}
use Rattle.mv_wait.proofs.Runs.{same_then, went_log}
use Rattle.mv_wait.proofs.Unrefusing.{wait_served, wait_is_refused}
use Rattle.mv_wait.proofs.station.Station.wait.Goals as goal

pub returns-in-Over-clause-served : goal.returns-in-Over-clause-served
returns-in-Over-clause-served g c =
    let t = c.args.task.now in
    let es = c.args.ecbs.now in
    let s = c.args.self.now.config in
    let why = wait_refused c.in-Over.refusal in
    subst (λ (d : CallerFace). IsServed (2 * length es) (wait s c.args.count es) (λ a. a ≡ Err why) t d) (sym c.in-Over.ensures.begun.1)
    (wait_is_refused s c.args.count es why t c.in-Over.ensures.begun.0 c.requires.task.rest)

pub await_complete-requires-clause-task : goal.await_complete-requires-clause-task
await_complete-requires-clause-task g c =
    let t = c.args.task.now in
    let u = c.begin_wait.new.task in
    let r = c.task.inside.caller in
    let same = (c.in_default.ensures.begun.arms Wrong).went.same in
    still_of c.args.self.now c.args.self.now t r (same_then t u r same (same_view u r c.task.view_is)) c.requires.task.board refl

pub await_complete-requires-clause-own : goal.await_complete-requires-clause-own
await_complete-requires-clause-own g c =
    subst (λ (d : CallerFace). AreOwn c.args.self.now.config d.number c.args.ecbs.now) (sym c.task.view_is) c.in_default.ensures.begun.own

pub await_complete-requires-clause-distinct : goal.await_complete-requires-clause-distinct
await_complete-requires-clause-distinct g c = c.in_default.ensures.begun.distinct

pub await_complete-requires-clause-places : goal.await_complete-requires-clause-places
await_complete-requires-clause-places g c =
    let same = (c.in_default.ensures.begun.arms Wrong).went.same in
    c.deref_mut.ensures.len ∙ (c.task.invariant.places
    ∙ ap blocks_in (ap (λ (d : CallerFace). d.about) c.task.view_is ∙ (same.about ∙ c.requires.task.board.1)))

pub invariant_of-task : goal.invariant_of-task
invariant_of-task g c =
    let r = c.task.inside.caller in
    let v = c.await_complete.new.caller in
    let same = (c.in_default.ensures.begun.arms Wrong).went.same in
    let looks = c.await_complete.ensures.went in
    let left = looks.left in
    let room = c.task.invariant.room in record {
      recorded = recorded_looked c.args.self.now.config r v c.task.inside.keep
          (ap (λ (d : CallerFace). d.about) c.task.view_is ∙ (same.about ∙ c.requires.task.board.1)) looks c.task.invariant.recorded;
      idle = c.task.invariant.idle;
      room = omega arith;
      places = c.task.invariant.places ∙ sym (ap blocks_in looks.same.about);
    }

pub end_wait-requires-clause-task : goal.end_wait-requires-clause-task
end_wait-requires-clause-task g c =
    let t = c.args.task.now in
    let u = c.begin_wait.new.task in
    let r = c.task.inside.caller in
    let v = c.await_complete.new.caller in
    let same = (c.in_default.ensures.begun.arms Wrong).went.same in
    still_of c.args.self.now c.args.self.now t v
    (same_then t r v (same_then t u r same (same_view u r c.task.view_is)) c.await_complete.ensures.went.same) c.requires.task.board refl

pub end_wait-requires-clause-waits : goal.end_wait-requires-clause-waits
end_wait-requires-clause-waits g c =
    subst (IsArmedFor c.args.ecbs.now) (sym (went_log c.task.inside.caller c.await_complete.new.caller c.await_complete.ensures.went))
    (subst (λ (d : CallerFace). IsArmedFor c.args.ecbs.now d.log) (sym c.task.view_is) c.in_default.ensures.begun.waits)

pub end_wait-requires-clause-own : goal.end_wait-requires-clause-own
end_wait-requires-clause-own g c =
    let number = c.await_complete.ensures.went.same.number ∙ ap (λ (d : CallerFace). d.number) c.task.view_is in
    subst (λ k. AreOwn c.args.self.now.config k c.args.ecbs.now) (sym number) c.in_default.ensures.begun.own

pub end_wait-requires-clause-distinct : goal.end_wait-requires-clause-distinct
end_wait-requires-clause-distinct g c = c.in_default.ensures.begun.distinct

pub end_wait-requires-clause-ready : goal.end_wait-requires-clause-ready
end_wait-requires-clause-ready g c = c.await_complete.ensures.ready

pub end_wait-requires-clause-plain : goal.end_wait-requires-clause-plain
end_wait-requires-clause-plain g c =
    let r = c.task.inside.caller in
    let v = c.await_complete.new.caller in
    let looks = c.await_complete.ensures.went in
    plain_still r v c.args.ecbs.now looks.same.number (went_log r v looks)
    (subst (λ (d : CallerFace). ArePlain d c.args.ecbs.now) (sym c.task.view_is) c.in_default.ensures.begun.plain)

pub end_wait-requires-clause-left : goal.end_wait-requires-clause-left
end_wait-requires-clause-left g c =
    let run = c.in_default.ensures.begun.arms Wrong in
    let few = run.few in
    let first = run.went.left in
    let second = c.await_complete.ensures.went.left in
    let view = ap (λ (d : CallerFace). d.left) c.task.view_is in
    let much = c.requires.task.left in omega arith

pub returns-clause-served : goal.returns-clause-served
returns-clause-served g c =
    let t = c.args.task.now in
    let u = c.begin_wait.new.task in
    let r = c.task.inside.caller in
    let v = c.await_complete.new.caller in
    let w = c.end_wait.new.task in
    let es = c.args.ecbs.now in
    let s = c.args.self.now.config in
    let armed = c.in_default.ensures.begun in
    wait_served s c.args.count es c.end_wait.new.out t u v w armed.accepted c.requires.task.rest armed.arms
    (subst (λ (d : CallerFace). Went [] d v) c.task.view_is c.await_complete.ensures.went) c.end_wait.ensures.settled
    c.end_wait.ensures.rest
