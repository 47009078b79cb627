use Rattle.std.proofs.Common.{◌≡◌, Some, refl, arith, subst}
use Rattle.std.specs.Prelude.{length, slice_get}
use Rattle.mv_board.specs.Faces.{CallerFace}
use Rattle.mv_runscript.specs.Making.{MakesCall}
use Rattle.mv_pollscript.proofs.Begins.{next_good, next_obtain, task_begins, task_between}
use Rattle.mv_pollscript.proofs.Places.{next_is}
use Rattle.mv_pollscript.proofs.Polled.{on_ok_all}
use Rattle.mv_pollscript.proofs.Steps.{task_on}
use Rattle.mv_pollscript.proofs.task.ScriptTask.next_call.Given as bound
use Rattle.mv_pollscript.proofs.task.ScriptTask.next_call.Goals.{After-stage_for}
use Rattle.mv_pollscript.proofs.task.ScriptTask.next_call.Goals as goal

-- the call after those that have an answer
next : (g : bound.Over) (c : After-stage_for g)
    → slice_get c.args.calls.now (length c.args.self.now.answers.items) ≡ Some c.index-calls-len.result
next g c =
    let few = c.requires.task.1.few in
    next_is c.args.calls.now (length c.args.self.now.answers.items) c.len.result c.len-2.result c.index-calls-len.result few
    (let a = c.len.ensures in let n = c.args.self.now.answers.ok.0 in omega arith)
    (let a = c.len-2.ensures in let n = c.args.self.now.answers.ok.0 in omega arith)
    c.if-len-calls.false c.index-calls-len.is

pub make-requires-clause-numbers : goal.make-requires-clause-numbers
make-requires-clause-numbers g c =
    let p = c.requires.task in
    let was = c.args.self.now in
    next_good c.args.station.now c.args.table.now c.args.calls.now p.0 was was p.1 c.requires.config c.requires.sound c.requires.between
    c.index-calls-len.result (next g (goal.at.make-requires-clause-numbers g c).After-stage_for)

pub make-requires-clause-obtain : goal.make-requires-clause-obtain
make-requires-clause-obtain g c =
    let p = c.requires.task in
    let was = c.args.self.now in
    next_obtain c.args.station.now c.args.table.now c.args.calls.now p.0 was was p.1 c.requires.config c.requires.sound c.requires.between
    c.index-calls-len.result (next g (goal.at.make-requires-clause-obtain g c).After-stage_for)

pub returns-in-Some : goal.returns-in-Some
returns-in-Some g c = record {
  task = λ k at.
      task_begins c.args.station.now c.args.table.now c.args.calls.now k c.args.self.now _ at c.requires.config c.requires.sound
      c.requires.between c.index-calls-len.result (next g (goal.at.returns-in-Some g c).After-stage_for) c.in-Some.stage
      (rw c.in-Some.is at c.in_ok-stage.ensures) refl refl refl refl;
}

pub returns-in-None : goal.returns-in-None
returns-in-None g c = record {
  task =
      let b = c.args.station.now in
      let table = c.args.table.now in
      let calls = c.args.calls.now in
      let p = c.args.self.now in
      let q = c.make.new.self in
      let d = c.index-calls-len.result in
      on_ok_all c.make.result c.make.ensures.makes c.make.ensures.requests c.make.ensures.count c.make.ensures.stage
      (λ makes requests count between k at.
      task_on b table calls k p q at d makes.0 (next g (goal.at.returns-in-None g c).After-stage_for)
      (subst (λ (t : CallerFace). MakesCall b.config table d makes.0 p.requests.items q.requests.items t q.task)
      (task_between b table calls k p q at c.requires.config c.requires.sound c.requires.between) makes.2) requests count makes.1 between);
}
