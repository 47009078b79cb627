use Rattle.std.proofs.Common.{refl, sym, ◌∙◌, subst}
use Rattle.mv_board.specs.Faces.{CallerFace}
use Rattle.mv_calls.specs.Services as service
use Rattle.mv_polled.specs.Obtaining.{IsObtained}
use Rattle.mv_runscript.specs.Served.{MakesService}
use Rattle.mv_pollscript.specs.declared.task.Stage.TheVariants as stage
use Rattle.mv_pollscript.proofs.Polled.{obtain_again, obtain_ends, obtain_left, on_ok_all, pause_ends, stands_in, wait_ends}
use Rattle.mv_pollscript.proofs.Tasks.{own_task}
use Rattle.mv_pollscript.proofs.task.ScriptTask.step.Goals as goal

-- ---- a WAIT

pub poll_wait-requires-clause-task : goal.poll_wait-requires-clause-task
poll_wait-requires-clause-task g c =
    let p = c.requires.task in (own_task c.args.station.now c.args.table.now c.args.calls.now p.0 c.args.self.now p.1).0

pub returns-in-Some : goal.returns-in-Some
returns-in-Some g c = record {
  task =
      let b = c.args.station.now in
      let table = c.args.table.now in
      let calls = c.args.calls.now in
      let p = c.args.self.now in
      let q = c.end_call.new.self in
      let w = c.in-Waits.call in
      let a = c.in-Some.answer in
      on_ok_all c.end_call.result c.end_call.ensures.task c.end_call.ensures.requests c.end_call.ensures.answers
      c.end_call.ensures.stage
      (λ task requests answers between k at.
      let turn = rw c.in-Some.is at
      (c.in_ok-answer-in-Waits.ensures.turn at.between (stands_in b table calls k p p at (stage.Waits w) c.in-Waits.is).1) in
      wait_ends b table calls k p q at w a c.in-Waits.is
      (subst (λ (u : CallerFace). MakesService b.config (service.Wait w.count w.ecbs) a at.between u) (sym task) turn) requests answers between);
}

-- ---- a PAUSE

pub returns-in-Some-poll_pause : goal.returns-in-Some-poll_pause
returns-in-Some-poll_pause g c = record {
  task =
      let b = c.args.station.now in
      let table = c.args.table.now in
      let calls = c.args.calls.now in
      let p = c.args.self.now in
      let q = c.end_call-in-Pauses.new.self in
      let w = c.in-Pauses.call in
      let a = c.in-Some-poll_pause.answer in
      on_ok_all c.end_call-in-Pauses.result c.end_call-in-Pauses.ensures.task c.end_call-in-Pauses.ensures.requests c.end_call-in-Pauses.ensures.answers
      c.end_call-in-Pauses.ensures.stage
      (λ task requests answers between k at.
      let turn = c.in-Some-poll_pause.ensures.turn at.between (stands_in b table calls k p p at (stage.Pauses w) c.in-Pauses.is).1 in
      pause_ends b table calls k p q at w a c.in-Pauses.is
      (subst (λ (u : CallerFace). MakesService b.config (service.Pause w.token) a at.between u) (sym task) turn) requests answers between);
}

-- ---- an OBTAIN

pub returns-in_default-poll : goal.returns-in_default-poll
returns-in_default-poll g c = record {
  task = λ k at.
      let b = c.args.station.now in
      let table = c.args.table.now in
      let calls = c.args.calls.now in
      let p = c.args.self.now in
      let w = c.in-Obtains.call in
      let turn = c.in_default-poll.ensures.turn at.between (stands_in b table calls k p p at (stage.Obtains w) c.in-Obtains.is).1 in
      obtain_left b table calls k p _ at w c.poll.new.self c.in-Obtains.is c.poll.ensures.call
      (obtain_again b.config at.between p.task c.poll.new.task c.poll.new.self turn) refl refl refl;
}

pub returns-in_ok-push-in-Obtains : goal.returns-in_ok-push-in-Obtains
returns-in_ok-push-in-Obtains g c = record {
  task =
      let b = c.args.station.now in
      let table = c.args.table.now in
      let calls = c.args.calls.now in
      let p = c.args.self.now in
      let q = c.end_call-in-Obtains.new.self in
      let w = c.in-Obtains.call in
      let v = c.poll.new.self in
      let r = c.in-Ready.outcome in
      on_ok_all c.end_call-in-Obtains.result c.end_call-in-Obtains.ensures.task c.end_call-in-Obtains.ensures.requests c.end_call-in-Obtains.ensures.answers
      c.end_call-in-Obtains.ensures.stage
      (λ task requests answers between k at.
      let turn = c.in-Ready.ensures.turn at.between (stands_in b table calls k p p at (stage.Obtains w) c.in-Obtains.is).1 in
      obtain_ends b table calls k p q at w v r c.obtained.result c.request_in.result c.requires.config c.in-Obtains.is c.poll.ensures.call
      (subst (λ (u : CallerFace). IsObtained b.config v r at.between u) (sym task) turn) c.obtained.ensures c.request_in.ensures
      (requests ∙ c.in_ok-push-in-Obtains.ensures.items) answers between);
}
