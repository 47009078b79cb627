use Rattle.std.proofs.Common.{◌<◌, sym, subst, arith}
use Rattle.mv_board.specs.Faces.{CallerFace, Happened}
use Rattle.mv_wait.proofs.Recording.{reply_kind, closes_below, recorded_on, still_task, about_inside, of_inside, allowed_inside}
use Rattle.mv_wait.proofs.Recording.{reached, stands_within}
use Rattle.mv_wait.proofs.Low.{fits_of, names_low}
use Rattle.mv_wait.proofs.station.Station.try_event.Goals as goal

pub try_event-answer-requires-clause-board : goal.try_event-answer-requires-clause-board
try_event-answer-requires-clause-board c =
    of_inside c.args.self.now c.self.inside.board c.args.task.now c.task.inside.caller c.task.view_is c.self.view_is c.requires.task

pub try_event-answer-requires-clause-left : goal.try_event-answer-requires-clause-left
try_event-answer-requires-clause-left c = subst (λ (d : CallerFace). 0 < d.left) (sym c.task.view_is) c.requires.left

pub try_event-answer-requires-clause-admitted : goal.try_event-answer-requires-clause-admitted
try_event-answer-requires-clause-admitted c =
    allowed_inside c.args.self.now c.self.inside.board c.args.task.now c.task.inside.caller c.task.inside.keep c.args.object c.args.op
    c.task.view_is c.self.view_is c.requires.task c.task.invariant.recorded c.requires.admitted

pub follow-requires-clause-block : goal.follow-requires-clause-block
follow-requires-clause-block c =
    let d = c.self.inside.board.config in
    let r = c.task.inside.caller in
    let k = c.task.inside.keep in
    let about = about_inside c.args.self.now c.self.inside.board c.args.task.now r c.task.view_is c.self.view_is c.requires.task in
    reached d r k c.args.object c.args.op (fits_of d r k about c.task.invariant.recorded)
    (allowed_inside c.args.self.now c.self.inside.board c.args.task.now r k c.args.object c.args.op c.task.view_is c.self.view_is
    c.requires.task c.task.invariant.recorded c.requires.admitted)

pub follow-requires-clause-room : goal.follow-requires-clause-room
follow-requires-clause-room c =
    let d = c.self.inside.board.config in
    let r = c.task.inside.caller in
    let k = c.task.inside.keep in
    let about = about_inside c.args.self.now c.self.inside.board c.args.task.now r c.task.view_is c.self.view_is c.requires.task in
    stands_within d r k c.args.object c.args.op c.task.invariant.recorded (fits_of d r k about c.task.invariant.recorded)
    (allowed_inside c.args.self.now c.self.inside.board c.args.task.now r k c.args.object c.args.op c.task.view_is c.self.view_is
    c.requires.task c.task.invariant.recorded c.requires.admitted)

pub follow-requires-clause-kinds : goal.follow-requires-clause-kinds
follow-requires-clause-kinds c =
    let x = c.in-Ok.ensures.answer in
    reply_kind c.self.inside.board.config c.task.inside.caller c.try_event-answer.new.caller c.args.object c.args.op c.in-Ok.reply
    (x.place, x.happened) c.in-Ok.ensures.possible

pub follow-requires-clause-closes : goal.follow-requires-clause-closes
follow-requires-clause-closes c =
    let x = c.in-Ok.ensures.answer in
    let about = about_inside c.args.self.now c.self.inside.board c.args.task.now c.task.inside.caller c.task.view_is c.self.view_is
    c.requires.task in
    closes_below c.self.inside.board.config c.task.inside.caller c.try_event-answer.new.caller c.args.object c.args.op c.in-Ok.reply
    (x.place, x.happened) c.in-Ok.ensures.possible
    (fits_of c.self.inside.board.config c.task.inside.caller c.task.inside.keep about c.task.invariant.recorded).valid

pub invariant_of-task : goal.invariant_of-task
invariant_of-task c =
    let about = about_inside c.args.self.now c.self.inside.board c.args.task.now c.task.inside.caller c.task.view_is c.self.view_is
    c.requires.task in
    let u = c.try_event-answer.new.caller in
    let x = c.in-Ok.ensures.answer in
    let h : Happened c.task.inside.caller c.args.object c.args.op c.in-Ok.reply u = (x.place, x.happened) in
    let f = c.follow.ensures in
    let less = h.1.left in
    still_task c.task.inside u c.follow.new.self c.task.invariant h.1.same (omega arith)
    (recorded_on c.self.inside.board.config c.task.inside.caller u c.args.object c.args.op c.in-Ok.reply c.task.inside.keep
    c.follow.new.self h c.in-Ok.ensures.possible about f.kept f.same f.sizes f.room f.capacity c.task.invariant.recorded)

pub returns-in-Ok-clause-low : goal.returns-in-Ok-clause-low
returns-in-Ok-clause-low c =
    let x = c.in-Ok.ensures.answer in
    let about = about_inside c.args.self.now c.self.inside.board c.args.task.now c.task.inside.caller c.task.view_is c.self.view_is
    c.requires.task in
    names_low c.self.inside.board.config c.task.inside.caller c.try_event-answer.new.caller c.args.object c.args.op c.in-Ok.reply
    (x.place, x.happened) c.in-Ok.ensures.possible
    (fits_of c.self.inside.board.config c.task.inside.caller c.task.inside.keep about c.task.invariant.recorded).valid
