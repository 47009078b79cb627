use Rattle.std.proofs.Common.{◌<◌, sym, subst, arith}
use Rattle.mv_machine.specs.Parts.{IsPossible}
use Rattle.mv_board.specs.Faces.{BoardFace, CallerFace, Happened, IsAsListed}
use Rattle.mv_wait.proofs.Recording.{reply_kind, closes_below, recorded_on, still_task, about_inside, of_inside, allowed_inside}
use Rattle.mv_wait.proofs.Recording.{reached, stands_within}
use Rattle.mv_wait.proofs.Low.{fits_of, names_low}
use Rattle.mv_wait.proofs.station.Station.event.Goals as goal

pub event-reply-requires-clause-board : goal.event-reply-requires-clause-board
event-reply-requires-clause-board g c =
    of_inside c.args.self.now c.self.inside.board c.args.task.now c.task.inside.caller c.task.view_is c.self.view_is c.requires.task

pub event-reply-requires-clause-left : goal.event-reply-requires-clause-left
event-reply-requires-clause-left g c = subst (λ (d : CallerFace). 0 < d.left) (sym c.task.view_is) c.requires.left

pub event-reply-requires-clause-admitted : goal.event-reply-requires-clause-admitted
event-reply-requires-clause-admitted g c =
    allowed_inside c.args.self.now c.self.inside.board c.args.task.now c.task.inside.caller c.task.inside.keep c.args.object c.args.op
    c.task.view_is c.self.view_is c.requires.task c.task.invariant.recorded c.requires.admitted

pub follow-requires-clause-block : goal.follow-requires-clause-block
follow-requires-clause-block g c =
    let d = c.self.inside.board.config in
    let r = c.task.inside.caller in
    let k = c.task.inside.keep in
    let about = about_inside c.args.self.now c.self.inside.board c.args.task.now r c.task.view_is c.self.view_is c.requires.task in
    reached d r k c.args.object c.args.op (fits_of d r k about c.task.invariant.recorded)
    (allowed_inside c.args.self.now c.self.inside.board c.args.task.now r k c.args.object c.args.op c.task.view_is c.self.view_is
    c.requires.task c.task.invariant.recorded c.requires.admitted)

pub follow-requires-clause-room : goal.follow-requires-clause-room
follow-requires-clause-room g c =
    let d = c.self.inside.board.config in
    let r = c.task.inside.caller in
    let k = c.task.inside.keep in
    let about = about_inside c.args.self.now c.self.inside.board c.args.task.now r c.task.view_is c.self.view_is c.requires.task in
    stands_within d r k c.args.object c.args.op c.task.invariant.recorded (fits_of d r k about c.task.invariant.recorded)
    (allowed_inside c.args.self.now c.self.inside.board c.args.task.now r k c.args.object c.args.op c.task.view_is c.self.view_is
    c.requires.task c.task.invariant.recorded c.requires.admitted)

pub follow-requires-clause-kinds : goal.follow-requires-clause-kinds
follow-requires-clause-kinds g c =
    reply_kind c.self.inside.board.config c.task.inside.caller c.event-reply.new.caller c.args.object c.args.op c.event-reply.result
    c.event-reply.ensures.event c.event-reply.ensures.possible

pub follow-requires-clause-closes : goal.follow-requires-clause-closes
follow-requires-clause-closes g c =
    let about = about_inside c.args.self.now c.self.inside.board c.args.task.now c.task.inside.caller c.task.view_is c.self.view_is
    c.requires.task in
    closes_below c.self.inside.board.config c.task.inside.caller c.event-reply.new.caller c.args.object c.args.op c.event-reply.result
    c.event-reply.ensures.event c.event-reply.ensures.possible
    (fits_of c.self.inside.board.config c.task.inside.caller c.task.inside.keep about c.task.invariant.recorded).valid

pub invariant_of-task : goal.invariant_of-task
invariant_of-task g c =
    let about = about_inside c.args.self.now c.self.inside.board c.args.task.now c.task.inside.caller c.task.view_is c.self.view_is
    c.requires.task in
    let u = c.event-reply.new.caller in
    let h = c.event-reply.ensures.event in
    let f = c.follow.ensures in
    let less = h.1.left in
    still_task c.task.inside u c.follow.new.self c.task.invariant h.1.same (omega arith)
    (recorded_on c.self.inside.board.config c.task.inside.caller u c.args.object c.args.op c.event-reply.result c.task.inside.keep
    c.follow.new.self h c.event-reply.ensures.possible about f.kept f.same f.sizes f.room f.capacity c.task.invariant.recorded)

pub returns-clause-low : goal.returns-clause-low
returns-clause-low g c =
    let about = about_inside c.args.self.now c.self.inside.board c.args.task.now c.task.inside.caller c.task.view_is c.self.view_is
    c.requires.task in
    names_low c.self.inside.board.config c.task.inside.caller c.event-reply.new.caller c.args.object c.args.op c.event-reply.result
    c.event-reply.ensures.event c.event-reply.ensures.possible
    (fits_of c.self.inside.board.config c.task.inside.caller c.task.inside.keep about c.task.invariant.recorded).valid

pub returns-clause-event : goal.returns-clause-event
returns-clause-event g c =
    subst (λ (d : CallerFace). Happened d c.args.object c.args.op c.event-reply.result c.event-reply.new.caller) c.task.view_is
    c.event-reply.ensures.event

pub returns-clause-possible : goal.returns-clause-possible
returns-clause-possible g c =
    let u = c.event-reply.new.caller in
    subst (λ (b : BoardFace). IsPossible b.config u.number u.log u.told) c.self.view_is c.event-reply.ensures.possible

pub returns-clause-listed : goal.returns-clause-listed
returns-clause-listed g c =
    subst (λ (d : CallerFace). IsAsListed d c.args.object c.args.op c.event-reply.result) c.task.view_is c.event-reply.ensures.listed
