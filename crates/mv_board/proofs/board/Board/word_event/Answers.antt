use Rattle.std.proofs.Common.{◌<◌, List, refl, sym, ap, subst}
use Rattle.mv_board.specs.declared.caller.Caller.TheInside.{Inside}
use Rattle.mv_board.specs.declared.view.Part.{Part}
use Rattle.mv_board.specs.Caller.{face_of}
use Rattle.mv_board.specs.Faces.{CallerFace, HappenedAt, IsAsListed}
use Rattle.mv_board.specs.View.{first_of}
use Rattle.mv_board.proofs.Answering.{as_listed}
use Rattle.mv_board.proofs.Logging.{entry}
use Rattle.mv_board.proofs.WordEvents.{HasLogged, happened}
use Rattle.mv_board.proofs.board.Board.word_event.Goals as goal

pub returns-clause-event : goal.returns-clause-event
returns-clause-event g c =
    let place = c.exchange-place.result.0 in
    let reply = c.exchange-place.result.1 in
    let left : 0 < c.caller.inside.events.left = rw (ap (λ (d : CallerFace). d.left) c.caller.view_is) c.requires.left in
    let later : Inside = record c.caller.inside { events = c.append.new.self; seat = c.exchange-place.new.seat } in
    let logged : HasLogged c.caller.inside later (entry c.caller.inside c.args.object c.args.op place reply) = record {
      same = c.append.ensures.same;
      log = c.append.ensures.logged;
      table = c.exchange-place.ensures.same.0;
      slots = c.exchange-place.ensures.same.1;
    } in (
      place,
      subst (λ (d : CallerFace). HappenedAt d c.args.object place c.args.op reply (face_of later)) c.caller.view_is
          (happened c.caller.inside later _ _ _ _ c.caller.invariant left c.exchange-place.ensures.event logged c.args.self.now.config
          c.requires.word),
    )

pub returns-clause-listed : goal.returns-clause-listed
returns-clause-listed g c =
    let log = ap (λ (ps : List Part). (first_of ps).log) (sym c.caller.invariant.parts) in
    subst (λ (d : CallerFace). IsAsListed d c.args.object c.args.op c.exchange-place.result.1) c.caller.view_is
    (as_listed c.args.self.now.config (face_of c.caller.inside) c.caller.inside.seat.me.0 _ _ _ _ _ c.requires.word
    c.exchange-place.ensures.event refl log)
