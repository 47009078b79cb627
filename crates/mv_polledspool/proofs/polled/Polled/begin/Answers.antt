use Rattle.std.proofs.Common.{sym, subst}
use Rattle.mv_board.specs.Faces.{CallerFace, IsFresh}
use Rattle.mv_polledspool.proofs.Polling.{new_stands, stands_next}
use Rattle.mv_work.specs.Works.{HasCome}
use Rattle.mv_polledspool.proofs.polled.Polled.begin.Goals as goal

pub begin-next-requires-clause-number : goal.begin-next-requires-clause-number
begin-next-requires-clause-number g c =
    let p = c.requires.polled in
    let was = new_stands c.args.spool.now c.requires.spool.config p.0 c.args.self.now p.2 c.requires.new in
    rw (was.0, p.2.fresh.number) p.1

pub begin-next-requires-clause-fresh : goal.begin-next-requires-clause-fresh
begin-next-requires-clause-fresh g c =
    let p = c.requires.polled in
    let b = c.args.spool.now.board in
    let was = new_stands c.args.spool.now c.requires.spool.config p.0 c.args.self.now p.2 c.requires.new in
    subst (λ (t : CallerFace). IsFresh b t.number t) (sym was.0)
    (subst (λ m. IsFresh b m p.2.new) (sym p.2.fresh.number) p.2.fresh)

pub begin-next-requires-clause-new : goal.begin-next-requires-clause-new
begin-next-requires-clause-new g c =
    let p = c.requires.polled in
    let was = new_stands c.args.spool.now c.requires.spool.config p.0 c.args.self.now p.2 c.requires.new in
    rw (was.0, p.2.fresh.number) was.1

pub take_up-requires : goal.take_up-requires
take_up-requires g c = record { room = c.requires.polled.2.room }

pub returns : goal.returns
returns g c = record {
  polled = λ k lt old.
      let s = c.args.spool.now in
      let config = c.requires.spool.config in
      let was = new_stands s config k c.args.self.now old c.requires.new in
      record {
        new = old.new;
        fresh = old.fresh;
        room = c.take_up.ensures.room;
        stands = stands_next s config k old.new c.take_up.new.self c.begin-next.result c.take_up.ensures.same
            (subst (λ (t : CallerFace). HasCome s c.begin-next.new.self t c.begin-next.result c.begin-next.new.task) was.0
            c.begin-next.ensures) c.take_up.ensures.taken;
      };
}
