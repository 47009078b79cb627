use Rattle.std.proofs.Common.{[], ◌∷◌, ap, length, refl, arith}
use Rattle.mv_plan.specs.SpoolSetup.{idle}
use Rattle.mv_work.specs.Spool.{SpoolFace}
use Rattle.mv_work.proofs.Calls.{wait_asked_in}
use Rattle.mv_work.proofs.Ranges.{range_next, range_over}
use Rattle.mv_work.proofs.spool.Spool.dismiss.Goals as goal

pub returns-then-index-self : goal.returns-then-index-self
returns-then-index-self g c =
    let over = rw (ap (λ (s : SpoolFace). s.initiators) c.self.view_is) at c.if-index-self.true in
    record { asks = λ kept. rw (range_over c.args.index c.args.self.now.initiators over) refl }

pub returns : goal.returns
returns g c =
    let s = c.args.self.now in
    let m = c.args.index in
    let count = ap (λ (s : SpoolFace). s.initiators) c.self.view_is in
    let own = rw c.idle.ensures.block at c.idle.ensures.own in
    rw c.idle.ensures.block (record {
      asks = (
        rw (range_next m s.initiators (omega arith)) (wait_asked_in s.board.config 1 (idle (length s.jobs) m ∷ []) _ _),
        record { numbers = omega arith; blocks = tt; may = own },
        omega arith,
      );
    })
