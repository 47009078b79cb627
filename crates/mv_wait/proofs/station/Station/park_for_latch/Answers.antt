use Rattle.std.proofs.Common.{[], refl, subst}
use Rattle.mv_board.specs.Faces.{Peeks}
use Rattle.mv_wait.proofs.Parts.{still_of}
use Rattle.mv_wait.proofs.Peeks.{went_peek, may_still, ready_then}
use Rattle.mv_wait.proofs.Runs.{went_none, went_then}
use Rattle.mv_wait.proofs.station.Station.park_for_latch.Goals as goal

pub loop-init : goal.loop-init
loop-init g c = went_none c.args.task.now

pub peek-requires : goal.peek-requires
peek-requires g c = record {
  task = still_of c.args.self.now c.args.self.now c.args.task.now c.loop.task c.loop.invariant.same c.requires.task refl;
  own = may_still c.args.self.now.config c.args.task.now c.loop.task c.args.watch c.loop.invariant c.requires.own;
}

pub loop-preserved : goal.loop-preserved
loop-preserved g c = went_then [] [] c.args.task.now c.loop.task c.peek.new.task c.loop.invariant
    (went_peek c.loop.task c.args.watch _ c.peek.new.task c.peek.ensures.look)

pub returns-then-peek : goal.returns-then-peek
returns-then-peek g c = record {
  went = went_then [] [] c.args.task.now c.loop.task c.peek.new.task c.loop.invariant
      (went_peek c.loop.task c.args.watch _ c.peek.new.task c.peek.ensures.look);
  ready = ready_then c.loop.task c.args.watch c.peek.new.task
      (subst (λ b. Peeks c.loop.task c.args.watch b c.peek.new.task) c.if-peek.true c.peek.ensures.look);
}
