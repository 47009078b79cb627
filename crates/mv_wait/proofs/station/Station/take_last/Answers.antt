use Rattle.std.proofs.Common.{◌≡◌, ◌+◌, length, subst, arith}
use Rattle.mv_board.specs.Faces.{IsFresh, AreFresh}
use Rattle.mv_board.proofs.Fresh.{fresh_last, fresh_front}
use Rattle.mv_wait.proofs.station.Station.take_last.Goals as goal

pub returns-clause-task : goal.returns-clause-task
returns-clause-task c =
    let b = c.args.self.now in
    let others = c.pop.new.self.items in
    let place : length others + 0 ≡ length others = omega arith in
    subst (λ k. IsFresh b k c.in-Some.task) place
    (fresh_last b 0 others c.in-Some.task (subst (AreFresh b 0) c.in-Some.ensures.items c.requires.fresh))

pub returns-clause-others : goal.returns-clause-others
returns-clause-others c =
    fresh_front c.args.self.now 0 c.pop.new.self.items _ (subst (AreFresh c.args.self.now 0) c.in-Some.ensures.items c.requires.fresh)
