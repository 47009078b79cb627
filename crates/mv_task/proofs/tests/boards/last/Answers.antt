use Rattle.std.proofs.Common.{◌≡◌, ◌+◌, [], ◌∷◌, length, ap, ◌∙◌, length-append, subst, arith}
use Rattle.mv_board.specs.Faces.{IsFresh, AreFresh}
use Rattle.mv_board.proofs.Fresh.{fresh_last, fresh_front}
use Rattle.mv_task.proofs.tests.boards.last.Goals as goal

pub returns-clause-caller : goal.returns-clause-caller
returns-clause-caller c =
    let b = c.args.board.now in
    let others = c.pop.new.self.items in
    let before = c.requires.count in
    let taken = ap length c.in-Some.ensures.items ∙ length-append others (c.in-Some.caller ∷ []) in
    let place : length others + 0 ≡ c.args.number = omega arith in
    subst (λ k. IsFresh b k c.in-Some.caller) place
    (fresh_last b 0 others c.in-Some.caller (subst (AreFresh b 0) c.in-Some.ensures.items c.requires.fresh))

pub returns-clause-others : goal.returns-clause-others
returns-clause-others c =
    fresh_front c.args.board.now 0 c.pop.new.self.items _ (subst (AreFresh c.args.board.now 0) c.in-Some.ensures.items c.requires.fresh)
