use Rattle.std.proofs.Common.{◌≡◌, ℕ, ◌∙◌, subst}
use Rattle.mv_board.specs.Faces.{BoardFace, IsOf}
use Rattle.mv_task.proofs.tests.waits.act_often.Goals as goal

pub returns : goal.returns
returns g c = subst (λ (p : BoardFace × ℕ). IsOf p.0 c.back.result × (c.back.result.number ≡ p.1))
    (c.loop.invariant.same ∙ c.new-worker.ensures) c.back.ensures
