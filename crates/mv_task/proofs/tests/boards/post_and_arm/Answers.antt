use Rattle.std.proofs.Common.{◌≡◌, ℕ, true, sym, subst}
use Rattle.mv_ecb.specs.declared.operation.EcbOp.TheVariants as ecb_op
use Rattle.mv_board.specs.Faces.{BoardFace}
use Rattle.mv_machine.specs.System.{ecb_admitted}
use Rattle.mv_task.proofs.tests.boards.post_and_arm.Goals as goal

pub exchange-moved-requires : goal.exchange-moved-requires
exchange-moved-requires g c = record {
  admitted =
      subst (λ (s : BoardFace × ℕ). ecb_admitted s.0.config s.1 0 ecb_op.Settle ≡ true) (sym c.make-armed.ensures) c.requires.settle;
}
