use Rattle.std.proofs.Common.{◌<◌, length, sym, subst}
use Rattle.std.specs.List.{AllByRecursion}
use Rattle.mv_machine.proofs.Lists.{all_push}
use Rattle.mv_task.proofs.tests.waits.first_blocks.Goals as goal

pub loop-ecb-preserved : goal.loop-ecb-preserved
loop-ecb-preserved g c = record {
  blocks = subst (AllByRecursion (λ e. e < length c.args.station.now.config.owners)) (sym c.in-Ok.ensures.items)
      (all_push (λ e. e < length c.args.station.now.config.owners) _ _ c.loop-ecb.invariant.blocks c.assert_is_block.ensures);
}
