-- One cell of one table is written.
use Rattle.std.proofs.Common.{arith}
use Rattle.std.proofs.lemmas.Grind.{common_steps}
use Rattle.mv_machine.proofs.Writes.{volume_made, refused}
use Rattle.mv_machine.proofs.state.State.advance_volume.Goals as goal

pub returns : goal.returns
returns c = volume_made c.args.config.now c.args.self.now c.args.caller c.args.volume c.args.op c.index-old.result.now
    c.volume_apply-number.result (grind (arith, common_steps)) c.index-old.ensures c.volume_apply-number.ensures
    (grind (arith, common_steps)) c.requires.opened

pub returns-then-not-has_volume : goal.returns-then-not-has_volume
returns-then-not-has_volume c = refused c.args.config.now c.args.self.now c.args.caller _ _ c.requires.opened (grind (arith, common_steps))
