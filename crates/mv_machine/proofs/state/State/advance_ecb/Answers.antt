-- One cell of one table is written.
use Rattle.std.proofs.Common.{arith}
use Rattle.std.proofs.lemmas.Grind.{common_steps}
use Rattle.mv_machine.proofs.Writes.{ecb_made, refused}
use Rattle.mv_machine.proofs.state.State.advance_ecb.Goals as goal

pub returns : goal.returns
returns c = ecb_made c.args.config.now c.args.self.now c.args.caller c.args.ecb c.args.op c.index-old.result.now c.ecb_apply-word.result
    (grind (arith, common_steps)) c.index-old.ensures c.ecb_apply-word.ensures (grind (arith, common_steps)) c.requires.opened

pub returns-then-not-has_ecb : goal.returns-then-not-has_ecb
returns-then-not-has_ecb c = refused c.args.config.now c.args.self.now c.args.caller _ _ c.requires.opened (grind (arith, common_steps))
