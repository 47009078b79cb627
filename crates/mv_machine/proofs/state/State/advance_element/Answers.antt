-- One cell of one table is written.
use Rattle.std.proofs.Common.{arith}
use Rattle.std.proofs.lemmas.Grind.{common_steps}
use Rattle.mv_machine.proofs.Writes.{element_made, refused}
use Rattle.mv_machine.proofs.state.State.advance_element.Goals as goal

pub returns : goal.returns
returns c = element_made c.args.config.now c.args.self.now c.args.caller c.args.element c.args.op c.index-old.result.now
    c.element_apply-reply.result (grind (arith, common_steps)) c.index-old.ensures c.element_apply-reply.ensures
    (grind (arith, common_steps)) c.requires.opened

pub returns-then-not-has_element : goal.returns-then-not-has_element
returns-then-not-has_element c = refused c.args.config.now c.args.self.now c.args.caller _ _ c.requires.opened (grind (arith, common_steps))
