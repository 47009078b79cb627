use Rattle.std.proofs.Common.{arith}
use Rattle.mv_machine.proofs.packing.state_in.Goals as goal

pub returns-in-Some-element_in : goal.returns-in-Some-element_in
returns-in-Some-element_in c = grind (arith, c.element_in.ensures, c.in-Some-element_in.ensures)
