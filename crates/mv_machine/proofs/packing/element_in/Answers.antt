use Rattle.std.proofs.Common.{refl}
use Rattle.mv_machine.proofs.packing.element_in.Goals as goal

pub returns-in-2 : goal.returns-in-2
returns-in-2 c = rw (c.in-2.is, c.prereleased.ensures) refl

pub returns-in-4 : goal.returns-in-4
returns-in-4 c = rw (c.in-4.is, c.released.ensures) refl
