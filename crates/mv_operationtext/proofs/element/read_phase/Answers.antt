-- The longest word is the last: `grind` does not look so deep into a list.
use Rattle.std.proofs.Common.{sym, refl}
use Rattle.mv_operationtext.specs.ElementText.{phase}
use Rattle.mv_operationtext.proofs.element.read_phase.Goals as goal

pub returns-in-Some-after-4 : goal.returns-in-Some-after-4
unfolding phase
returns-in-Some-after-4 c =
    rw (
      sym c.in_default.ensures,
      sym c.in_default-after.ensures,
      sym c.in_default-after-2.ensures,
      sym c.in_default-after-3.ensures,
      sym c.in-Some-after-4.ensures,
    ) refl

pub returns : goal.returns
unfolding phase
returns c =
    rw (
      sym c.in_default.ensures,
      sym c.in_default-after.ensures,
      sym c.in_default-after-2.ensures,
      sym c.in_default-after-3.ensures,
      sym c.in_default-after-4.ensures,
    ) refl
