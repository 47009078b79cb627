-- The objects of a configuration.
use Rattle.std.specs.Prelude.{◌<◌, length}
use Rattle.mv_machine.specs.declared.entry.Object.{Object}
use Rattle.mv_machine.specs.declared.entry.Object.TheVariants.{Ecb, Element, Volume, Latches}
use Rattle.mv_config.specs.Setup.{Setup, element_count}

-- a configuration has this object
abbrev pub IsObjectOf : Setup → Object → Type 0
IsObjectOf c (Ecb n) = n < length c.owners
IsObjectOf c (Element n) = n < element_count c
IsObjectOf c (Volume n) = n < c.volumes
IsObjectOf c Latches = Unit {0}
