-- What contracts see of a machine, and what a handle holds.
use Rattle.std.specs.Prelude.{◌≡◌, ℕ, List, [], ◌∷◌}
use Rattle.mv_latch.specs.declared.operation.Wake.{Wake}
use Rattle.mv_machine.specs.declared.entry.Object.{Object}
use Rattle.mv_machine.specs.declared.entry.Op.{Op}
use Rattle.mv_config.specs.Setup.{Setup}
use Rattle.mv_machine.specs.State.{system_of, wakes_of}
use Rattle.mv_machine.specs.System.{System, after_step, wakes_after}
use Rattle.mv_oracle.specs.declared.oracle.Oracle.{Oracle}

-- the state of its objects, and the wakes of the last operation on its latch set
pub record Machine : Type 0 where
  pub system : System
  pub wakes : List Wake

abbrev pub machine_of : Oracle → Machine
machine_of o = record { system = system_of o.state; wakes = wakes_of o.state }

-- the machine after an operation of a caller on an object: the same if the operation is not admitted
abbrev pub after_operation : Setup → Machine → ℕ → Object → Op → Machine
after_operation c m k o op = record { system = after_step c m.system k o op; wakes = wakes_after c m.system m.wakes k o op }

-- a handle holds the machine of this configuration, in this state
pub record Holds (held : List Oracle) (c : Setup) (m : Machine) : Type 0 where
  pub oracle : Oracle
  pub one : held ≡ oracle ∷ []
  pub config : oracle.config ≡ c
  pub machine : machine_of oracle ≡ m
