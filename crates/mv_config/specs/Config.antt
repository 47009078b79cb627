-- How contracts see a configuration.
use Rattle.std.specs.Prelude.{map}
use Rattle.mv_config.specs.declared.config.Config.{Config}
use Rattle.mv_config.specs.declared.config.Exit.{Exit}
use Rattle.mv_config.specs.Setup.{Setup, SetupExit}

-- an exit as a plain record
abbrev pub exit_of : Exit → SetupExit
exit_of x = record { source = x.source; targets = x.targets.items }

-- a configuration as a record of plain numbers and lists
abbrev pub setup_of : Config → Setup
setup_of c = record {
  callers = c.callers;
  elements_per_caller = c.elements_per_caller;
  volumes = c.volumes;
  latches = c.latches;
  quota = c.quota;
  posted_quota = c.posted_quota;
  budgets = c.budgets.items;
  owners = c.owners.items;
  exits = map exit_of c.exits.items;
}
