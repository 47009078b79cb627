-- What has been gone through is legal, and the state is where it leads.
use Rattle.std.proofs.Common.{◌≡◌, ◌<◌, take}
use Rattle.mv_config.specs.Limits.{place_limit}
use Rattle.mv_machine.specs.declared.entry.Object.{Object}
use Rattle.mv_machine.specs.Legal.{LegalFrom, after_from}
use Rattle.mv_machine.specs.State.{system_of, wakes_of, IsOpenedWith}
use Rattle.mv_machine.specs.System.{place_of}
use Rattle.mv_machine.specs.Told.{last_wakes_from}
use Rattle.mv_machine.proofs.replaying.first_illegal.Given as goal

abbrev pub invariant-loop-i : goal.invariant-loop-i
invariant-loop-i l = record {
  legal : LegalFrom l.config (system_of l.fn.state) (take l.i l.entries);
  state : system_of l.state ≡ after_from (system_of l.fn.state) (take l.i l.entries);
  wakes : wakes_of l.state ≡ last_wakes_from (system_of l.fn.state) (wakes_of l.fn.state) (take l.i l.entries);
  opened : IsOpenedWith l.config l.state;
  places : (o : Object) → place_of (system_of l.state) o < place_limit;
}
