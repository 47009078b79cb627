use Rattle.std.proofs.Common.{◌≡◌, map, drop}
use Rattle.mv_deck.specs.Fault as fault
use Rattle.mv_deck.specs.Form.{part_data}
use Rattle.mv_deck.proofs.parts.has_double.Given as goal

abbrev pub invariant-loop-place : goal.invariant-loop-place
invariant-loop-place l = fault.has_double (map part_data (drop l.place l.parts)) ≡ fault.has_double (map part_data l.parts)
