use Rattle.std.proofs.Common.{◌≡◌, ◌++◌, map}
use Rattle.mv_line.specs.Part.{left_of}
use Rattle.mv_deck.specs.Form.{part_data, listed}
use Rattle.mv_deck.proofs.form.parts_of.Given as goal

abbrev pub invariant-loop-rest : goal.invariant-loop-rest
invariant-loop-rest l = map part_data l.parts.items ++ listed l.version l.rest ≡ listed l.version l.list

abbrev pub decreases-loop-rest : goal.decreases-loop-rest
decreases-loop-rest l = left_of l.rest
