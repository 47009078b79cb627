-- The fields so far, and those from the one at hand on.
use Rattle.std.proofs.Common.{◌≡◌, ◌+◌, length}
use Rattle.mv_line.specs.Field.{fields_of, starts_fields}
use Rattle.mv_scriptline.proofs.words.field_count.Given as goal

abbrev pub invariant-loop-rest : goal.invariant-loop-rest
invariant-loop-rest l = length (fields_of l.text) ≡ l.count + length (starts_fields l.word (fields_of l.rest))

abbrev pub decreases-loop-rest : goal.decreases-loop-rest
decreases-loop-rest l = length (starts_fields l.word (fields_of l.rest))
