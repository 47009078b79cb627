-- What was read so far, and the words from the one at hand on.
use Rattle.std.proofs.Common.{◌≡◌, length}
use Rattle.mv_line.specs.Field.{fields_of, starts_fields}
use Rattle.mv_scriptline.specs.Operand.{ecb}
use Rattle.mv_scriptline.specs.Words.{each}
use Rattle.mv_scriptline.proofs.Lists.{so_far, continued}
use Rattle.mv_scriptline.proofs.operand.Sizes.ecbs.Given as goal

abbrev pub invariant-loop-word : goal.invariant-loop-word
invariant-loop-word l =
    each (ecb l.self) (fields_of l.words)
    ≡ continued (so_far l.misread l.numbers.items) (each (ecb l.self) (starts_fields l.word (fields_of l.rest)))

abbrev pub decreases-loop-word : goal.decreases-loop-word
decreases-loop-word l = length (starts_fields l.word (fields_of l.rest))
