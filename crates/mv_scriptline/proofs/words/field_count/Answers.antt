-- No more fields than bytes.
use Rattle.std.proofs.Common.{arith}
use Rattle.std.proofs.lemmas.Grind.{common_steps}
use Rattle.mv_line.specs.Field.{fields_of}
use Rattle.mv_scriptline.proofs.Fields.{room_for_one}
use Rattle.mv_scriptline.proofs.words.field_count.Goals as goal

pub overflow_add-count : goal.overflow_add-count
overflow_add-count c =
    let few = room_for_one c.args.text.now c.loop-rest.word.now (fields_of c.loop-rest.rest.now) c.loop-rest.count c.loop-rest.invariant
    (grind (arith, common_steps)) in
    omega (arith, few)
