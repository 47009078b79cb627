use Rattle.std.proofs.Common.{arith}
use Rattle.std.proofs.lemmas.Grind.{common_steps}
use Rattle.std.proofs.lemmas.List.Elements.{All-more}
use Rattle.mv_script.specs.AnswerText.{IsSlotInRange}
use Rattle.mv_runscript.proofs.text.push_slots.Goals as goal

pub loop-slot-preserved : goal.loop-slot-preserved
loop-slot-preserved c = record {
  text = grind (arith, common_steps);
  in_range = All-more IsSlotInRange c.args.slots.now c.loop-slot.slot-index _ (omega arith) c.loop-slot.invariant.in_range
      c.in_ok-push_slot.ensures.in_range;
}
