use Rattle.std.proofs.Common.{◌≡◌, ◌++◌, take, flat_map}
use Rattle.std.specs.Prelude.{All}
use Rattle.mv_script.specs.AnswerText.{slot_text, IsSlotInRange}
use Rattle.mv_runscript.proofs.text.push_slots.Given as goal

abbrev pub invariant-loop-slot : goal.invariant-loop-slot
invariant-loop-slot l = record {
  text : l.out.items ≡ l.initial.out.items ++ flat_map slot_text (take l.slot-index l.slots);
  in_range : All IsSlotInRange (take l.slot-index l.slots);
}
