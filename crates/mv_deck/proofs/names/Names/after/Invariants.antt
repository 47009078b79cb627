use Rattle.std.proofs.Common.{◌≡◌, map, take}
use Rattle.mv_deck.specs.declared.form.Part.{Part}
use Rattle.mv_deck.specs.Form.{part_data}
use Rattle.mv_deck.specs.Names.{after_in}
use Rattle.mv_deck.proofs.names.Names.after.Given as goal

abbrev pub invariant-loop-part : goal.invariant-loop-part
invariant-loop-part l = l.after.items ≡ map (λ (p : Part). after_in l.self (part_data p)) (take l.part-index l.parts)
