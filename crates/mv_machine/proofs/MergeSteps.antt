-- One more entry is merged, and the machine makes it.
use Rattle.std.proofs.Common.{◌≡◌, ◌≤◌, List, [], ◌∷◌, ◌++◌, length, sym, ap, ◌∙◌, subst, arith}
use Rattle.mv_machine.specs.declared.entry.Entry.{Entry}
use Rattle.mv_machine.specs.declared.entry.Object.{Object}
use Rattle.mv_machine.specs.declared.entry.Object.TheVariants.{Ecb, Element, Volume, Latches}
use Rattle.mv_machine.specs.Legal.{IsNext, Legal, after}
use Rattle.mv_machine.specs.Merge.{risen}
use Rattle.mv_config.specs.Setup.{Setup}
use Rattle.mv_machine.specs.Objects.{IsObjectOf}
use Rattle.mv_machine.specs.State.{Exists, IsOpenedWith}
use Rattle.mv_machine.specs.declared.state.State.{State}
use Rattle.mv_machine.specs.System.{opening, place_of, after_step, wakes_after}
use Rattle.mv_machine.specs.Told.{last_wakes}
use Rattle.mv_machine.proofs.Histories.{LegalFrom-front, place_bounded, zero_place}
use Rattle.mv_machine.proofs.Longer.{after_longer, last_is_next}
use Rattle.mv_machine.proofs.Merged.{places_after}
use Rattle.mv_machine.proofs.Replays.{last_wakes_from-append, shown_is}

-- a state of the configuration has its objects
pub there : (c : Setup) (s : State) (o : Object) → IsOpenedWith c s → IsObjectOf c o → Exists s o
there c s (Ecb n) o h = omega (arith, o.ecbs)
there c s (Element n) o h = omega (arith, o.elements)
there c s (Volume n) o h = omega (arith, o.volumes)
there c s Latches o h = tt

-- no object has had more entries than there were
pub place_low : (c : Setup) (es : List Entry) (o : Object) → Legal c es → place_of (after c es) o ≤ length es
place_low c es o l = omega (arith, place_bounded c (opening c) es o l, zero_place c o)

module _ (c : Setup) (all journal later : List Entry) (e : Entry) (legal : Legal c all) (cut : (journal ++ e ∷ []) ++ later ≡ all) where
  so_far : Legal c (journal ++ e ∷ [])
  so_far = LegalFrom-front c (opening c) (journal ++ e ∷ []) later (subst (Legal c) (sym cut) legal)

  pub before : Legal c journal
  before = LegalFrom-front c (opening c) journal (e ∷ []) so_far

  -- the entry is the machine's next
  pub is_next : IsNext c (after c journal) e
  is_next = last_is_next c journal e so_far

  -- the machine makes it, and shows its wakes
  pub steps : after_step c (after c journal) e.caller e.object e.op ≡ after c (journal ++ e ∷ [])
  steps = rw (is_next.admits) (sym (after_longer c journal e))

  pub shows : wakes_after c (after c journal) (last_wakes c journal) e.caller e.object e.op ≡ last_wakes c (journal ++ e ∷ [])
  shows =
      shown_is c (after c journal) (last_wakes c journal) e.caller e.object e.op is_next.admits
      ∙ sym (last_wakes_from-append (opening c) [] journal (e ∷ []))

  -- and the places are those of what is merged then
  pub places_rise : place_of (after c (journal ++ e ∷ [])) ≡ risen (place_of (after c journal)) e.object
  places_rise = ap place_of (after_longer c journal e) ∙ places_after c (after c journal) e is_next
