-- Each list holds new cells alone.
use Rattle.std.proofs.Common.{◌≡◌, replicate, refl, ap, arith}
use Rattle.std.proofs.lemmas.Grind.{common_steps}
use Rattle.std.proofs.lemmas.List.{length-replicate}
use Rattle.mv_config.specs.Config.{setup_of}
use Rattle.mv_config.specs.Setup.{Setup}
use Rattle.mv_machine.specs.declared.state.State.{State}
use Rattle.mv_machine.proofs.LatchIds.{none_in_new}
use Rattle.mv_machine.proofs.Writes.{same_fits}
use Rattle.mv_machine.specs.State.{no_ecb, no_element, no_volume}
use Rattle.mv_machine.proofs.Tables.{opens}
use Rattle.mv_machine.proofs.state.State.opening.Goals as goal

new_ecbs : (c : goal.In_ok-wakes) → c.in_ok-ecbs.ecbs.items ≡ replicate c.len.result no_ecb
new_ecbs c = rw c.zero.ensures at (c.in_ok-ecbs.ensures.items_if_clones_equal (λ y e. e))

new_elements : (c : goal.In_ok-wakes) → c.in_ok-elements.elements.items ≡ replicate c.elements.result no_element
new_elements c = rw c.free.ensures at (c.in_ok-elements.ensures.items_if_clones_equal (λ y e. e))

new_volumes : (c : goal.In_ok-wakes) → c.in_ok-volumes.volumes.items ≡ replicate c.config-given.result.now.volumes no_volume
new_volumes c = c.in_ok-volumes.ensures.items_if_clones_equal (λ y e. e)

abbrev the_state : goal.In_ok-wakes → State
the_state c = record {
  ecbs = c.in_ok-ecbs.ecbs;
  elements = c.in_ok-elements.elements;
  volumes = c.in_ok-volumes.volumes;
  latches = c.in_ok-latches.latches;
  latch_place = 0;
  wakes = c.in_ok-wakes.wakes;
}

pub returns-clause-system : goal.returns-clause-system
returns-clause-system c =
    opens c.args.config.now (the_state c) c.len.result c.elements.result c.config-given.result.now.volumes (new_ecbs c) (new_elements c)
    (new_volumes c) refl (grind (arith, common_steps))

pub returns-clause-opened : goal.returns-clause-opened
returns-clause-opened c =
    let given : setup_of c.config-given.result.now ≡ c.args.config.now = c.config-given.ensures.given in
    let made = c.in_ok-latches.ensures in
    record {
      ecbs = grind (arith, common_steps, new_ecbs c, length-replicate);
      elements = grind (arith, common_steps, new_elements c, length-replicate);
      volumes = rw (new_volumes c, length-replicate) (ap (λ (x : Setup). x.volumes) given);
      lists = grind (arith, common_steps, length-replicate);
      latches = rw made refl;
      room = omega (arith, c.in_ok-wakes.ensures.exact, c.most_wakes.ensures);
      new_ids = λ id le. rw made (none_in_new c.args.config.now.latches id);
      generations = same_fits _ _ (returns-clause-system c) (λ n. omega arith);
    }
