-- What is granted now behind the old holders that are left is what is newly granted.
use Rattle.std.proofs.Common.{◌≡◌, ◌++◌, not, length, filter, map, ap, ◌∙◌, arith}
use Rattle.mv_latch.specs.declared.request.Request.{Request}
use Rattle.mv_latch.specs.Request.{wake_of}
use Rattle.mv_latch.specs.Latch.{granted, newly_granted}
use Rattle.mv_latch.specs.Selection.{selects}
use Rattle.mv_latch.proofs.Splits.{length_filter}
use Rattle.mv_latch.proofs.Grants.{IsPass, left_within, newly_is, newly_fit}
use Rattle.mv_latch.proofs.queue.remove.Goals as goal
use Rattle.mv_latch.proofs.queue.remove.Goals.{After-take_out, After-granted_behind-newly}

-- what was taken out is a pass of those that are not selected
pass : (c : After-take_out)
    → IsPass (λ (q : Request). not (selects c.args.selection q)) c.args.list.now.items c.take_out.new.list.items c.granted_left-kept.result
pass c = record {
  distinct = c.requires.distinct;
  left_is = c.granted_left-kept.ensures
      ∙ ap (λ z. length (filter (λ (q : Request). not (selects c.args.selection q)) (granted z))) c.deref.ensures.value;
  new_is = c.take_out.ensures.items;
}

-- so those behind the holders that are left are the newly granted ones
are_new : (c : After-granted_behind-newly)
    → c.granted_behind-newly.result.now ≡ newly_granted c.args.list.now.items c.take_out.new.list.items
are_new c =
    newly_is (λ (q : Request). not (selects c.args.selection q)) _ _ _ _ _ (pass c.before.before) c.deref-2.ensures.value
    c.granted_behind-newly.ensures

pub granted_behind-newly-requires : goal.granted_behind-newly-requires
granted_behind-newly-requires c =
    rw c.deref-2.ensures.value (left_within (λ (q : Request). not (selects c.args.selection q)) _ _ _
    (pass (goal.at.granted_behind-newly-requires c).After-take_out))

pub wake_each-requires : goal.wake_each-requires
wake_each-requires c =
    omega (
      arith,
      c.requires.room,
      ap length (are_new (goal.at.wake_each-requires c).After-granted_behind-newly),
      ap (λ z. length (newly_granted c.args.list.now.items z)) c.take_out.ensures.items,
    )

pub overflow_cast-result : goal.overflow_cast-result
overflow_cast-result c =
    omega (
      arith,
      c.requires.fits,
      ap length (are_new (goal.at.overflow_cast-result c).After-granted_behind-newly),
      newly_fit c.args.list.now.items c.take_out.new.list.items,
      ap length c.take_out.ensures.items,
      length_filter (λ (q : Request). not (selects c.args.selection q)) c.args.list.now.items,
    )

pub returns-clause-count : goal.returns-clause-count
returns-clause-count c = ap length (are_new (goal.at.returns-clause-count c).After-granted_behind-newly)

pub returns-clause-wakes : goal.returns-clause-wakes
returns-clause-wakes c =
    c.wake_each.ensures.items
    ∙ ap (λ z. c.args.wakes.now.items ++ map (wake_of 0) z) (are_new (goal.at.returns-clause-wakes c).After-granted_behind-newly)
