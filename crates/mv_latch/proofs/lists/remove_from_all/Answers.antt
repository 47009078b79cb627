-- The list at hand is still as it was, so what is removed from it is what the purge says.
use Rattle.std.proofs.Common.{◌<◌, ◌++◌, length, map, get_or, sym, ap, ◌∙◌, subst, arith}
use Rattle.std.proofs.lemmas.List.{length-map, map-set}
use Rattle.mv_latch.specs.Request.{wake_of}
use Rattle.mv_latch.specs.Latch.{purged, newly_granted, granted_by_purge, HasDistinctIds}
use Rattle.mv_latch.specs.Queues.{items_of}
use Rattle.mv_latch.proofs.Purges.{here, distinct_at, total_at, turn_fits, turn_told, turn_counted}
use Rattle.mv_latch.proofs.Purges.{turn_purged, capacities_kept, granted_by_purge_fit}
use Rattle.mv_latch.proofs.lists.remove_from_all.Goals as goal

pub remove-granted-requires-clause-distinct : goal.remove-granted-requires-clause-distinct
remove-granted-requires-clause-distinct c =
    let e =
    here c.args.requestor c.args.lists.now c.loop-i.lists c.loop-i.i c.index-lists-i.result c.loop-i.invariant.purged (omega arith) in
    subst HasDistinctIds (sym e) (distinct_at (items_of c.args.lists.now) c.loop-i.i c.requires.distinct)

pub remove-granted-requires-clause-fits : goal.remove-granted-requires-clause-fits
remove-granted-requires-clause-fits c =
    let e =
    here c.args.requestor c.args.lists.now c.loop-i.lists c.loop-i.i c.index-lists-i.result c.loop-i.invariant.purged (omega arith) in
    omega (
      arith,
      ap length e,
      (get_or c.loop-i.lists c.loop-i.i c.index-lists-i.result).ok.0,
      total_at (items_of c.args.lists.now) c.loop-i.i,
      c.requires.fits,
    )

pub remove-granted-requires-clause-room : goal.remove-granted-requires-clause-room
remove-granted-requires-clause-room c =
    let old = items_of c.args.lists.now in
    let lt : c.loop-i.i < length old = simp length-map (omega arith) in
    let e =
    here c.args.requestor c.args.lists.now c.loop-i.lists c.loop-i.i c.index-lists-i.result c.loop-i.invariant.purged (omega arith) in
    omega (
      arith,
      ap (λ z. length (granted_by_purge c.args.requestor z)) e,
      turn_fits 0 (granted_by_purge c.args.requestor) old _ _ c.loop-i.i lt c.loop-i.invariant.told,
    )

pub overflow_add-granted : goal.overflow_add-granted
overflow_add-granted c =
    let old = items_of c.args.lists.now in
    let lt : c.loop-i.i < length old = simp length-map (omega arith) in
    let e =
    here c.args.requestor c.args.lists.now c.loop-i.lists c.loop-i.i c.index-lists-i.result c.loop-i.invariant.purged (omega arith) in
    let newly =
    ap (newly_granted (get_or c.loop-i.lists c.loop-i.i c.index-lists-i.result).items) c.remove-granted.ensures.items
    ∙ ap (granted_by_purge c.args.requestor) e in
    omega (
      arith,
      turn_counted (granted_by_purge c.args.requestor) old _ _ _ c.loop-i.i lt c.loop-i.invariant.counted
          (c.remove-granted.ensures.count ∙ ap length newly),
      granted_by_purge_fit c.args.requestor old,
      c.requires.fits,
    )

pub loop-i-preserved : goal.loop-i-preserved
loop-i-preserved c =
    let old = items_of c.args.lists.now in
    let lt : c.loop-i.i < length old = simp length-map (omega arith) in
    let e =
    here c.args.requestor c.args.lists.now c.loop-i.lists c.loop-i.i c.index-lists-i.result c.loop-i.invariant.purged (omega arith) in
    let newly =
    ap (newly_granted (get_or c.loop-i.lists c.loop-i.i c.index-lists-i.result).items) c.remove-granted.ensures.items
    ∙ ap (granted_by_purge c.args.requestor) e in
    record {
      purged =
          turn_purged c.args.requestor old (items_of c.loop-i.lists) _ c.remove-granted.new.list.items c.loop-i.i lt
          c.loop-i.invariant.purged (map-set _ c.loop-i.lists c.loop-i.i c.remove-granted.new.list)
          (c.remove-granted.ensures.items ∙ ap (purged c.args.requestor) e);
      counted =
          turn_counted (granted_by_purge c.args.requestor) old _ _ _ c.loop-i.i lt c.loop-i.invariant.counted
          (c.remove-granted.ensures.count ∙ ap length newly);
      told =
          turn_told 0 (granted_by_purge c.args.requestor) old _ _ _ c.loop-i.i lt c.loop-i.invariant.told
          (c.remove-granted.ensures.wakes ∙ ap (λ z. c.loop-i.wakes.items ++ map (wake_of 0) z) newly);
      capacities =
          capacities_kept c.loop-i.lists c.loop-i.i c.index-lists-i.result c.remove-granted.new.list (omega arith)
          c.remove-granted.ensures.capacity ∙ c.loop-i.invariant.capacities;
      wakes_capacity = c.remove-granted.ensures.wakes_capacity ∙ c.loop-i.invariant.wakes_capacity;
    }
