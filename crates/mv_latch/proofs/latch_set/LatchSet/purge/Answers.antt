-- All lists are read, changed and written back.
use Rattle.std.proofs.Common.{◌*◌, ◌∙◌, refl, sym, ap, subst, arith, length, map, length-append}
use Rattle.std.specs.List.{AllByRecursion, flat_map}
use Rattle.std.proofs.lemmas.List.{length-map}
use Rattle.mv_latch.specs.Request.{of_requestor}
use Rattle.mv_latch.specs.Latch.{purged, waiting_of, granted_by_purge, HasDistinctIds}
use Rattle.mv_latch.specs.LatchSet.{LatchLists, count_in, request_count}
use Rattle.mv_latch.specs.Queues.{items_of, capacities}
use Rattle.mv_latch.specs.Inside.{view_of}
use Rattle.mv_latch.proofs.Quotas.{counts_fit, total_fit, purge_told, all_distinct, sound_purge}
use Rattle.mv_latch.proofs.InMemory.{ready_all}
use Rattle.mv_latch.proofs.latch_set.LatchSet.purge.Goals as goal

pub count_in_all-removed-requires : goal.count_in_all-removed-requires
count_in_all-removed-requires c =
    let t = of_requestor c.args.requestor in
    omega (arith, counts_fit t (view_of c.self.inside) c.self.invariant.sound, ap (λ z. count_in t (items_of z)) c.deref.ensures.value)

pub wake_all_waiting-requires : goal.wake_all_waiting-requires
wake_all_waiting-requires c =
    omega (
      arith,
      purge_told c.args.requestor (view_of c.self.inside) c.self.invariant.sound,
      c.requires,
      ap (λ (z : LatchLists). z.callers * z.quota) c.self.view_is,
      ap (λ z. length (flat_map (waiting_of c.args.requestor) (items_of z))) c.deref-2.ensures.value,
    )

pub remove_from_all-granted-requires-clause-distinct : goal.remove_from_all-granted-requires-clause-distinct
remove_from_all-granted-requires-clause-distinct c =
    subst (λ z. AllByRecursion HasDistinctIds (items_of z)) (sym c.deref_mut.ensures.value)
    (all_distinct (items_of c.self.inside.lists.items) c.self.invariant.sound.distinct)

pub remove_from_all-granted-requires-clause-fits : goal.remove_from_all-granted-requires-clause-fits
remove_from_all-granted-requires-clause-fits c =
    let w = c.self.invariant.sound in
    omega (arith, total_fit (view_of c.self.inside) w, w.fits, ap (λ z. request_count (items_of z)) c.deref_mut.ensures.value)

pub remove_from_all-granted-requires-clause-room : goal.remove_from_all-granted-requires-clause-room
remove_from_all-granted-requires-clause-room c =
    let told = simp (length-append, length-map) at (ap length c.wake_all_waiting.ensures.items) in
    omega (
      arith,
      purge_told c.args.requestor (view_of c.self.inside) c.self.invariant.sound,
      c.requires,
      c.wake_all_waiting.ensures.capacity,
      ap (λ (z : LatchLists). z.callers * z.quota) c.self.view_is,
      ap (λ z. length (flat_map (waiting_of c.args.requestor) (items_of z))) c.deref-2.ensures.value,
      ap (λ z. length (flat_map (granted_by_purge c.args.requestor) (items_of z))) c.deref_mut.ensures.value,
    )

pub overflow_cast-result : goal.overflow_cast-result
overflow_cast-result c =
    let t = of_requestor c.args.requestor in
    omega (
      arith,
      c.count_in_all-removed.ensures,
      counts_fit t (view_of c.self.inside) c.self.invariant.sound,
      ap (λ z. count_in t (items_of z)) c.deref.ensures.value,
    )

pub invariant_of-self : goal.invariant_of-self
invariant_of-self c =
    let w = c.self.invariant.sound in
    let items = c.remove_from_all-granted.ensures.items ∙ ap (λ z. map (purged c.args.requestor) (items_of z)) c.deref_mut.ensures.value in
    let long = simp length-map at (ap length items) in
    ready_all c.self.inside (view_of c.self.inside) c.remove_from_all-granted.new.lists _ c.self.invariant refl long items
    (c.remove_from_all-granted.ensures.capacities ∙ ap capacities c.deref_mut.ensures.value)
    (sound_purge (view_of c.self.inside) c.args.requestor w)
