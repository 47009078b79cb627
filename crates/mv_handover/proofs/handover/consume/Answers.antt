use Rattle.std.proofs.Common.{◌+◌, ◌%◌, ◌<◌, ◌==◌, ◌++◌, ◌∷◌, [], length, sym, ap, ◌∙◌, subst, arith, if◌then◌else◌}
use Rattle.std.proofs.lemmas.List.{length-append}
use Rattle.mv_handover.specs.Ready.{CanHandOver}
use Rattle.mv_handover.specs.Setup.{slots}
use Rattle.mv_handover.specs.Slots.{part}
use Rattle.mv_handover.proofs.Through.{full_owner, posts_put_other, posts_took, takes_put, takes_took, part_next}
use Rattle.mv_handover.proofs.handover.consume.Goals as goal

pub loop-slot-preserved : goal.loop-slot-preserved
loop-slot-preserved g c =
    let slot = c.loop-slot.slot in
    let since = c.loop-slot.invariant in
    let old = c.loop-slot.task in
    let new = c.put.new.task in
    let put = c.put.ensures.put in
    let spent = put.added.left in
    let left = since.left in record {
      ready = subst (λ k. CanHandOver c.args.station.now k new) since.ready.number c.put.ensures.ready;
      left = omega arith;
      seen = λ s low. (takes_put (4 + slot) 0 s old new put (since.seen s low)).1;
      takes = λ s low. (takes_put (4 + slot) 0 s old new put (since.seen s low)).0 ∙ since.takes s low;
      posts = λ s low.
          posts_put_other (4 + slot) 0 s old new put (λ q. absurd (let b : s < 4 = low in omega arith)) ∙ since.posts s low;
    }

pub take-requires-clause-block : goal.take-requires-clause-block
take-requires-clause-block g c =
    let since = c.loop-i.invariant in
    (omega arith, full_owner c.args.station.now.config since.ready.config (c.loop-i.i % 4) (omega arith) ∙ sym since.ready.number)

pub loop-i-preserved : goal.loop-i-preserved
loop-i-preserved g c =
    let i = c.loop-i.i in
    let code = c.take.result in
    let taken = c.loop-i.taken.items in
    let since = c.loop-i.invariant in
    let old = c.loop-i.task in
    let mid = c.take.new.task in
    let new = c.put-in-loop-i.new.task in
    let took = c.take.ensures.took in
    let put = c.put-in-loop-i.ensures.put in
    let lt = c.loop-i-test.true in
    let first = took.added.left in
    let second = put.added.left in
    let left = since.left in
    let size = since.size in
    let longer = length-append taken (code ∷ []) in
    let more = c.push_reserved.ensures.items in
    let same = ap length more in record {
      ready = subst (λ k. CanHandOver c.args.station.now k new) (took.added.number ∙ since.ready.number)
          c.put-in-loop-i.ensures.ready;
      left = omega arith;
      within = omega arith;
      size = omega arith;
      room = (let r = since.room in let k = c.push_reserved.ensures.capacity in omega arith);
      seen = λ s low. (takes_put (4 + i % 4) 0 s mid new put (takes_took (i % 4) code s old mid took (since.seen s low)).1).1;
      takes = λ s low.
          (takes_put (4 + i % 4) 0 s mid new put (takes_took (i % 4) code s old mid took (since.seen s low)).1).0
          ∙ (takes_took (i % 4) code s old mid took (since.seen s low)).0
          ∙ ap (λ ts. ts ++ (if i % slots == s then code ∷ [] else [])) (since.takes s low)
          ∙ sym (part_next s i code taken since.size) ∙ ap (part s) (sym more);
      posts = λ s low.
          posts_put_other (4 + i % 4) 0 s mid new put (λ q. absurd (let b : s < 4 = low in omega arith))
          ∙ posts_took (i % 4) code s old mid took ∙ since.posts s low;
    }

pub returns-clause-took : goal.returns-clause-took
returns-clause-took g c = record {
  ready = c.loop-i.invariant.ready;
  takes = c.loop-i.invariant.takes;
  posts = c.loop-i.invariant.posts;
}
