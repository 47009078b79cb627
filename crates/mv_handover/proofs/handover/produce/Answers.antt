use Rattle.std.proofs.Common.{◌%◌, ◌+◌, ◌≤◌, ◌==◌, ◌++◌, ◌∷◌, [], length, get_or, take, sym, ap, ◌∙◌, subst, arith, if◌then◌else◌}
use Rattle.std.proofs.lemmas.List.{length-take-le, take_more, take_all}
use Rattle.mv_handover.specs.Ready.{CanHandOver}
use Rattle.mv_handover.specs.Setup.{slots}
use Rattle.mv_handover.specs.Slots.{part}
use Rattle.mv_handover.proofs.Through.{free_owner, posts_put, posts_took, part_next}
use Rattle.mv_handover.proofs.handover.produce.Goals as goal

pub take-requires-clause-block : goal.take-requires-clause-block
take-requires-clause-block g c =
    let since = c.loop-i.invariant in
    (omega arith, free_owner c.args.station.now.config since.ready.config (c.loop-i.i % 4) (omega arith) ∙ sym since.ready.number)

pub loop-i-preserved : goal.loop-i-preserved
loop-i-preserved g c =
    let items = c.args.items.now in
    let i = c.loop-i.i in
    let x = get_or items i 0 in
    let since = c.loop-i.invariant in
    let old = c.loop-i.task in
    let mid = c.take.new.task in
    let new = c.put.new.task in
    let took = c.take.ensures.took in
    let put = c.put.ensures.put in
    let lt = c.loop-i-test.true in
    let waited = took.added.left in
    let posted = put.added.left in
    let left = since.left in record {
      ready = subst (λ k. CanHandOver c.args.station.now k new) (took.added.number ∙ since.ready.number) c.put.ensures.ready;
      left = omega arith;
      posts = λ s low.
          posts_put (i % 4) x s mid new put
          ∙ ap (λ ps. ps ++ (if i % slots == s then x ∷ [] else []))
          (posts_took (4 + i % 4) c.take.result s old mid took ∙ since.posts s low)
          ∙ sym (part_next s i x (take i items) (length-take-le i items (let le : i ≤ length items = omega arith in le)))
          ∙ ap (part s) (sym (take_more items i 0 lt));
    }

pub returns : goal.returns
returns g c = record {
  put = record {
    ready = c.loop-i.invariant.ready;
    posts = λ s lt. c.loop-i.invariant.posts s lt ∙ ap (part s) (take_all c.loop-i.i c.args.items.now c.loop-i-test.false);
  };
}
