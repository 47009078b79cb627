use Rattle.std.proofs.Common.{◌≡◌, [], ◌∷◌, ◌++◌, length, append_assoc, flat_map, sym, ap, ◌∙◌, arith}
use Rattle.std.specs.Vec.Iter.{into_iter_items}
use Rattle.std.proofs.lemmas.Grind.{flat_map-append}
use Rattle.std.proofs.lemmas.List.{append-nil, length-append}
use Rattle.mv_work.specs.declared.work.SpoolWork.{SpoolWork}
use Rattle.mv_work.specs.Works.{records_in}
use Rattle.mv_work.proofs.results.records_of.Goals as goal

pub push_noted-requires : goal.push_noted-requires
push_noted-requires c =
    let since = c.loop-work.invariant in
    let all = simp length-append at (ap length (rw c.in-Some.ensures.steps.0 at since.yielded)) in
    let gives : into_iter_items c.into_iter-work-iterator.result ≡ c.args.works.items =
    c.into_iter-work-iterator.ensures.into_iter_gives.0 in
    let whole = ap length gives in
    let few = since.few in
    let room = since.room in omega arith

pub loop-work-preserved : goal.loop-work-preserved
loop-work-preserved c =
    let since = c.loop-work.invariant in
    let steps = c.in-Some.ensures.steps in
    let more = c.push_noted.ensures in
    let one = c.in-Some.work in record {
      yielded = rw append_assoc (rw steps.0 at since.yielded);
      count = (let left = ap length steps.0 in let all = since.count in omega arith);
      records = more.records ∙ ap (λ rs. rs ++ records_in one.role) since.records
          ∙ sym (flat_map-append (λ (w : SpoolWork). records_in w.role) c.loop-work.yielded (one ∷ [])
          ∙ ap (λ rs. flat_map (λ (w : SpoolWork). records_in w.role) c.loop-work.yielded ++ rs) (append-nil (records_in one.role)));
      few = (let few = since.few in let count = more.count in let long = length-append c.loop-work.yielded (one ∷ []) in omega arith);
      room = (let room = since.room in let capacity = more.room in omega arith);
    }
