use Rattle.std.proofs.Common.{◌≡◌, [], ◌∷◌, length, append_assoc, refl, ap, arith}
use Rattle.std.specs.Vec.Iter.{into_iter_items}
use Rattle.std.proofs.lemmas.List.{length-append, map-append}
use Rattle.mv_machine.proofs.Lists.{all_append}
use Rattle.mv_deck.specs.Deck.{deck_data}
use Rattle.mv_polledspool.specs.Polled.{IsUnpolled}
use Rattle.mv_polledspool.proofs.Running.{task_count, task_of}
use Rattle.mv_polledspool.proofs.spool.all_polled.Goals as goal

pub push_reserved-requires : goal.push_reserved-requires
push_reserved-requires c =
    let since = c.loop-task.invariant in
    let count = task_count c.loop-task.yielded c.loop-task.polled.items since.tasks in
    let all = simp length-append at (ap length (rw c.in-Some.ensures.steps.0 at since.yielded)) in
    let gives : into_iter_items c.into_iter-task-iterator.result ≡ c.args.tasks.items =
    c.into_iter-task-iterator.ensures.into_iter_gives.0 in
    let whole = ap length gives in
    let room = since.room in omega arith

pub loop-task-preserved : goal.loop-task-preserved
loop-task-preserved c =
    let since = c.loop-task.invariant in
    let steps = c.in-Some.ensures.steps in
    let more = c.push_reserved.ensures in
    let polled = c.in_ok-new.field-0 in record {
      yielded = rw append_assoc (rw steps.0 at since.yielded);
      count = (let left = ap length steps.0 in let all = since.count in omega arith);
      new = rw more.items (all_append (IsUnpolled (deck_data c.args.deck.now) c.args.initiators) c.loop-task.polled.items (polled ∷ [])
          since.new (c.in_ok-new.ensures.new, tt));
      tasks = rw (more.items, map-append task_of c.loop-task.polled.items (polled ∷ []), since.tasks, c.in_ok-new.ensures.task) refl;
      room = (let room = since.room in let capacity = more.capacity in omega arith);
    }
