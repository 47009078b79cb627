use Rattle.std.proofs.Common.{◌≡◌, [], ◌∷◌, length, append_assoc, refl, ap, sym, ◌∙◌, arith}
use Rattle.std.specs.Vec.Iter.{into_iter_items}
use Rattle.std.proofs.lemmas.List.{length-append, length-map, map-append}
use Rattle.mv_machine.proofs.Lists.{all_append}
use Rattle.mv_pollscript.specs.Task.{IsNewTask}
use Rattle.mv_pollscript.proofs.Tasks.{task_of}
use Rattle.mv_pollscript.proofs.run.all_new.Goals as goal

pub push_reserved-requires : goal.push_reserved-requires
push_reserved-requires c =
    let since = c.loop-task.invariant in
    let count = sym (length-map c.loop-task.all.items task_of) ∙ ap length since.tasks in
    let all = simp length-append at (ap length (rw c.in-Some.ensures.steps.0 at since.yielded)) in
    let gives : into_iter_items c.into_iter-task-iterator.result ≡ c.args.tasks.items =
    c.into_iter-task-iterator.ensures.into_iter_gives.0 in
    let whole = ap length gives in
    let room = since.room in omega arith

pub loop-task-preserved : goal.loop-task-preserved
loop-task-preserved c =
    let since = c.loop-task.invariant in
    let steps = c.in-Some.ensures.steps in
    let more = c.push_reserved.ensures in
    let one = c.new-one.result in
    let new = c.new-one.ensures in record {
      yielded = rw append_assoc (rw steps.0 at since.yielded);
      count = (let left = ap length steps.0 in let all = since.count in omega arith);
      new = rw more.items (all_append IsNewTask c.loop-task.all.items (one ∷ []) since.new
          (record { answers = new.answers; requests = new.requests; stage = new.stage }, tt));
      tasks = rw (more.items, map-append task_of c.loop-task.all.items (one ∷ []), since.tasks, new.task) refl;
      room = (let room = since.room in let capacity = more.capacity in omega arith);
    }
