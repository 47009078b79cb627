use Rattle.std.proofs.Common.{[], ◌∷◌, ◌++◌, length, append_assoc, ap, sym, ◌∙◌, arith}
use Rattle.std.proofs.lemmas.List.{map-append}
use Rattle.mv_pollscript.proofs.Tasks.{answers_of, task_of}
use Rattle.mv_pollscript.proofs.run.parted.Goals as goal

pub loop-one-preserved : goal.loop-one-preserved
loop-one-preserved c =
    let since = c.loop-one.invariant in
    let steps = c.in-Some.ensures.steps in
    let one = c.in-Some.one in
    let tasks = c.push_reserved.ensures in
    let lists = c.push_reserved-in-loop-one.ensures in record {
      yielded = rw append_assoc (rw steps.0 at since.yielded);
      count = (let left = ap length steps.0 in let all = since.count in omega arith);
      tasks = tasks.items ∙ ap (λ ts. ts ++ one.task ∷ []) since.tasks ∙ sym (map-append task_of c.loop-one.yielded (one ∷ []));
      lists = lists.items ∙ ap (λ ls. ls ++ one.answers.items ∷ []) since.lists
          ∙ sym (map-append answers_of c.loop-one.yielded (one ∷ []));
      tasks_room = (let room = since.tasks_room in let capacity = tasks.capacity in omega arith);
      lists_room = (let room = since.lists_room in let capacity = lists.capacity in omega arith);
    }
