use Rattle.std.proofs.Common.{[], ◌∷◌, ◌++◌, length, append_assoc, ap, sym, ◌∙◌, arith}
use Rattle.std.proofs.lemmas.List.{map-append}
use Rattle.mv_polledspool.proofs.Running.{task_of, work_of}
use Rattle.mv_polledspool.proofs.spool.parted.Goals as goal

pub loop-one-preserved : goal.loop-one-preserved
loop-one-preserved c =
    let since = c.loop-one.invariant in
    let steps = c.in-Some.ensures.steps in
    let one = c.in-Some.one in
    let tasks = c.push_reserved.ensures in
    let works = c.push_reserved-in-loop-one.ensures in record {
      yielded = rw append_assoc (rw steps.0 at since.yielded);
      count = (let left = ap length steps.0 in let all = since.count in omega arith);
      tasks = tasks.items ∙ ap (λ ts. ts ++ one.task ∷ []) since.tasks ∙ sym (map-append task_of c.loop-one.yielded (one ∷ []));
      works = works.items ∙ ap (λ ws. ws ++ one.work ∷ []) since.works ∙ sym (map-append work_of c.loop-one.yielded (one ∷ []));
      tasks_room = (let room = since.tasks_room in let capacity = tasks.capacity in omega arith);
      works_room = (let room = since.works_room in let capacity = works.capacity in omega arith);
    }
