use Rattle.std.proofs.Common.{◌≡◌, ◌+◌, ◌≤◌, [], ◌∷◌, ◌++◌, length, append-nil, length-append, sym, ap, ◌∙◌, subst}
use Rattle.std.specs.Vec.Iter.{into_iter_items}
use Rattle.std.proofs.lemmas.List.{nil_from_length}
use Rattle.mv_board.specs.Faces.{AreFresh}
use Rattle.mv_board.proofs.Ends.{taken_more, left_less}
use Rattle.mv_wait.proofs.Peeks.{fresh_at}
use Rattle.mv_wait.proofs.station.tasks_of.Goals as goal

pub opened-requires : goal.opened-requires
opened-requires c =
    let all = sym c.loop-caller.invariant.yielded ∙ ap (λ xs. c.loop-caller.yielded ++ xs) c.in-Some.ensures.steps.0 in
    let one = fresh_at c.args.board.now 0 c.loop-caller.yielded c.in-Some.caller _
    (subst (AreFresh c.args.board.now 0) all c.requires) in record {
      about = one.1.board.1 ∙ ap (λ s. s ∷ []) (sym c.config.ensures);
      new = one.1.log;
    }

pub loop-caller-preserved : goal.loop-caller-preserved
loop-caller-preserved c =
    let i = c.loop-caller.invariant in
    let caller = c.in-Some.caller in
    let step = c.in-Some.ensures.steps in
    let waker = c.push_reserved.ensures in
    let task = c.push_reserved-in-loop-caller.ensures in record {
      yielded = taken_more c.loop-caller.yielded _ _ _ caller i.yielded step.0;
      count = left_less _ _ caller _ _ i.count step.0 step.1;
      tasks = task.items ∙ (ap (λ xs. xs ++ c.in_ok-task.task ∷ []) i.tasks
          ∙ ap (λ x. c.loop-caller.yielded ++ x ∷ []) c.in_ok-task.ensures);
      wakers = waker.len ∙ (ap (λ n. n + 1) i.wakers ∙ sym (length-append c.loop-caller.yielded (caller ∷ [])));
      room = (
        subst (λ n. length c.args.callers.items ≤ n) (sym task.capacity) i.room.0,
        subst (λ n. length c.args.callers.items ≤ n) (sym waker.capacity) i.room.1,
      );
    }

-- behind the last caller all have been seen
all_yielded : (c : goal.After-drop-caller-iterator-2) → c.loop-caller.yielded ≡ c.args.callers.items
all_yielded c =
    let i = c.loop-caller.invariant in
    let none = nil_from_length (into_iter_items c.loop-caller.caller-iterator) (sym i.count ∙ c.in-None.ensures.steps.0) in
    sym (append-nil c.loop-caller.yielded) ∙ (ap (λ xs. c.loop-caller.yielded ++ xs) (sym none) ∙ i.yielded)

pub returns-clause-tasks : goal.returns-clause-tasks
returns-clause-tasks c = c.loop-caller.invariant.tasks ∙ all_yielded c

pub returns-clause-wakers : goal.returns-clause-wakers
returns-clause-wakers c = c.loop-caller.invariant.wakers ∙ ap length (all_yielded c)
