use Rattle.std.proofs.Common.{◌≡◌, [], ◌∷◌, ◌++◌, length, map, sym, ap, ◌∙◌, subst, arith}
use Rattle.std.proofs.lemmas.List.{length-map}
use Rattle.mv_machine.specs.Legal.{Legal, after}
use Rattle.mv_machine.specs.Merge.{merged}
use Rattle.mv_machine.specs.Parts.{KeepsBudgets}
use Rattle.mv_board.specs.Faces.{BoardFace, CallerFace, AreInOrder, IsOf, AreHeld, part_of}
use Rattle.mv_board.proofs.Ends.{next_in_order, taken_more, left_less, back_more, all_back, each_in, logs_of_parts}
use Rattle.mv_wait.proofs.station.Station.close.Goals as goal

pub take_back-requires : goal.take_back-requires
take_back-requires c =
    let i = c.loop-task.invariant in
    let all = sym i.yielded ∙ ap (λ xs. c.loop-task.yielded ++ xs) c.in-Some.ensures.steps.0 in
    let next = next_in_order c.args.self 0 c.loop-task.yielded c.in-Some.task _ (subst (AreInOrder c.args.self 0) all c.requires.order) in
    let number = next.1 in
    let back = ap length i.back in
    let same = ap (λ (d : CallerFace). d.number) c.into_caller.ensures in record {
      board = subst (λ (d : CallerFace). IsOf c.loop-task.closing.board d) (sym c.into_caller.ensures)
          (subst (λ (b : BoardFace). IsOf b c.in-Some.task) (sym i.board) next.0);
      next = omega arith;
    }

pub loop-task-preserved : goal.loop-task-preserved
loop-task-preserved c =
    let i = c.loop-task.invariant in
    let task = c.in-Some.task in
    let step = c.in-Some.ensures.steps in record {
      yielded = taken_more c.loop-task.yielded _ _ _ task i.yielded step.0;
      count = left_less _ _ task _ _ i.count step.0 step.1;
      board = c.take_back.ensures.board ∙ i.board;
      back = c.take_back.ensures.back ∙ (ap (λ (d : CallerFace). c.loop-task.closing.back ++ part_of d ∷ []) c.into_caller.ensures
          ∙ back_more c.loop-task.yielded task _ i.back);
    }

-- behind the last task as many parts have come back as there are tasks
pub done-requires : goal.done-requires
done-requires c =
    let i = c.loop-task.invariant in
    let none = sym i.count ∙ c.in-None.ensures.steps.0 in
    let back = all_back c.loop-task.yielded _ c.args.tasks.items _ i.yielded none i.back in record {
      all = ap length back
          ∙ (length-map c.args.tasks.items part_of ∙ (c.requires.all ∙ sym (ap (λ (b : BoardFace). b.config.callers) i.board)));
    }

-- and they are those of the tasks, in order
all_are_back : (c : goal.After-drop-self-inside) → c.loop-task.closing.back ≡ map part_of c.args.tasks.items
all_are_back c =
    let i = c.loop-task.invariant in
    all_back c.loop-task.yielded _ c.args.tasks.items _ i.yielded (sym i.count ∙ c.in-None.ensures.steps.0) i.back

pub returns-clause-config : goal.returns-clause-config
returns-clause-config c = c.done.ensures.config ∙ ap (λ (b : BoardFace). b.config) c.loop-task.invariant.board

pub returns-clause-whole : goal.returns-clause-whole
returns-clause-whole c = c.done.ensures.whole

pub returns-clause-legal : goal.returns-clause-legal
returns-clause-legal c = subst (λ (b : BoardFace). Legal b.config c.done.result.history.coming) c.loop-task.invariant.board
    c.done.ensures.legal

pub returns-clause-few : goal.returns-clause-few
returns-clause-few c = c.done.ensures.few

pub returns-clause-budgets : goal.returns-clause-budgets
returns-clause-budgets c = subst (λ (b : BoardFace). KeepsBudgets b.config c.done.result.history.coming) c.loop-task.invariant.board
    c.done.ensures.budgets

pub returns-clause-merged : goal.returns-clause-merged
returns-clause-merged c =
    c.done.ensures.merged ∙ (ap (λ ps. merged (map (λ p. p.log) ps)) (all_are_back c) ∙ ap merged (logs_of_parts c.args.tasks.items))

pub returns-clause-callers : goal.returns-clause-callers
returns-clause-callers c =
    each_in c.done.result.history.coming c.args.tasks.items c.loop-task.invariant.board (all_are_back c) c.done.ensures.callers

pub returns-clause-volumes : goal.returns-clause-volumes
returns-clause-volumes c =
    subst (λ (b : BoardFace). AreHeld b.config (after b.config c.done.result.history.coming) c.done.result.volumes)
    c.loop-task.invariant.board c.done.ensures.volumes
