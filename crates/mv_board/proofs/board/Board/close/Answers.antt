use Rattle.std.proofs.Common.{◌≡◌, ◌+◌, length, map, sym, ap, ◌∙◌, subst, arith}
use Rattle.std.proofs.lemmas.List.{length-map}
use Rattle.mv_machine.specs.Legal.{Legal, after}
use Rattle.mv_machine.specs.Merge.{merged}
use Rattle.mv_machine.specs.Parts.{KeepsBudgets}
use Rattle.mv_board.specs.Faces.{BoardFace, IsOf, AreHeld, part_of}
use Rattle.mv_board.proofs.Ends.{next_left, taken_more, left_less, back_more, all_back, each_in, logs_of_parts}
use Rattle.mv_board.proofs.board.Board.close.Goals as goal

pub take_back-requires-clause-board : goal.take_back-requires-clause-board
take_back-requires-clause-board c =
    let i = c.loop-caller.invariant in
    let next = next_left c.args.self _ _ _ _ c.in-Some.caller c.requires.order i.yielded c.in-Some.ensures.steps.0 in
    subst (λ (b : BoardFace). IsOf b c.in-Some.caller) (sym i.board) next.0

pub take_back-requires-clause-next : goal.take_back-requires-clause-next
take_back-requires-clause-next c =
    let i = c.loop-caller.invariant in
    let next : c.in-Some.caller.number ≡ length (map part_of c.loop-caller.yielded) + 0 =
    (next_left c.args.self _ _ _ _ c.in-Some.caller c.requires.order i.yielded c.in-Some.ensures.steps.0).1 in
    let back = ap length i.back in
    omega arith

pub loop-caller-preserved : goal.loop-caller-preserved
loop-caller-preserved c =
    let i = c.loop-caller.invariant in
    let step = c.in-Some.ensures.steps in record {
      yielded = taken_more c.loop-caller.yielded _ _ _ c.in-Some.caller i.yielded step.0;
      count = left_less _ _ c.in-Some.caller _ _ i.count step.0 step.1;
      board = c.take_back.ensures.board ∙ i.board;
      back = c.take_back.ensures.back ∙ back_more c.loop-caller.yielded c.in-Some.caller _ i.back;
    }

-- behind the last caller as many parts have come back as there are callers
pub done-requires : goal.done-requires
done-requires c =
    let i = c.loop-caller.invariant in
    let none = sym i.count ∙ c.in-None.ensures.steps.0 in
    let back = all_back c.loop-caller.yielded _ c.args.callers.items _ i.yielded none i.back in record {
      all = ap length back
          ∙ (length-map c.args.callers.items part_of ∙ (c.requires.all ∙ sym (ap (λ (b : BoardFace). b.config.callers) i.board)));
    }

-- and they are those of the callers, in order
all_are_back : (c : goal.After-done) → c.loop-caller.closing.back ≡ map part_of c.args.callers.items
all_are_back c =
    let i = c.loop-caller.invariant in
    all_back c.loop-caller.yielded _ c.args.callers.items _ i.yielded (sym i.count ∙ c.in-None.ensures.steps.0) i.back

pub returns-clause-config : goal.returns-clause-config
returns-clause-config c = c.done.ensures.config ∙ ap (λ (b : BoardFace). b.config) c.loop-caller.invariant.board

pub returns-clause-whole : goal.returns-clause-whole
returns-clause-whole c = c.done.ensures.whole

pub returns-clause-legal : goal.returns-clause-legal
returns-clause-legal c = subst (λ (b : BoardFace). Legal b.config c.done.result.history.coming) c.loop-caller.invariant.board
    c.done.ensures.legal

pub returns-clause-few : goal.returns-clause-few
returns-clause-few c = c.done.ensures.few

pub returns-clause-budgets : goal.returns-clause-budgets
returns-clause-budgets c =
    subst (λ (b : BoardFace). KeepsBudgets b.config c.done.result.history.coming) c.loop-caller.invariant.board c.done.ensures.budgets

pub returns-clause-merged : goal.returns-clause-merged
returns-clause-merged c =
    c.done.ensures.merged ∙ (ap (λ ps. merged (map (λ p. p.log) ps)) (all_are_back c) ∙ ap merged (logs_of_parts c.args.callers.items))

pub returns-clause-callers : goal.returns-clause-callers
returns-clause-callers c =
    each_in c.done.result.history.coming c.args.callers.items c.loop-caller.invariant.board (all_are_back c) c.done.ensures.callers

pub returns-clause-volumes : goal.returns-clause-volumes
returns-clause-volumes c =
    subst (λ (b : BoardFace). AreHeld b.config (after b.config c.done.result.history.coming) c.done.result.volumes)
    c.loop-caller.invariant.board c.done.ensures.volumes
