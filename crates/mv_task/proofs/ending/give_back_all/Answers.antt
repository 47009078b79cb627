-- The task's own elements are gone through, from the first to the last.
use Rattle.std.proofs.Common.{◌≡◌, ◌+◌, ◌<◌, ◌≤◌, List, ℕ, true, length, refl, sym, ap, ◌∙◌, subst, arith}
use Rattle.std.specs.declared.ops.Range.{Range}
use Rattle.mv_config.specs.Setup.{Setup, element_owner}
use Rattle.mv_calls.specs.Endings.{used_elements}
use Rattle.mv_calls.specs.Program.{Wrong}
use Rattle.mv_wait.specs.Run.{keeps}
use Rattle.mv_task.specs.Ending.{ClosesOne, KeepsOthers}
use Rattle.mv_task.proofs.Closings.{Closing, used_between, none_closed, own_are, close_fits, one_closed, all_closed}
use Rattle.mv_task.proofs.ending.give_back_all.Goals as goal
use Rattle.mv_task.proofs.ending.give_back_all.Goals.{After-into_iter-element-iterator}

-- what is gone through are the elements that were in use at first
own_used : (g : _) (c : After-into_iter-element-iterator g) → used_between c.args.task.now c.into_iter-element-iterator.result.start
    c.into_iter-element-iterator.result.end ≡ used_elements c.args.station.now.config (keeps c.args.task.now)
own_used g c =
    own_are c.config.result.now c.into_iter-element-iterator.result c.number.result c.args.task.now c.number.ensures.number
    (c.into_iter-element-iterator.ensures.into_iter_gives ∙ c.own_elements-element-items.ensures.elements)
    ∙ ap (λ (s : Setup). used_elements s (keeps c.args.task.now)) c.config.ensures

pub loop-element-init : goal.loop-element-init
loop-element-init g c =
    let own = c.into_iter-element-iterator.result in record {
      task = c.requires.task.board;
      rest = c.requires.task.rest;
      from = omega arith;
      end = refl;
      closing = none_closed own.start own.end c.args.task.now;
    }

pub give_back-requires-clause-own : goal.give_back-requires-clause-own
give_back-requires-clause-own g c =
    let n = c.in-Some.element in
    let steps = c.in-Some.ensures.steps in
    let known = c.loop-element.invariant in
    let all = c.into_iter-element-iterator.ensures.into_iter_gives in
    let first = ap (λ (r : Range ℕ). r.start) all in
    let last = ap (λ (r : Range ℕ). r.end) all in
    let own = c.own_elements-element-items.ensures.own n (omega (arith, steps.1.1, first, known.from))
    (omega (arith, steps.1.1, last, known.end, steps.1.0)) in
    ap (λ (s : Setup). element_owner s n) (sym c.config.ensures) ∙ own.1
    ∙ (c.number.ensures.number ∙ sym (known.closing.runs Wrong).went.same.number)

pub give_back-requires-clause-left : goal.give_back-requires-clause-left
give_back-requires-clause-left g c =
    let t = c.args.task.now in
    let u = c.loop-element.task in
    let own = c.into_iter-element-iterator.result in
    let at = c.loop-element.element-iterator.start in
    let steps = c.in-Some.ensures.steps in
    let known = c.loop-element.invariant in
    subst (λ (n : ℕ). (keeps u).in_use n ≡ true → 0 < u.left) (sym steps.1.1)
    (close_fits own.start at own.end t u (omega (arith, known.end, steps.1.0)) known.closing
    (subst (λ (xs : List ℕ). length xs ≤ t.left)
    (sym (own_used g (goal.at.give_back-requires-clause-left g c).After-into_iter-element-iterator))
    c.requires.task.left))

pub loop-element-preserved : goal.loop-element-preserved
loop-element-preserved g c =
    let t = c.args.task.now in
    let u = c.loop-element.task in
    let v = c.give_back.new.task in
    let own = c.into_iter-element-iterator.result in
    let at = c.loop-element.element-iterator.start in
    let steps = c.in-Some.ensures.steps in
    let known = c.loop-element.invariant in
    let same = (c.give_back.ensures.closed Wrong).went.same in
    let next : at + 1 ≡ c.next.new.self.start = omega (arith, steps.1.2) in record {
      task = (same.table ∙ known.task.0, same.about ∙ known.task.1);
      rest = c.give_back.ensures.rest;
      from = omega (arith, known.from, next);
      end = steps.0 ∙ known.end;
      closing = subst (λ (n : ℕ). Closing own.start n own.end t v) next
          (one_closed own.start at own.end t u v (omega (arith, known.end, steps.1.0)) known.closing
          (subst (λ (n : ℕ). ClosesOne n u v) steps.1.1 c.give_back.ensures.closed)
          (subst (λ (n : ℕ). KeepsOthers n u v) steps.1.1 c.give_back.ensures.others));
    }

pub returns-clause-closed : goal.returns-clause-closed
returns-clause-closed g c =
    let own = c.into_iter-element-iterator.result in
    let known = c.loop-element.invariant in
    all_closed c.args.station.now.config own.start c.loop-element.element-iterator.start own.end c.args.task.now c.loop-element.task
    (omega (arith, known.end, c.in-None.ensures.steps.1.0))
    (own_used g (goal.at.returns-clause-closed g c).After-into_iter-element-iterator)
    known.closing
