use Rattle.std.proofs.Common.{◌≡◌, ◌<◌, length, slice_get, Some, List, refl, sym, ap, ◌∙◌, subst, arith}
use Rattle.mv_latch.specs.declared.operation.Wake.{Wake}
use Rattle.mv_board.specs.Faces.{last_of}
use Rattle.mv_calls.specs.Keeping.{nothing_kept}
use Rattle.mv_latchset.proofs.Wakes.{none_posted, next_wake, next_is_fair, next_fits, one_posted, all_were_posted}
use Rattle.mv_latchset.proofs.waking.post_wakes.Goals as goal

pub loop-i-init : goal.loop-i-init
loop-i-init g c = record {
  task = c.requires.task.board;
  rest = c.requires.task.rest;
  told = refl;
  posted = none_posted c.args.station.now.config c.args.task.now.wakes c.args.task.now c.requires.task.left;
}

pub wake_at-wake-requires : goal.wake_at-wake-requires
wake_at-wake-requires g c =
    let now = c.wakes-count.ensures.last ∙ sym (ap last_of c.loop-i.invariant.told) in
    subst (λ (ws : List Wake). c.loop-i.i < length ws) now c.loop-i-test.true

pub post_wake-requires-clause-fair : goal.post_wake-requires-clause-fair
post_wake-requires-clause-fair g c =
    let ws = c.args.task.now.wakes in
    let now = ap last_of c.loop-i.invariant.told ∙ (sym c.wakes-count.ensures.last ∙ c.wakes-count.ensures.wakes) in
    let lt = subst (λ (xs : List Wake). c.loop-i.i < length xs) c.wakes-count.ensures.wakes c.loop-i-test.true in
    let here = subst (λ (xs : List Wake). slice_get xs c.loop-i.i ≡ Some c.wake_at-wake.result) now c.wake_at-wake.ensures in
    next_is_fair c.args.station.now.config ws c.loop-i.i c.wake_at-wake.result lt here c.requires.fair

pub post_wake-requires-clause-task : goal.post_wake-requires-clause-task
post_wake-requires-clause-task g c =
    let ws = c.args.task.now.wakes in
    let now = ap last_of c.loop-i.invariant.told ∙ (sym c.wakes-count.ensures.last ∙ c.wakes-count.ensures.wakes) in
    let lt = subst (λ (xs : List Wake). c.loop-i.i < length xs) c.wakes-count.ensures.wakes c.loop-i-test.true in
    let here = subst (λ (xs : List Wake). slice_get xs c.loop-i.i ≡ Some c.wake_at-wake.result) now c.wake_at-wake.ensures in record {
      board = c.loop-i.invariant.task;
      rest = c.loop-i.invariant.rest;
      left = next_fits c.args.station.now.config ws c.loop-i.i c.wake_at-wake.result c.args.task.now c.loop-i.task
          (next_wake ws c.loop-i.i c.wake_at-wake.result lt here) c.loop-i.invariant.posted;
    }

pub loop-i-preserved : goal.loop-i-preserved
loop-i-preserved g c =
    let s = c.args.station.now.config in
    let ws = c.args.task.now.wakes in
    let now = ap last_of c.loop-i.invariant.told ∙ (sym c.wakes-count.ensures.last ∙ c.wakes-count.ensures.wakes) in
    let lt = subst (λ (xs : List Wake). c.loop-i.i < length xs) c.wakes-count.ensures.wakes c.loop-i-test.true in
    let here = subst (λ (xs : List Wake). slice_get xs c.loop-i.i ≡ Some c.wake_at-wake.result) now c.wake_at-wake.ensures in
    let next = next_wake ws c.loop-i.i c.wake_at-wake.result lt here in
    let same = (c.post_wake.ensures.posted (nothing_kept 0)).went.same in record {
      task = (same.table ∙ c.loop-i.invariant.task.0, same.about ∙ c.loop-i.invariant.task.1);
      rest = c.post_wake.ensures.rest;
      told = c.post_wake.ensures.told ∙ c.loop-i.invariant.told;
      posted = one_posted s ws c.loop-i.i c.wake_at-wake.result c.args.task.now c.loop-i.task c.post_wake.new.task next
          c.loop-i.invariant.posted c.post_wake.ensures.posted;
    }

pub returns : goal.returns
returns g c =
    let lt = ap length c.wakes-count.ensures.wakes in record {
      posted = all_were_posted c.args.station.now.config c.args.task.now.wakes c.loop-i.i c.args.task.now c.loop-i.task
          (omega (arith, lt, c.loop-i-test.false)) c.loop-i.invariant.posted;
      rest = c.loop-i.invariant.rest;
    }
