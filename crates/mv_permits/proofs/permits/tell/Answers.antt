use Rattle.std.proofs.Common.{◌<◌, ◌≤◌, length, sym, subst, arith, le_refl}
use Rattle.mv_wait.specs.Prelude.{reach, Setup}
use Rattle.mv_guarded.proofs.Quiet.{post_is_quiet, post_held}
use Rattle.mv_permits.proofs.Calls.{still_pooled, same_permit, same_given, no_exits}
use Rattle.mv_permits.proofs.permits.tell.Goals as goal

pub post-requires-clause-block : goal.post-requires-clause-block
post-requires-clause-block g c =
    subst (λ (s : Setup). c.args.block < length s.owners) (sym c.requires.ready.config.1) c.requires.block

pub post-requires-clause-task : goal.post-requires-clause-task
post-requires-clause-task g c =
    let ready = c.requires.ready in record {
      board = ready.task;
      rest = ready.rest;
      left = subst (λ (s : Setup). reach s c.args.block ≤ c.args.task.now.left) (sym ready.config.1) c.requires.left;
    }

pub returns-clause-permit : goal.returns-clause-permit
returns-clause-permit g c =
    let b = c.args.station.now in
    let t = c.args.task.now in
    let u = c.post.new.task in
    same_permit t u (post_is_quiet b.config _ _ _ _ t u (no_exits b.config c.requires.ready.config) c.post.ensures.served)

pub returns-clause-left : goal.returns-clause-left
returns-clause-left g c =
    let served = c.post.ensures.served in
    let one : reach c.args.station.now.config c.args.block ≤ 1 =
    subst (λ (s : Setup). reach s c.args.block ≤ 1) (sym c.requires.ready.config.1) (le_refl 1) in
    let few = served.made.few in
    let left = served.left in omega arith

pub returns-clause-ready : goal.returns-clause-ready
returns-clause-ready g c =
    let b = c.args.station.now in
    let t = c.args.task.now in
    let u = c.post.new.task in
    let served = c.post.ensures.served in
    still_pooled b _ _ _ t u served (post_is_quiet b.config _ _ _ _ t u (no_exits b.config c.requires.ready.config) served) c.requires.ready

pub returns-clause-has : goal.returns-clause-has
returns-clause-has g c =
    let b = c.args.station.now in
    post_held b.config _ _ _ _ c.args.task.now c.post.new.task (no_exits b.config c.requires.ready.config) c.post.ensures.served

pub returns-clause-given : goal.returns-clause-given
returns-clause-given g c =
    let b = c.args.station.now in
    let t = c.args.task.now in
    let u = c.post.new.task in
    same_given t u (post_is_quiet b.config _ _ _ _ t u (no_exits b.config c.requires.ready.config) c.post.ensures.served)
