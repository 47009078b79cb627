use Rattle.mv_attach.proofs.Always.{served_grown}
use Rattle.mv_attach.proofs.Says.{always_post}
use Rattle.mv_wait.specs.Prelude.{BoardFace, CallerFace, kept_of, post, PostAnswer, reach, Setup, IsServed}
use Rattle.mv_guarded.proofs.Quiet.{post_held, post_is_quiet}
use Rattle.mv_ordered.specs.Held.{held}
use Rattle.mv_queue.proofs.Calls.{did_more, did_then, no_exits, still_did}
use Rattle.mv_queue.proofs.Logs.{IsStill}
use Rattle.mv_queue.specs.Queue.{Did, IsReady}
use Rattle.std.proofs.Common.{[], arith, le_refl, length, subst, sym, ℕ, ◌+◌, ◌<◌, ◌≤◌}
use Rattle.mv_queue.proofs.queue.tell.Goals as goal

post_did : (b : BoardFace) (e code : ℕ) (Is : PostAnswer → Type 0) (t u : CallerFace)
    → IsServed (reach b.config e) (post b.config e code) Is t u → IsReady b t → Did b 1 [] [] (held t.log) t u
post_did b e code Is t u s r =
    let none = no_exits b.config r.config in
    did_more b (reach b.config e) 1 [] [] (held t.log) t u
    (still_did b (reach b.config e) (post b.config e code) Is (held t.log) t u s
    (served_grown IsStill (reach b.config e) (post b.config e code) Is t u s
    (always_post IsStill b.config e code (kept_of t.number t.log) none tt))
    (post_is_quiet b.config e code (reach b.config e) Is t u none s).keeps (post_held b.config e code (reach b.config e) Is t u none s) r)
    (subst (λ (c : Setup). reach c e ≤ 1) (sym r.config.1) (le_refl 1))

pub post-requires-clause-block : goal.post-requires-clause-block
post-requires-clause-block g c =
    let low = c.requires.first in
    subst (λ (s : Setup). c.args.first < length s.owners) (sym c.requires.ready.config.1) (omega arith)

pub post-requires-clause-task : goal.post-requires-clause-task
post-requires-clause-task g c =
    let ready = c.requires.ready in record {
      board = ready.careful.task;
      rest = ready.careful.rest;
      left = subst (λ (s : Setup). reach s c.args.first ≤ c.args.task.now.left) (sym ready.config.1)
          (let left = c.requires.left in omega arith);
    }

pub post-requires-2-clause-block : goal.post-requires-2-clause-block
post-requires-2-clause-block g c =
    let low = c.requires.first in
    subst (λ (s : Setup). c.args.first + 1 < length s.owners) (sym c.requires.ready.config.1) (omega arith)

pub post-requires-2-clause-task : goal.post-requires-2-clause-task
post-requires-2-clause-task g c =
    let b = c.args.station.now in
    let t = c.args.task.now in
    let u = c.post.new.task in
    let first = post_did b c.args.first _ _ t u c.post.ensures.served c.requires.ready in record {
      board = first.ready.careful.task;
      rest = first.ready.careful.rest;
      left = subst (λ (s : Setup). reach s (c.args.first + 1) ≤ u.left) (sym c.requires.ready.config.1)
          (let spent = first.left in let left = c.requires.left in omega arith);
    }

pub returns : goal.returns
returns g c =
    let b = c.args.station.now in
    let t = c.args.task.now in
    let u = c.post.new.task in
    let v = c.post-2.new.task in
    let first = post_did b c.args.first _ _ t u c.post.ensures.served c.requires.ready in
    let second = post_did b (c.args.first + 1) _ _ u v c.post-2.ensures.served first.ready in
    did_then b 1 1 2 [] [] [] [] (held t.log) (held t.log) t u v first (subst (λ has. Did b 1 [] [] has u v) first.latches second) (omega arith)
