use Rattle.std.proofs.Common.{[], ◌∷◌, refl, ap, ◌∙◌}
use Rattle.mv_wait.specs.Prelude.{Setup, kept_of}
use Rattle.mv_attach.proofs.Always.{served_keeps}
use Rattle.mv_attach.proofs.Entries.{waited_finds}
use Rattle.mv_attach.proofs.Says.{always_wait, always_post}
use Rattle.mv_completion.specs.Told.{PostsIt}
use Rattle.mv_completion.proofs.completion.CompletingWork.work.Goals as goal

pub returns-then-number-eq-WAITER-clause-done : goal.returns-then-number-eq-WAITER-clause-done
returns-then-number-eq-WAITER-clause-done g c =
    let P = PostsIt c.args.self.now.0 in
    let t = c.args.task.now in
    let u = c.wait_one.new.task in
    let wait = c.wait_one.ensures in record {
      posts = served_keeps P _ _ _ t u (rw c.requires.fresh.log tt) wait.served
          (always_wait P c.args.station.now.config 1 (0 ∷ []) (kept_of t.number t.log) (tt, tt) (tt, tt));
      finds = λ first. waited_finds 0 c.wait_one.result t u wait.waited;
    }

pub returns-else-number-eq-WAITER-clause-done : goal.returns-else-number-eq-WAITER-clause-done
returns-else-number-eq-WAITER-clause-done g c =
    let code = c.args.self.now.0 in
    let P = PostsIt code in
    let t = c.args.task.now in
    let none = ap (λ (s : Setup). s.exits) c.requires.start.0 in record {
      posts = served_keeps P _ _ _ t c.post.new.task (rw c.requires.fresh.log tt) c.post.ensures.served
          (always_post P c.args.station.now.config 0 code (kept_of t.number t.log) none refl);
      finds = λ first. absurd (c.if-number-eq-WAITER.false (c.number.ensures.number ∙ first));
    }
