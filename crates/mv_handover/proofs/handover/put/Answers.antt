use Rattle.std.proofs.Common.{◌≡◌, ◌<◌, ◌≤◌, length, sym, subst}
use Rattle.mv_wait.specs.Prelude.{post, reach, Setup, IsServed}
use Rattle.mv_handover.proofs.Calls.{put_made, put_ready}
use Rattle.mv_handover.proofs.handover.put.Goals as goal

pub post-requires-clause-block : goal.post-requires-clause-block
post-requires-clause-block g c =
    subst (λ (s : Setup). c.args.ecb < length s.owners) (sym c.requires.ready.config.1) c.requires.block

pub post-requires-clause-task : goal.post-requires-clause-task
post-requires-clause-task g c =
    let ready = c.requires.ready in record {
      board = ready.task;
      rest = ready.rest;
      left = subst (λ (s : Setup). reach s c.args.ecb ≤ c.args.task.now.left) (sym ready.config.1) c.requires.left;
    }

pub returns : goal.returns
returns g c =
    let t = c.args.task.now in
    let config = c.requires.ready.config in
    let served = subst (λ (s : Setup). IsServed (reach s c.args.ecb) (post s c.args.ecb c.args.code) (λ a. a ≡ c.post.result) t
    c.post.new.task) config.1 c.post.ensures.served in
    let put = put_made config.0 c.args.ecb c.args.code (λ a. a ≡ c.post.result) t c.post.new.task served in record {
      put = put;
      ready = put_ready c.args.station.now t.number config.0 c.args.ecb c.args.code (λ a. a ≡ c.post.result) t
          c.post.new.task served c.requires.ready put;
    }
