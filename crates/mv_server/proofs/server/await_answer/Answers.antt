use Rattle.std.proofs.Common.{[], ◌∷◌, length}
use Rattle.mv_wait.specs.Prelude.{kept_of, entries, wait}
use Rattle.mv_attach.proofs.Entries.{finds_longer, waited_finds}
use Rattle.mv_attach.proofs.Says.{always_wait}
use Rattle.mv_server.specs.Right.{IsRight}
use Rattle.mv_server.proofs.Always.{stays_after}
use Rattle.mv_server.proofs.Pool.{block_exists}
use Rattle.mv_server.proofs.Waits.{servers_block, plain_of}
use Rattle.mv_server.proofs.server.await_answer.Goals as goal

pub wait_one-requires-clause-block : goal.wait_one-requires-clause-block
wait_one-requires-clause-block g c =
    block_exists c.args.station.now.config (length c.args.requests.now) c.args.block c.requires.ready.ready.asked.config c.requires.block

pub wait_one-requires-clause-own : goal.wait_one-requires-clause-own
wait_one-requires-clause-own g c =
    servers_block c.args.station.now.config (length c.args.requests.now) c.args.block c.args.task.now.number
    c.requires.ready.ready.asked.config c.requires.block c.requires.ready.number

pub wait_one-requires-clause-plain : goal.wait_one-requires-clause-plain
wait_one-requires-clause-plain g c = λ on.
    plain_of c.args.requests.now c.args.task.now.number c.args.task.now.log c.args.block c.requires.ready.ready.right

pub returns : goal.returns
returns g c =
    let config = c.args.station.now.config in
    let requests = c.args.requests.now in
    let block = c.args.block in
    let t = c.args.task.now in
    let u = c.wait_one.new.task in
    let served = c.wait_one.ensures.served in record {
      finds = waited_finds block c.wait_one.result t u c.wait_one.ensures.waited;
      found = λ n code f. finds_longer t.log u.log (entries served.made.events) n code served.made.longer.logged f;
      kept = stays_after c.args.station.now requests 2 (wait config 1 (block ∷ [])) _ t u served c.requires.ready.ready
          (always_wait (IsRight requests t.number) config 1 (block ∷ []) (kept_of t.number t.log) (tt, tt) (tt, tt));
    }
