use Rattle.mv_attach.proofs.Always.{served_grown}
use Rattle.mv_attach.proofs.Says.{always_read}
use Rattle.mv_wait.specs.Prelude.{BoardFace, CallerFace, kept_of, read_volume, IsServed}
use Rattle.mv_guarded.proofs.Holding.{read_held, read_inside, read_past_read}
use Rattle.mv_guarded.proofs.Quiet.{read_is_quiet}
use Rattle.mv_wait.specs.Prelude.mode.{Exclusive}
use Rattle.mv_ordered.specs.Held.{held}
use Rattle.mv_queue.proofs.Calls.{did_then, still_did}
use Rattle.mv_queue.proofs.Logs.{IsStill}
use Rattle.mv_queue.specs.Queue.{Did, IsReady}
use Rattle.mv_queue.specs.Setup.{put_count, room, taken_count}
use Rattle.std.proofs.Common.{[], arith, subst, ℕ, ◌≡◌, ◌≤◌}
use Rattle.mv_queue.proofs.queue.look.Goals as goal

-- a read of a count
read_did : (b : BoardFace) (n x : ℕ) (t u : CallerFace) → room ≤ n → IsServed 1 (read_volume n) (λ a. a ≡ x) t u → IsReady b t
    → Did b 1 [] [] (held t.log) t u
read_did b n x t u count s =
    still_did b 1 (read_volume n) (λ a. a ≡ x) (held t.log) t u s
    (served_grown IsStill 1 (read_volume n) (λ a. a ≡ x) t u s (always_read IsStill n (kept_of t.number t.log) count))
    (read_is_quiet n x t u s).keeps (read_held n x t u s)

pub returns-clause-did : goal.returns-clause-did
returns-clause-did c =
    let b = c.args.station.now in
    let t = c.args.task.now in
    let u = c.read_volume-taken.new.task in
    let v = c.read_volume-put.new.task in
    let first = read_did b 3 c.read_volume-taken.result t u (omega arith) c.read_volume-taken.ensures.served c.requires.ready in
    let second = read_did b 4 c.read_volume-put.result u v (omega arith) c.read_volume-put.ensures.served first.ready in
    did_then b 1 1 2 [] [] [] [] (held t.log) (held t.log) t u v first (subst (λ has. Did b 1 [] [] has u v) first.latches second) (omega arith)

pub returns-clause-seen : goal.returns-clause-seen
returns-clause-seen c =
    let t = c.args.task.now in
    let u = c.read_volume-taken.new.task in
    let v = c.read_volume-put.new.task in
    let first = c.read_volume-taken.ensures.served in
    let second = c.read_volume-put.ensures.served in
    let a = read_inside 0 taken_count c.read_volume-taken.result Exclusive t u c.requires.holds first in
    let b = read_inside 0 put_count c.read_volume-put.result Exclusive u v a.0 second in record {
      holds = b.0;
      read_taken = read_past_read 0 taken_count c.read_volume-taken.result put_count c.read_volume-put.result u v a.1 second;
      read_put = b.1;
    }
