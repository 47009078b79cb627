use Rattle.std.proofs.Common.{◌≡◌, ◌+◌, ◌*◌, length, sym, ◌∙◌, subst, arith}
use Rattle.std.specs.List.{range_with_len}
use Rattle.mv_wait.specs.Prelude.ecb_op.{Arm, Settle}
use Rattle.mv_wait.specs.Prelude.{Ecb, kept_of, wait, wait_answer}
use Rattle.mv_wait.specs.Prelude.op_on
use Rattle.mv_attach.proofs.Says.{always_wait}
use Rattle.mv_server.specs.Pool.{workers, hand_out_events}
use Rattle.mv_server.specs.Right.{IsRight, StaysReady}
use Rattle.mv_server.proofs.Always.{stays_after, stays_more, handed_out}
use Rattle.mv_server.proofs.Waits.{own_block, all_range, unrefused_idle}
use Rattle.mv_server.proofs.server.hand_out.Goals as goal
use Rattle.mv_server.proofs.server.hand_out.Goals.{in-Complete+in-Ok-clear+else-is_ok, in_default-found}

pub unreachable-requires : goal.unreachable-requires
unreachable-requires g c =
    let t = c.args.task.now in
    let since = c.requires.ready in
    let none = unrefused_idle c.args.station.now.config c.args.requests.now (length c.args.requests.now) t.number t.log
    since.ready.asked.config since.number since.ready.right in
    let some = c.in_default.ensures.causes.0 in cc (sym none ∙ some)

pub loop-worker-init : goal.loop-worker-init
loop-worker-init g c =
    let b = c.args.station.now in
    let t = c.args.task.now in
    stays_after b c.args.requests.now (2 * workers) (wait b.config 1 (range_with_len 0 workers))
    (λ a. a ≡ wait_answer c.wait.result c.wait.new.out) t c.wait.new.task c.wait.ensures.served c.requires.ready.ready
    (always_wait (IsRight c.args.requests.now t.number) b.config 1 (range_with_len 0 workers) (kept_of t.number t.log)
    (all_range (λ e. IsRight c.args.requests.now t.number (Ecb e) (op_on.Ecb Arm)) 0 workers (λ e low high. tt))
    (all_range (λ e. IsRight c.args.requests.now t.number (Ecb e) (op_on.Ecb Settle)) 0 workers (λ e low high. tt)))

pub unreachable-requires-in_default-clear : goal.unreachable-requires-in_default-clear
unreachable-requires-in_default-clear g c =
    let since = c.loop-worker.invariant in
    let t = c.loop-worker.task in
    let own = own_block c.args.station.now.config (length c.args.requests.now) c.loop-worker.worker t.number t.log since.ready.asked.config
    (omega arith) (since.number ∙ c.requires.ready.number) in
    let other = c.in_default-clear.ensures.causes.0 in cc (sym own ∙ other)

pub returns-then-is_ok : goal.returns-then-is_ok
returns-then-is_ok g c =
    let b = c.args.station.now in
    let requests = c.args.requests.now in
    let out = handed_out b requests (2 * workers + 2 * c.loop-worker.worker) c.loop-worker.worker c.args.code _ _ _ c.args.task.now
    c.loop-worker.task c.clear.new.task c.release.new.task c.clear.ensures.served c.release.ensures.served c.loop-worker.invariant in
    record { kept = stays_more b requests _ hand_out_events c.args.task.now c.release.new.task out (omega arith) }

pub loop-worker-preserved : goal.loop-worker-preserved
loop-worker-preserved g c =
    let b = c.args.station.now in
    let requests = c.args.requests.now in
    let most = 2 * workers + 2 * c.loop-worker.worker in
    let more = 2 * workers + 2 * (c.loop-worker.worker + 1) in
    let t = c.args.task.now in
    elim c.match-found-worker.branch [
      | in-Complete+in-Ok-clear+else-is_ok w ↦
          subst (λ u. StaysReady b requests more t u) (sym w.task-is)
          (stays_more b requests (most + 2) more t w.release.new.task
          (handed_out b requests most c.loop-worker.worker c.args.code _ _ _ t c.loop-worker.task w.clear.new.task w.release.new.task
          w.clear.ensures.served w.release.ensures.served c.loop-worker.invariant) (omega arith))
      | in_default-found w ↦
          subst (λ u. StaysReady b requests more t u) (sym w.task-is)
          (stays_more b requests most more t c.loop-worker.task c.loop-worker.invariant (omega arith))
    ]
