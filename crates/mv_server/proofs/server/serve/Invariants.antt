use Rattle.std.proofs.Common.{◌≡◌, ◌≤◌, ◌<◌, ◌+◌, ◌*◌, ℕ, length, vec_capacity}
use Rattle.std.specs.Prelude.{slice_index}
use Rattle.mv_attach.specs.Entries.{Finds}
use Rattle.mv_server.specs.Pool.{workers, hand_out_events, server_events}
use Rattle.mv_server.specs.Right.{IsBack}
use Rattle.mv_server.proofs.server.serve.Given as goal

abbrev pub invariant-loop-request : goal.invariant-loop-request
invariant-loop-request g l = record {
  back : IsBack l.station l.requests workers l.task;
  left : server_events (length l.requests) ≤ l.task.left + hand_out_events * l.request;
}

abbrev pub invariant-loop-worker : goal.invariant-loop-worker
invariant-loop-worker g l = record {
  back : IsBack l.station l.requests workers l.task;
  left : hand_out_events * workers + 2 * length l.requests ≤ l.task.left + hand_out_events * l.worker;
}

abbrev pub invariant-loop-r : goal.invariant-loop-r
invariant-loop-r g l = record {
  back : IsBack l.station l.requests workers l.task;
  left : 2 * length l.requests ≤ l.task.left + 2 * l.r;
  within : l.r ≤ length l.requests;
  size : length l.answers.items ≡ l.r;
  room : length l.requests ≤ vec_capacity l.answers;
  finds : (r : ℕ) → r < l.r → Finds l.task.log (workers + r) (slice_index l.answers.items r);
}
