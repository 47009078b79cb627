use Rattle.std.proofs.Common.{◌≡◌, drop}
use Rattle.mv_calls.specs.Keeping.{kept_of}
use Rattle.mv_calls.specs.Refusal.{ExtendedAt}
use Rattle.mv_calls.specs.Waits.{refused_at}
use Rattle.mv_wait.proofs.task.Task.first_extended.Given as goal

abbrev pub invariant-loop-p : goal.invariant-loop-p
invariant-loop-p l = refused_at ExtendedAt (kept_of l.self.number l.self.log).extended 0 l.ecbs
    ≡ refused_at ExtendedAt (kept_of l.self.number l.self.log).extended l.p (drop l.p l.ecbs)
