use Rattle.std.proofs.Common.{◌≡◌, drop, not, ◌==◌}
use Rattle.mv_config.specs.Setup.{owner_of}
use Rattle.mv_calls.specs.Refusal.{NotOwnerAt}
use Rattle.mv_calls.specs.Waits.{refused_at}
use Rattle.mv_wait.proofs.waiting.not_owned.Given as goal

abbrev pub invariant-loop-p : goal.invariant-loop-p
invariant-loop-p l = refused_at NotOwnerAt (λ e. not (owner_of l.config e == l.caller)) 0 l.ecbs
    ≡ refused_at NotOwnerAt (λ e. not (owner_of l.config e == l.caller)) l.p (drop l.p l.ecbs)
