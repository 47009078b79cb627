use Rattle.std.proofs.Common.{◌++◌, map, not, sym, ap, ◌∙◌, arith}
use Rattle.std.proofs.lemmas.List.{append-nil}
use Rattle.mv_latch.specs.Request.{wake_of, is_own}
use Rattle.mv_latch.specs.Latch.{without}
use Rattle.mv_latch.proofs.Splits.{length_filter}
use Rattle.mv_latch.proofs.Grants.{newly_granted-same, newly_fit}
use Rattle.mv_latch.proofs.queue.release.Goals as goal

pub returns-then-not-has_own-clause-wakes : goal.returns-then-not-has_own-clause-wakes
returns-then-not-has_own-clause-wakes c =
    sym (ap (λ z. c.args.wakes.now.items ++ map (wake_of 0) z) (newly_granted-same c.args.list.now.items) ∙ append-nil _)

pub returns-then-not-has_own-2-clause-wakes : goal.returns-then-not-has_own-2-clause-wakes
returns-then-not-has_own-2-clause-wakes c =
    sym (ap (λ z. c.args.wakes.now.items ++ map (wake_of 0) z) (newly_granted-same c.args.list.now.items) ∙ append-nil _)

pub remove-granted-requires-clause-room : goal.remove-granted-requires-clause-room
remove-granted-requires-clause-room c =
    let old = c.args.list.now.items in
    omega (arith, newly_fit old (without c.args.caller c.args.id old), length_filter (λ q. not (is_own c.args.caller c.args.id q)) old)
