use Rattle.std.proofs.Common.{sym, subst}
use Rattle.mv_rounds.proofs.service.run_rounds.Goals as goal

-- the round that ends is the one that began
pub end-requires-clause-round : goal.end-requires-clause-round
end-requires-clause-round g c =
    let first = c.args.service.now in
    let work = c.in_ok-config.field-0.work in
    let during = subst (λ config. g.S.Service.holds_during first c.begin.new.self config work) (sym c.in_ok-round.ensures.config)
    (c.in_ok-config.ensures.during first c.loop-alloc.invariant) in (first, work, during, c.in_ok-round.ensures.round)

pub loop-alloc-preserved : goal.loop-alloc-preserved
loop-alloc-preserved g c =
    let first = c.args.service.now in
    let work = c.in_ok-config.field-0.work in
    let during = subst (λ config. g.S.Service.holds_during first c.begin.new.self config work) (sym c.in_ok-round.ensures.config)
    (c.in_ok-config.ensures.during first c.loop-alloc.invariant) in
    c.in_ok-end.ensures.between first work during c.in_ok-round.ensures.round
