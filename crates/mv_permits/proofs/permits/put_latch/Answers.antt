use Rattle.std.proofs.Common.{[], ◌∷◌, sym, ap, ◌∙◌}
use Rattle.mv_guarded.proofs.Holding.{release_bares}
use Rattle.mv_permits.proofs.Calls.{cheap, release_quiet, still_pooled, same_permit, same_given}
use Rattle.mv_permits.proofs.permits.put_latch.Goals as goal

pub returns-clause-bare : goal.returns-clause-bare
returns-clause-bare g c =
    let config = c.args.station.now.config in
    release_bares config c.args.token.latch c.args.token.id _ c.args.task.now c.release_latch.new.task c.release_latch.ensures.served
    (cheap config c.requires.ready.config) (c.requires.has ∙ ap (λ n. (n, c.args.token.id) ∷ []) (sym c.requires.token))

pub returns-clause-permit : goal.returns-clause-permit
returns-clause-permit g c =
    let b = c.args.station.now in
    let t = c.args.task.now in
    let u = c.release_latch.new.task in same_permit t u (release_quiet b _ _ _ t u c.release_latch.ensures.served c.requires.ready)

pub returns-clause-ready : goal.returns-clause-ready
returns-clause-ready g c =
    let b = c.args.station.now in
    let t = c.args.task.now in
    let u = c.release_latch.new.task in
    let served = c.release_latch.ensures.served in
    still_pooled b _ _ _ t u served (release_quiet b _ _ _ t u served c.requires.ready) c.requires.ready

pub returns-clause-given : goal.returns-clause-given
returns-clause-given g c =
    let b = c.args.station.now in
    let t = c.args.task.now in
    let u = c.release_latch.new.task in same_given t u (release_quiet b _ _ _ t u c.release_latch.ensures.served c.requires.ready)
