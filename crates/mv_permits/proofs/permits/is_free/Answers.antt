use Rattle.mv_guarded.proofs.Holding.{read_held}
use Rattle.mv_guarded.proofs.Quiet.{read_is_quiet}
use Rattle.mv_permits.proofs.Calls.{still_pooled}
use Rattle.mv_permits.proofs.permits.is_free.Goals as goal

pub returns-clause-ready : goal.returns-clause-ready
returns-clause-ready c =
    let b = c.args.station.now in
    let t = c.args.task.now in
    let u = c.read_volume.new.task in
    let served = c.read_volume.ensures.served in
    still_pooled b _ _ _ t u served (read_is_quiet 0 c.read_volume.result t u served) c.requires.ready

pub returns-clause-has : goal.returns-clause-has
returns-clause-has c = read_held 0 c.read_volume.result c.args.task.now c.read_volume.new.task c.read_volume.ensures.served
