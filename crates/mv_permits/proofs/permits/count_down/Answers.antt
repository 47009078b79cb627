use Rattle.std.proofs.Common.{◌-◌, ◌+◌, not, sym, ap, ◌∙◌, subst, arith}
use Rattle.mv_guarded.proofs.Holding.{read_held}
use Rattle.mv_guarded.proofs.Quiet.{read_is_quiet}
use Rattle.mv_permits.specs.Permits.{Moves, given_back, one}
use Rattle.mv_permits.proofs.Calls.{HasMoved, still_pooled, same_permit, same_given, moves_permit}
use Rattle.mv_permits.proofs.Logs.{plus_none}
use Rattle.mv_permits.proofs.permits.count_down.Goals as goal

pub returns-then-out-eq0-clause-permit : goal.returns-then-out-eq0-clause-permit
returns-then-out-eq0-clause-permit g c =
    let t = c.args.task.now in
    let u = c.read_volume-out.new.task in
    same_permit t u (read_is_quiet 0 c.read_volume-out.result t u c.read_volume-out.ensures.served) ∙ c.requires.has

pub returns-then-out-eq0-clause-ready : goal.returns-then-out-eq0-clause-ready
returns-then-out-eq0-clause-ready g c =
    let b = c.args.station.now in
    let t = c.args.task.now in
    let u = c.read_volume-out.new.task in
    let served = c.read_volume-out.ensures.served in
    still_pooled b _ _ _ t u served (read_is_quiet 0 c.read_volume-out.result t u served) c.requires.ready

pub returns-clause-permit : goal.returns-clause-permit
returns-clause-permit g c =
    let moved : HasMoved c.args.station.now c.args.task.now c.write_volume.new.task =
    moves_permit c.args.station.now c.read_volume-out.result (c.read_volume-out.result - 1) _ c.args.task.now c.read_volume-out.new.task c.write_volume.new.task
    c.requires.ready c.requires.holds c.read_volume-out.ensures.served c.write_volume.ensures.served
    (subst (λ has. Moves has c.read_volume-out.result (c.read_volume-out.result - 1)) (sym c.requires.has)
    (let some = c.if-out-eq0.false in omega arith)) in
    moved.permit ∙ ap not c.requires.has

pub returns-clause-ready : goal.returns-clause-ready
returns-clause-ready g c =
    let moved : HasMoved c.args.station.now c.args.task.now c.write_volume.new.task =
    moves_permit c.args.station.now c.read_volume-out.result (c.read_volume-out.result - 1) _ c.args.task.now c.read_volume-out.new.task c.write_volume.new.task
    c.requires.ready c.requires.holds c.read_volume-out.ensures.served c.write_volume.ensures.served
    (subst (λ has. Moves has c.read_volume-out.result (c.read_volume-out.result - 1)) (sym c.requires.has)
    (let some = c.if-out-eq0.false in omega arith)) in
    moved.ready

pub returns-then-out-eq0-clause-has : goal.returns-then-out-eq0-clause-has
returns-then-out-eq0-clause-has g c =
    read_held 0 c.read_volume-out.result c.args.task.now c.read_volume-out.new.task c.read_volume-out.ensures.served

pub returns-clause-has : goal.returns-clause-has
returns-clause-has g c =
    let moved : HasMoved c.args.station.now c.args.task.now c.write_volume.new.task =
    moves_permit c.args.station.now c.read_volume-out.result (c.read_volume-out.result - 1) _ c.args.task.now c.read_volume-out.new.task c.write_volume.new.task
    c.requires.ready c.requires.holds c.read_volume-out.ensures.served c.write_volume.ensures.served
    (subst (λ has. Moves has c.read_volume-out.result (c.read_volume-out.result - 1)) (sym c.requires.has)
    (let some = c.if-out-eq0.false in omega arith)) in
    moved.has

pub returns-then-out-eq0-clause-given : goal.returns-then-out-eq0-clause-given
returns-then-out-eq0-clause-given g c =
    let t = c.args.task.now in
    let u = c.read_volume-out.new.task in
    same_given t u (read_is_quiet 0 c.read_volume-out.result t u c.read_volume-out.ensures.served) ∙ plus_none (given_back t.log)

pub returns-clause-given : goal.returns-clause-given
returns-clause-given g c =
    let moved : HasMoved c.args.station.now c.args.task.now c.write_volume.new.task =
    moves_permit c.args.station.now c.read_volume-out.result (c.read_volume-out.result - 1) _ c.args.task.now c.read_volume-out.new.task c.write_volume.new.task
    c.requires.ready c.requires.holds c.read_volume-out.ensures.served c.write_volume.ensures.served
    (subst (λ has. Moves has c.read_volume-out.result (c.read_volume-out.result - 1)) (sym c.requires.has)
    (let some = c.if-out-eq0.false in omega arith)) in
    moved.given ∙ ap (λ has. given_back c.args.task.now.log + one has) c.requires.has
