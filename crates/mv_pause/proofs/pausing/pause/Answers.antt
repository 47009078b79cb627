use Rattle.std.proofs.Common.{sym, ◌∙◌}
use Rattle.mv_pause.proofs.Gifts.{made_own, made_not}
use Rattle.mv_pause.proofs.Served.{own_is}
use Rattle.mv_pause.proofs.pausing.pause.Goals as goal

pub returns-then-is_others : goal.returns-then-is_others
returns-then-is_others g c =
    let m = made_not c.args.station.now.config c.args.token c.args.task.now (sym c.is_others.ensures ∙ c.if-is_others.true)
    c.requires.task.rest in
    record { served = m.served; causes = m.causes; next = m.next; current = m.current; low = m.low }

pub pause_own-requires-clause-own : goal.pause_own-requires-clause-own
pause_own-requires-clause-own g c =
    own_is c.args.station.now.config c.args.task.now.number c.args.task.now.log c.args.token
    (sym c.is_others.ensures ∙ c.if-is_others.false)

pub returns : goal.returns
returns g c =
    let m = made_own c.args.station.now.config c.args.token c.args.task.now c.pause_own.new.task c.pause_own.result
    (sym c.is_others.ensures ∙ c.if-is_others.false) c.requires.task.rest c.pause_own.ensures in
    record { served = m.served; causes = m.causes; next = m.next; current = m.current; low = m.low }
