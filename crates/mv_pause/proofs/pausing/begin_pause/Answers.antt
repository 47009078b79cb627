use Rattle.std.proofs.Common.{sym, ◌∙◌}
use Rattle.mv_pause.proofs.Gifts.{made_not}
use Rattle.mv_pause.proofs.Between.{pausing_begun}
use Rattle.mv_pause.proofs.Served.{own_is}
use Rattle.mv_pause.proofs.pausing.begin_pause.Goals as goal

pub returns-then-is_others : goal.returns-then-is_others
returns-then-is_others g c = record {
  begun = made_not c.args.station.now.config c.args.token c.args.task.now (sym c.is_others.ensures ∙ c.if-is_others.true)
      c.requires.may.rest;
}

pub begin_own-requires-clause-own : goal.begin_own-requires-clause-own
begin_own-requires-clause-own g c =
    own_is c.args.station.now.config c.args.task.now.number c.args.task.now.log c.args.token
    (sym c.is_others.ensures ∙ c.if-is_others.false)

pub returns : goal.returns
returns g c = record {
  begun = pausing_begun c.args.station.now.config c.args.token c.args.task.now c.begin_own.new.task c.begin_own.result
      (sym c.is_others.ensures ∙ c.if-is_others.false) c.requires.may c.begin_own.ensures;
}
