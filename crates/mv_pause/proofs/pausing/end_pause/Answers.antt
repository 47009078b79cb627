use Rattle.std.proofs.Common.{◌&&◌, subst}
use Rattle.std.proofs.lemmas.Bool.{lt-ltb, eq-eqb}
use Rattle.mv_element.specs.declared.operation.ElementOp.TheVariants.{Resume}
use Rattle.mv_machine.specs.declared.entry.Object.TheVariants.{Element}
use Rattle.mv_machine.specs.declared.entry.Op.TheVariants as op_on
use Rattle.mv_machine.specs.Replies.{NamesUpTo}
use Rattle.mv_config.specs.Setup.{element_owner, element_count}
use Rattle.mv_board.specs.Faces.{Happened}
use Rattle.mv_pause.proofs.Between.{pausing_own, pausing_parked, pausing_left, pausing_ends, says_given}
use Rattle.mv_pause.proofs.pausing.end_pause.Goals as goal

pub event-reply-requires-clause-left : goal.event-reply-requires-clause-left
event-reply-requires-clause-left g c =
    pausing_left c.args.station.now.config c.args.token c.requires.pausing.0 c.args.task.now c.requires.pausing.1

pub event-reply-requires-clause-admitted : goal.event-reply-requires-clause-admitted
event-reply-requires-clause-admitted g c lt =
    let s = c.args.station.now.config in
    let t = c.args.task.now in
    let n = c.args.token.element in
    let pausing = c.requires.pausing in
    let a = lt-ltb t.number s.callers lt in
    let b = lt-ltb n (element_count s) pausing.1.may.element in
    let own = eq-eqb (element_owner s n) t.number (pausing_own s c.args.token pausing.0 t pausing.1) in (λ i. (a i && b i) && own i)

pub gift_in-requires : goal.gift_in-requires
gift_in-requires g c =
    let s = c.args.station.now.config in
    let t = c.args.task.now in
    says_given c.event-reply.result
    (c.event-reply.ensures.listed c.requires.ready (pausing_parked s c.args.token c.requires.pausing.0 t c.requires.pausing.1))

pub returns : goal.returns
returns g c = λ t0 pausing.
    let s = c.args.station.now.config in
    let t = c.args.task.now in
    let u = c.event-reply.new.task in
    let token = c.args.token in
    let gift = c.gift_in.result in
    pausing_ends s token t0 t u gift.code gift.next c.with_token.result pausing
    (subst (λ r. Happened t (Element token.element) (op_on.Element (Resume token.generation)) r u) c.gift_in.ensures
    c.event-reply.ensures.event)
    c.event-reply.ensures.possible (subst (NamesUpTo 262143) c.gift_in.ensures c.event-reply.ensures.low) c.with_token.ensures
