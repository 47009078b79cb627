use Rattle.std.proofs.Common.{◌≡◌, option_map, Ok, Err, refl, sym, ap, ◌∙◌, arith}
use Rattle.mv_calls.specs.Keeping.{kept_of}
use Rattle.mv_calls.specs.Refusal.{Complete}
use Rattle.mv_calls.specs.Waits.{extend, extended}
use Rattle.mv_wait.specs.Answers.{extend_refused}
use Rattle.mv_wait.specs.Single.{extend_reply}
use Rattle.mv_wait.proofs.Steps.{done_served}
use Rattle.mv_wait.proofs.Singles.{own_is, may_extend, says_extended, allowed_extend, extend_stops, extended_served}
use Rattle.mv_wait.proofs.station.Station.extend.Goals as goal

pub returns-in-Some-clause-served : goal.returns-in-Some-clause-served
returns-in-Some-clause-served g c =
    let t = c.args.task.now in
    let why = extend_refused c.in-Some.refusal in
    done_served 1 (extend c.args.self.now.config c.args.ecb c.args.exit) (λ a. a ≡ Err why) t (Err why)
    (extend_stops c.args.self.now.config c.args.ecb c.args.exit (kept_of t.number t.log) why
    (sym c.refuses_extend.ensures.refusal ∙ ap (λ o. option_map extend_refused o) c.in-Some.is)) c.requires.task.rest refl

pub event-reply-requires-clause-admitted : goal.event-reply-requires-clause-admitted
event-reply-requires-clause-admitted g c lt =
    let t = c.args.task.now in
    let d = c.args.self.now.config in
    let none = sym c.refuses_extend.ensures.refusal ∙ ap (λ o. option_map extend_refused o) c.in_default.is in
    let few = c.refuses_extend.ensures.few c.in_default.is in
    let may = may_extend d c.args.ecb c.args.exit (kept_of t.number t.log) none in
    allowed_extend d t.number c.args.ecb c.args.exit t.log lt c.requires.block (own_is d c.args.ecb t.number t.log may.own) (omega arith)
    may.starts

pub taken-requires : goal.taken-requires
taken-requires g c =
    let t = c.args.task.now in
    let d = c.args.self.now.config in
    let none = sym c.refuses_extend.ensures.refusal ∙ ap (λ o. option_map extend_refused o) c.in_default.is in
    let may = may_extend d c.args.ecb c.args.exit (kept_of t.number t.log) none in
    says_extended d t c.event-reply.new.task c.args.ecb c.args.exit c.event-reply.result c.event-reply.ensures.event
    c.event-reply.ensures.possible (own_is d c.args.ecb t.number t.log may.own) c.requires.task.rest may.plain

pub returns-in-None-clause-served : goal.returns-in-None-clause-served
returns-in-None-clause-served g c =
    let none = sym c.refuses_extend.ensures.refusal ∙ ap (λ o. option_map extend_refused o) c.in_default.is in
    extended_served c.args.self.now.config c.args.task.now c.event-reply.new.task c.args.ecb c.args.exit c.event-reply.result
    c.taken.result (Ok tt) c.event-reply.ensures.event none c.requires.task.rest c.taken.ensures
    (λ i. extended (extend_reply (c.in-None.is i)))

pub returns-in-Some-taken-clause-served : goal.returns-in-Some-taken-clause-served
returns-in-Some-taken-clause-served g c =
    let none = sym c.refuses_extend.ensures.refusal ∙ ap (λ o. option_map extend_refused o) c.in_default.is in
    extended_served c.args.self.now.config c.args.task.now c.event-reply.new.task c.args.ecb c.args.exit c.event-reply.result
    c.taken.result (Err (Complete c.in-Some-taken.code)) c.event-reply.ensures.event none c.requires.task.rest c.taken.ensures
    (λ i. extended (extend_reply (c.in-Some-taken.is i)))
