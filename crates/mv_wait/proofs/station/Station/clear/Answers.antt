use Rattle.std.proofs.Common.{◌≡◌, Ok, Err, refl, sym, ap, ◌∙◌}
use Rattle.mv_ecb.specs.declared.operation.EcbOp.TheVariants.{Clear}
use Rattle.mv_machine.specs.declared.entry.Object.TheVariants.{Ecb}
use Rattle.mv_machine.specs.declared.entry.Op.TheVariants as op_on
use Rattle.mv_calls.specs.Keeping.{kept_of}
use Rattle.mv_calls.specs.Program.{Done, on_ecb}
use Rattle.mv_calls.specs.Refusal.{NotOwner}
use Rattle.mv_calls.specs.Waits.{clear, the_word}
use Rattle.mv_wait.proofs.Admits.{may_clear}
use Rattle.mv_wait.proofs.Answering.{says_word}
use Rattle.mv_wait.proofs.OneEvent.{event_served}
use Rattle.mv_wait.proofs.Steps.{done_served}
use Rattle.mv_wait.proofs.Singles.{own_is, clear_stops, clear_next, clear_goes}
use Rattle.mv_wait.proofs.station.Station.clear.Goals as goal

pub returns-then-is_others_block-clause-served : goal.returns-then-is_others_block-clause-served
returns-then-is_others_block-clause-served g c =
    let t = c.args.task.now in
    done_served 1 (clear c.args.self.now.config c.args.ecb) (λ a. a ≡ Err NotOwner) t (Err NotOwner)
    (clear_stops c.args.self.now.config c.args.ecb (kept_of t.number t.log) (sym c.is_others_block.ensures ∙ c.if-is_others_block.true))
    c.requires.task.rest refl

pub event-reply-requires-clause-admitted : goal.event-reply-requires-clause-admitted
event-reply-requires-clause-admitted g c lt =
    let t = c.args.task.now in
    may_clear c.args.self.now.config t.number c.args.ecb t.log lt c.requires.block
    (own_is c.args.self.now.config c.args.ecb t.number t.log (sym c.is_others_block.ensures ∙ c.if-is_others_block.false))

pub word-requires : goal.word-requires
word-requires g c =
    says_word c.args.self.now.config c.args.task.now c.event-reply.new.task c.args.ecb Clear c.event-reply.result
    c.event-reply.ensures.event c.event-reply.ensures.possible (λ x. tt)

pub returns-clause-served : goal.returns-clause-served
returns-clause-served g c =
    let t = c.args.task.now in
    event_served (clear c.args.self.now.config c.args.ecb) (λ a. a ≡ Ok c.word.result) t c.event-reply.new.task (Ecb c.args.ecb)
    (op_on.Ecb Clear) clear_next c.event-reply.result (Ok c.word.result) tt c.event-reply.ensures.event
    (clear_goes c.args.self.now.config c.args.ecb (kept_of t.number t.log) (sym c.is_others_block.ensures ∙ c.if-is_others_block.false))
    (λ h r. ap (λ z. on_ecb z (the_word (λ w. Done (Ok w)))) (r ∙ c.word.ensures)) (λ w. refl) c.requires.task.rest refl
