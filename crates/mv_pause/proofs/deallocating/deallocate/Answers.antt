use Rattle.std.proofs.Common.{◌≡◌, Ok, Err, refl, sym, ap, ◌∙◌, subst}
use Rattle.std.proofs.lemmas.Bool.{false≢true, eq-eqb, lt-ltb}
use Rattle.mv_element.specs.declared.operation.ElementOp.TheVariants.{Close}
use Rattle.mv_element.specs.declared.operation.ElementReply.TheVariants.{Closed, Spent}
use Rattle.mv_config.specs.Setup.{element_count, element_owner}
use Rattle.mv_machine.specs.declared.entry.Object.TheVariants.{Element}
use Rattle.mv_machine.specs.declared.entry.Op.TheVariants as op_on
use Rattle.mv_machine.specs.declared.entry.Reply.TheVariants as reply_of
use Rattle.mv_machine.specs.Replies.{NamesUpTo}
use Rattle.mv_board.specs.Faces.{Happened}
use Rattle.mv_calls.specs.Keeping.{kept_of}
use Rattle.mv_calls.specs.Pauses.{deallocate, closed}
use Rattle.mv_calls.specs.Program.{Do, on_element}
use Rattle.mv_calls.specs.Refusal as refusal
use Rattle.mv_wait.proofs.OneEvent.{event_served}
use Rattle.mv_wait.proofs.Steps.{done_served}
use Rattle.mv_pause.specs.Replies.{SaysClosed, reply_to_close}
use Rattle.mv_pause.proofs.Answering.{close_says, says_idle, close_is_current, current_is_not_spent}
use Rattle.mv_pause.proofs.Served.{mine, others, own_is}
use Rattle.mv_pause.proofs.deallocating.deallocate.Goals as goal

pub returns-then-is_others-clause-served : goal.returns-then-is_others-clause-served
returns-then-is_others-clause-served g c =
    let t = c.args.task.now in
    done_served 1 (deallocate c.args.station.now.config c.args.token) (λ a. a ≡ Err refusal.NotOwner) t (Err refusal.NotOwner)
    (others c.args.station.now.config (kept_of t.number t.log) c.args.token
    (Do (Element c.args.token.element) (op_on.Element (Close c.args.token.generation)) (λ h. on_element h.entry.reply closed))
    (sym c.is_others.ensures ∙ c.if-is_others.true)) c.requires.task.rest refl

pub returns-then-is_others-clause-current : goal.returns-then-is_others-clause-current
returns-then-is_others-clause-current g c own current =
    absurd (false≢true (sym own ∙ (sym c.is_others.ensures ∙ c.if-is_others.true)))

pub event-reply-requires-clause-admitted : goal.event-reply-requires-clause-admitted
event-reply-requires-clause-admitted g c lt =
    let s = c.args.station.now.config in
    let t = c.args.task.now in
    let n = c.args.token.element in
    let own = own_is s t.number t.log c.args.token (sym c.is_others.ensures ∙ c.if-is_others.false) in
    rw (lt-ltb t.number s.callers lt, lt-ltb n (element_count s) c.requires.element, eq-eqb (element_owner s n) t.number own) refl

pub over-requires : goal.over-requires
over-requires g c =
    says_idle c.args.station.now.config c.args.task.now c.event-reply.new.task c.args.token.element (Close c.args.token.generation)
    c.event-reply.result SaysClosed (close_says c.args.token.generation) c.event-reply.ensures.event c.event-reply.ensures.possible
    (own_is c.args.station.now.config c.args.task.now.number c.args.task.now.log c.args.token
    (sym c.is_others.ensures ∙ c.if-is_others.false)) c.requires.task.rest

pub returns-in-None : goal.returns-in-None
returns-in-None g c =
    let s = c.args.station.now.config in
    let t = c.args.task.now in
    let u = c.event-reply.new.task in
    let token = c.args.token in
    let o = Element token.element in
    let op = op_on.Element (Close token.generation) in
    let own = sym c.is_others.ensures ∙ c.if-is_others.false in
    let h = subst (λ r. Happened t o op r u) (c.over.ensures ∙ ap (λ z. reply_of.Element (reply_to_close z)) c.in-None.is)
    c.event-reply.ensures.event in record {
      served = event_served (deallocate s token) (λ a. a ≡ Ok tt) t u o op (λ x. on_element x.entry.reply closed) (reply_of.Element Closed)
          (Ok tt) tt h
          (mine s (kept_of t.number t.log) token (Do o op (λ x. on_element x.entry.reply closed)) own)
          (λ x r. ap (λ z. on_element z closed) r) (λ w. refl) c.requires.task.rest refl;
      causes = (own, h);
      current = λ mine current. refl;
      low = tt;
    }

pub returns-in-Some : goal.returns-in-Some
returns-in-Some g c =
    let s = c.args.station.now.config in
    let t = c.args.task.now in
    let u = c.event-reply.new.task in
    let token = c.args.token in
    let now = c.in-Some.now in
    let o = Element token.element in
    let op = op_on.Element (Close token.generation) in
    let own = sym c.is_others.ensures ∙ c.if-is_others.false in
    let is = c.over.ensures ∙ ap (λ z. reply_of.Element (reply_to_close z)) c.in-Some.is in
    let h = subst (λ r. Happened t o op r u) is c.event-reply.ensures.event in record {
      served = event_served (deallocate s token) (λ a. a ≡ Err (refusal.Spent now)) t u o op (λ x. on_element x.entry.reply closed)
          (reply_of.Element (Spent now)) (Err (refusal.Spent now)) tt h
          (mine s (kept_of t.number t.log) token (Do o op (λ x. on_element x.entry.reply closed)) own)
          (λ x r. ap (λ z. on_element z closed) r) (λ w. refl) c.requires.task.rest refl;
      causes = (own, h);
      current = λ mine current. absurd (current_is_not_spent s t u token (Close token.generation) c.event-reply.result now
          (close_is_current token.generation now) c.event-reply.ensures.event c.event-reply.ensures.possible
          (own_is s t.number t.log token own) c.requires.task.rest current is);
      low = subst (NamesUpTo 262143) is c.event-reply.ensures.low;
    }
