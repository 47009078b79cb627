use Rattle.std.proofs.Common.{◌≡◌, ◌<◌, Ok, Err, refl, sym, ap, ◌∙◌, subst}
use Rattle.std.specs.Prelude.{IfSome}
use Rattle.std.proofs.lemmas.Bool.{eq-eqb, lt-ltb}
use Rattle.mv_element.specs.declared.operation.ElementOp.TheVariants.{Open}
use Rattle.mv_element.specs.declared.operation.ElementReply.TheVariants.{Opened}
use Rattle.mv_config.specs.Setup.{element_count, element_owner}
use Rattle.mv_machine.specs.declared.entry.Object.TheVariants.{Element}
use Rattle.mv_machine.specs.declared.entry.Op.TheVariants as op_on
use Rattle.mv_machine.specs.declared.entry.Reply.TheVariants as reply_of
use Rattle.mv_machine.specs.Replies.{NamesUpTo}
use Rattle.mv_board.specs.Faces.{Happened}
use Rattle.mv_calls.specs.Pauses.{allocate, open_lowest, opened, token_of}
use Rattle.mv_calls.specs.Program.{on_element}
use Rattle.mv_calls.specs.Refusal as refusal
use Rattle.mv_wait.proofs.OneEvent.{event_served}
use Rattle.mv_wait.proofs.Steps.{done_served}
use Rattle.mv_pause.proofs.Answering.{says_opened}
use Rattle.mv_pause.proofs.Lowest.{lowest_is_unused}
use Rattle.mv_pause.proofs.allocating.allocate.Goals as goal

pub returns-in_default-clause-served : goal.returns-in_default-clause-served
returns-in_default-clause-served g c =
    done_served 1 (allocate c.args.station.now.config) (λ a. a ≡ Err refusal.NoElement) c.args.task.now (Err refusal.NoElement)
    (ap open_lowest (sym c.lowest.ensures.lowest ∙ c.in_default.is)) c.requires.task.rest refl

pub event-reply-requires-clause-admitted : goal.event-reply-requires-clause-admitted
event-reply-requires-clause-admitted g c lt =
    let s = c.args.station.now.config in
    let k = c.args.task.now.number in
    let n = c.in-Some.element in
    let own = subst (λ z. IfSome z (λ m. (m < element_count s) × (element_owner s m ≡ k))) c.in-Some.is c.lowest.ensures.own in
    rw (lt-ltb k s.callers lt, lt-ltb n (element_count s) own.0, eq-eqb (element_owner s n) k own.1) refl

pub opened-requires : goal.opened-requires
opened-requires g c =
    let s = c.args.station.now.config in
    let t = c.args.task.now in
    let n = c.in-Some.element in
    let own = subst (λ z. IfSome z (λ m. (m < element_count s) × (element_owner s m ≡ t.number))) c.in-Some.is c.lowest.ensures.own in
    says_opened s t c.event-reply.new.task n c.event-reply.result c.event-reply.ensures.event c.event-reply.ensures.possible own.1
    (lowest_is_unused s t.number t.log n (sym c.lowest.ensures.lowest ∙ c.in-Some.is))

pub returns : goal.returns
returns g c =
    let s = c.args.station.now.config in
    let t = c.args.task.now in
    let u = c.event-reply.new.task in
    let n = c.in-Some.element in
    let token = token_of n c.opened.result in
    let found = sym c.lowest.ensures.lowest ∙ c.in-Some.is in
    let h = subst (λ r. Happened t (Element n) (op_on.Element Open) r u) c.opened.ensures c.event-reply.ensures.event in record {
      served = event_served (allocate s) (λ a. a ≡ Ok token) t u (Element n) (op_on.Element Open) (λ x. on_element x.entry.reply (opened n))
          (reply_of.Element (Opened c.opened.result)) (Ok token) tt h (ap open_lowest found) (λ x r. ap (λ z. on_element z (opened n)) r)
          (λ w. refl) c.requires.task.rest refl;
      causes = found;
      own = subst (λ z. IfSome z (λ m. (m < element_count s) × (element_owner s m ≡ t.number))) c.in-Some.is c.lowest.ensures.own;
      low = subst (NamesUpTo 262143) c.opened.ensures c.event-reply.ensures.low;
    }
