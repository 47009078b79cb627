use Rattle.std.proofs.Common.{◌≡◌, refl, ap, ◌∙◌, subst}
use Rattle.mv_element.specs.declared.operation.ElementOp.TheVariants.{Release}
use Rattle.mv_machine.specs.declared.entry.Object.TheVariants.{Element}
use Rattle.mv_machine.specs.declared.entry.Op.TheVariants as op_on
use Rattle.mv_machine.specs.declared.entry.Reply.TheVariants as reply_of
use Rattle.mv_machine.specs.Replies.{NamesUpTo}
use Rattle.mv_board.specs.Faces.{Happened}
use Rattle.mv_calls.specs.Pauses.{release, released}
use Rattle.mv_calls.specs.Program.{on_element}
use Rattle.mv_wait.proofs.OneEvent.{one_served}
use Rattle.mv_pause.specs.Answers.{release_answer}
use Rattle.mv_pause.specs.Replies.{reply_to_release}
use Rattle.mv_pause.proofs.Answering.{says_released}
use Rattle.mv_pause.proofs.Served.{release_says_so, release_opens_nothing, release_is_low}
use Rattle.mv_pause.proofs.releasing.release.Goals as goal

pub released-answer-requires : goal.released-answer-requires
released-answer-requires g c =
    says_released _ _ _ _ _ _ _ c.event-reply.ensures.event c.event-reply.ensures.possible

pub returns : goal.returns
returns g c =
    let t = c.args.task.now in
    let u = c.event-reply.new.task in
    let o = Element c.args.token.element in
    let r = c.released-answer.result in
    let op = op_on.Element (Release c.args.token.generation c.args.code) in
    let h = subst (λ z. Happened t o op z u) c.released-answer.ensures c.event-reply.ensures.event in record {
      served = one_served (release c.args.token c.args.code) (λ a. a ≡ release_answer r) t u o op (reply_of.Element (reply_to_release r))
          (release_answer r) tt h refl (λ x e. ap (λ z. on_element z released) e ∙ release_says_so r)
          (λ w. release_opens_nothing r w c.args.token.element op) c.requires.task.rest refl;
      causes = h;
      low = release_is_low r (subst (NamesUpTo 262143) c.released-answer.ensures c.event-reply.ensures.low);
    }
