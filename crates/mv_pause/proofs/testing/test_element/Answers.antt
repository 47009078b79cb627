use Rattle.std.proofs.Common.{◌≡◌, refl, ap, subst}
use Rattle.mv_element.specs.declared.operation.ElementOp.TheVariants.{Test}
use Rattle.mv_element.specs.declared.operation.ElementReply.TheVariants.{State}
use Rattle.mv_machine.specs.declared.entry.Object.TheVariants.{Element}
use Rattle.mv_machine.specs.declared.entry.Op.TheVariants as op_on
use Rattle.mv_machine.specs.declared.entry.Reply.TheVariants as reply_of
use Rattle.mv_machine.specs.Replies.{NamesUpTo}
use Rattle.mv_board.specs.Faces.{Happened}
use Rattle.mv_calls.specs.Pauses.{test_element, the_state}
use Rattle.mv_calls.specs.Program.{on_element}
use Rattle.mv_wait.proofs.OneEvent.{one_served}
use Rattle.mv_pause.proofs.Answering.{says_state}
use Rattle.mv_pause.proofs.testing.test_element.Goals as goal

pub state-requires : goal.state-requires
state-requires c =
    says_state c.args.station.now.config c.args.task.now c.test.new.task c.args.element c.test.result c.test.ensures.event
    c.test.ensures.possible

pub returns : goal.returns
returns c =
    let t = c.args.task.now in
    let u = c.test.new.task in
    let o = Element c.args.element in
    let h = subst (λ r. Happened t o (op_on.Element Test) r u) c.state.ensures c.test.ensures.event in record {
      served = one_served (test_element c.args.element) (λ a. a ≡ c.state.result) t u o (op_on.Element Test)
          (reply_of.Element (State c.state.result)) c.state.result tt h refl (λ x r. ap (λ z. on_element z the_state) r) (λ w. refl)
          c.requires.task.rest refl;
      low = subst (NamesUpTo 262143) c.state.ensures c.test.ensures.low;
    }
