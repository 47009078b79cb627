use Rattle.std.proofs.Common.{◌≡◌, refl, ap, ◌∙◌}
use Rattle.mv_ecb.specs.declared.operation.EcbOp.TheVariants.{Test}
use Rattle.mv_machine.specs.declared.entry.Object.TheVariants.{Ecb}
use Rattle.mv_machine.specs.declared.entry.Op.TheVariants as op_on
use Rattle.mv_calls.specs.Program.{Done, on_ecb}
use Rattle.mv_calls.specs.Waits.{test_ecb, the_word}
use Rattle.mv_wait.proofs.Answering.{says_word}
use Rattle.mv_wait.proofs.OneEvent.{one_served}
use Rattle.mv_wait.proofs.station.Station.test_ecb.Goals as goal

pub word-requires : goal.word-requires
word-requires c =
    says_word c.args.self.now.config c.args.task.now c.test-reply.new.task c.args.ecb Test c.test-reply.result
    c.test-reply.ensures.event c.test-reply.ensures.possible (λ x. tt)

pub returns : goal.returns
returns c = record {
  served = one_served (test_ecb c.args.ecb) (λ a. a ≡ c.word.result) c.args.task.now c.test-reply.new.task (Ecb c.args.ecb)
      (op_on.Ecb Test) c.test-reply.result c.word.result tt c.test-reply.ensures.event refl
      (λ h r. ap (λ z. on_ecb z (the_word (λ w. Done w))) (r ∙ c.word.ensures)) (λ w. refl) c.requires.task.rest refl;
}
