use Rattle.std.proofs.Common.{◌≡◌, refl, ap, ◌∙◌}
use Rattle.mv_machine.specs.declared.entry.VolumeOp.TheVariants.{Read}
use Rattle.mv_machine.specs.declared.entry.Object.TheVariants.{Volume}
use Rattle.mv_machine.specs.declared.entry.Op.TheVariants as op_on
use Rattle.mv_calls.specs.Program.{on_volume}
use Rattle.mv_calls.specs.Waits.{read_volume, the_value}
use Rattle.mv_wait.proofs.Answering.{says_value}
use Rattle.mv_wait.proofs.OneEvent.{one_served}
use Rattle.mv_wait.proofs.station.Station.read_volume.Goals as goal

pub value-requires : goal.value-requires
value-requires c =
    says_value c.args.self.now.config c.args.task.now c.test-reply.new.task c.args.volume c.test-reply.result
    c.test-reply.ensures.event c.test-reply.ensures.possible

pub returns : goal.returns
returns c = record {
  served = one_served (read_volume c.args.volume) (λ a. a ≡ c.value.result) c.args.task.now c.test-reply.new.task (Volume c.args.volume)
      (op_on.Volume Read) c.test-reply.result c.value.result tt c.test-reply.ensures.event refl
      (λ h r. ap (λ z. on_volume z the_value) (r ∙ c.value.ensures)) (λ w. refl) c.requires.task.rest refl;
}
