use Rattle.std.proofs.Common.{◌≡◌, refl, ap, ◌∙◌, arith}
use Rattle.mv_machine.specs.declared.entry.Object.TheVariants.{Volume}
use Rattle.mv_machine.specs.declared.entry.Op.TheVariants as op_on
use Rattle.mv_machine.specs.declared.entry.VolumeOp.TheVariants.{Write}
use Rattle.mv_calls.specs.Program.{on_volume}
use Rattle.mv_calls.specs.Waits.{write_volume, stored}
use Rattle.mv_wait.proofs.Admits.{may_write}
use Rattle.mv_wait.proofs.Answering.{says_stored}
use Rattle.mv_wait.proofs.OneEvent.{one_served}
use Rattle.mv_wait.proofs.station.Station.write_volume.Goals as goal

pub event-requires-clause-admitted : goal.event-requires-clause-admitted
event-requires-clause-admitted g c lt =
    may_write c.args.self.now.config c.args.task.now.number c.args.volume c.args.number c.args.task.now.log lt c.requires.volume
    (let f = c.ranges.number in omega arith)

pub returns : goal.returns
returns g c =
    let t = c.args.task.now in
    let u = c.event.new.task in
    let is = says_stored c.args.self.now.config t u c.args.volume c.args.number c.event.result c.event.ensures.event
    c.event.ensures.possible in record {
      served = one_served (write_volume c.args.volume c.args.number) (λ a. a ≡ tt) t u (Volume c.args.volume)
          (op_on.Volume (Write c.args.number)) c.event.result tt tt c.event.ensures.event refl
          (λ h r. ap (λ z. on_volume z stored) (r ∙ is)) (λ w. refl) c.requires.task.rest refl;
    }
