-- What is shown of the machine is shown of what the handle holds.
use Rattle.std.proofs.Common.{◌≡◌, [], ◌∷◌, sym, ap, ◌∙◌}
use Rattle.mv_config.specs.Setup.{Setup}
use Rattle.mv_oracle.specs.declared.oracle.Oracle.{Oracle}
use Rattle.mv_oracle.specs.Machine.{Machine}
use Rattle.mv_oracle.specs.Operation.{object_of}
use Rattle.mv_oracle.specs.Reading.{IsFound, object_at}
use Rattle.mv_oracle.proofs.Steps.{shown_of}
use Rattle.mv_oracle.proofs.handle.MachineHandle.object.Goals as goal

pub returns-clause-found : goal.returns-clause-found
returns-clause-found c = λ c' m h.
    let o = c.deref.result.now in
    let shown = c.show_object-status in
    let had : c.args.self.now.held ≡ o ∷ [] = c.in-Some.ensures.taken ∙ ap (λ (x : Oracle). x ∷ []) (sym c.deref.ensures) in
    shown_of (λ (s : Setup) (n : Machine). IsFound (object_at s n.system (object_of c.args.kind c.args.number)) shown.result shown.new.answer)
    o c.args.self.now.held c' m h had shown.ensures.found
