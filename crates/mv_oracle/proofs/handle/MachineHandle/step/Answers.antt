-- The handle holds the machine after the operation.
use Rattle.std.proofs.Common.{◌≡◌, [], ◌∷◌, sym, ap, ◌∙◌}
use Rattle.mv_oracle.specs.declared.oracle.Oracle.{Oracle}
use Rattle.mv_oracle.specs.Operation.{request_of}
use Rattle.mv_oracle.proofs.Steps.{step_holds}
use Rattle.mv_oracle.proofs.handle.MachineHandle.step.Goals as goal

pub returns-clause-stepped : goal.returns-clause-stepped
returns-clause-stepped c = λ c' m h.
    let old = c.deref_mut.result.now in
    let new = c.serve-status.new.self in
    let operation = c.args.operation.now in
    let lent : c.in-Some.machine.value ≡ old = sym c.deref_mut.ensures.value in
    let had : c.args.self.now.held ≡ old ∷ [] = c.in-Some.ensures.taken ∙ ap (λ (o : Oracle). o ∷ []) lent in
    step_holds old new c.args.self.now.held c.put.new.self.held c' m operation.caller (request_of operation) c.serve-status.result
    c.serve-status.new.answer h had c.put.ensures c.serve-status.ensures.config c.serve-status.ensures.stepped
