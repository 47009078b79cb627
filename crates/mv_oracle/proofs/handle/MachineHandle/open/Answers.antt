-- The verdict is true of the journal, and the handle holds the machine after its entries.
use Rattle.std.proofs.Common.{sym, subst}
use Rattle.mv_replay.specs.Judgement.{IsReplayed}
use Rattle.mv_oracle.specs.declared.verdict.Verdict.{Verdict}
use Rattle.mv_oracle.specs.Machine.{machine_of}
use Rattle.mv_oracle.specs.Verdict.{IsVerdictOn}
use Rattle.mv_oracle.proofs.Steps.{holds}
use Rattle.mv_oracle.proofs.Verdicts.{legal_verdict, refused_verdict}
use Rattle.mv_oracle.proofs.handle.MachineHandle.open.Goals as goal

pub returns-in-Ok-clause-verdict : goal.returns-in-Ok-clause-verdict
returns-in-Ok-clause-verdict c =
    subst (λ (v : Verdict). IsVerdictOn c.args.journal.now v) (sym c.legal.ensures)
    (legal_verdict c.args.journal.now c.in-Ok.events c.in-Ok.ensures.short c.in-Ok.ensures.replayed.journal)

pub returns-in-Ok-clause-opened : goal.returns-in-Ok-clause-opened
returns-in-Ok-clause-opened c = λ zero.
    let o = c.in-Ok.machine.value in
    let m = machine_of o in (
      o.config,
      m,
      subst (λ (v : Verdict). IsReplayed c.args.journal.now v.events o.config m.system m.wakes) (sym c.legal.ensures)
          c.in-Ok.ensures.replayed,
      holds o c.put.new.self.held c.put.ensures,
    )

pub returns-in-Err-clause-verdict : goal.returns-in-Err-clause-verdict
returns-in-Err-clause-verdict c =
    subst (λ (v : Verdict). IsVerdictOn c.args.journal.now v) (sym c.refused.ensures)
    (refused_verdict c.args.journal.now c.in-Err.status c.in-Err.ensures.refused)
