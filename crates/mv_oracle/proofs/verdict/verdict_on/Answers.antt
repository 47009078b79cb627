-- The verdict by what the judge of texts returned is true of the text.
use Rattle.std.proofs.Common.{sym, subst}
use Rattle.mv_oracle.specs.declared.verdict.Verdict.{Verdict}
use Rattle.mv_oracle.specs.Verdict.{IsVerdictOn}
use Rattle.mv_oracle.proofs.Verdicts.{legal_verdict, refused_verdict}
use Rattle.mv_oracle.proofs.verdict.verdict_on.Goals as goal

pub returns-in-Ok : goal.returns-in-Ok
returns-in-Ok c =
    subst (λ (v : Verdict). IsVerdictOn c.args.journal.now v) (sym c.legal.ensures)
    (legal_verdict c.args.journal.now c.in-Ok.replayed.count c.in-Ok.ensures.short c.in-Ok.ensures.replayed.journal)

pub returns-in-Err : goal.returns-in-Err
returns-in-Err c =
    subst (λ (v : Verdict). IsVerdictOn c.args.journal.now v) (sym c.refused.ensures)
    (refused_verdict c.args.journal.now c.in-Err.status c.in-Err.ensures.refused)
