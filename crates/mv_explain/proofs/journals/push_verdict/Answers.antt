-- The first illegal event is that of the verdict.
use Rattle.std.proofs.Common.{subst}
use Rattle.mv_explain.specs.declared.judging.Verdict.{Verdict}
use Rattle.mv_explain.specs.Judged.{IsVerdict}
use Rattle.mv_explain.proofs.journals.push_verdict.Goals as goal

pub push_illegal_at-requires-clause-illegal : goal.push_illegal_at-requires-clause-illegal
push_illegal_at-requires-clause-illegal c =
    let j = c.requires.judged in
    (subst (λ (v : Verdict). IsVerdict j.0 c.args.config.now c.args.entries.now j.1 v) c.in-Illegal.is j.2).0
