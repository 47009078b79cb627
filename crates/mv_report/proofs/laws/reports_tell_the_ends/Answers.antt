use Rattle.std.proofs.Common.{sym, ◌∙◌}
use Rattle.mv_report.proofs.Counts.{counts_add_up}
use Rattle.mv_report.proofs.ReadBack.{outcomes_apart, told_is_all}
use Rattle.mv_report.proofs.laws.reports_tell_the_ends.Goals as goal

pub returns-clause-apart : goal.returns-clause-apart
returns-clause-apart c = λ a b is_a is_b one_a one_b same.
    sym (told_is_all a is_a one_a) ∙ outcomes_apart a b is_a is_b same ∙ told_is_all b is_b one_b

pub returns-clause-counts : goal.returns-clause-counts
returns-clause-counts c = counts_add_up
