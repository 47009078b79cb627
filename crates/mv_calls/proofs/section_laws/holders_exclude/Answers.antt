-- Its clauses are lemmas of Sections.
use Rattle.mv_calls.proofs.Sections.{section_holds, one_holder, none_beside, not_purged}
use Rattle.mv_calls.proofs.section_laws.holders_exclude.Goals as goal

pub returns-clause-holds : goal.returns-clause-holds
returns-clause-holds c = section_holds

pub returns-clause-one : goal.returns-clause-one
returns-clause-one c = one_holder

pub returns-clause-alone : goal.returns-clause-alone
returns-clause-alone c = none_beside

pub returns-clause-kept : goal.returns-clause-kept
returns-clause-kept c = not_purged
