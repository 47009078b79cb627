-- Its clauses are lemmas of Sections.
use Rattle.mv_calls.proofs.Sections.{section_is_own, section_keeps_volume}
use Rattle.mv_calls.proofs.section_laws.sections_are_undisturbed.Goals as goal

pub returns-clause-own : goal.returns-clause-own
returns-clause-own c = section_is_own

pub returns-clause-volume : goal.returns-clause-volume
returns-clause-volume c = section_keeps_volume
