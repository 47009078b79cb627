-- Its clauses are lemmas of Objects and SameParts.
use Rattle.mv_machine.specs.System.{opening}
use Rattle.mv_machine.proofs.Objects.{told_by_part}
use Rattle.mv_machine.proofs.SameParts.{legal_by_parts, after_by_part, same_legal, same_after, same_told}
use Rattle.mv_machine.proofs.laws.histories_are_their_parts.Goals as goal

pub returns-clause-legal : goal.returns-clause-legal
returns-clause-legal c = legal_by_parts

pub returns-clause-after : goal.returns-clause-after
returns-clause-after c = after_by_part

pub returns-clause-told : goal.returns-clause-told
returns-clause-told c d es k = told_by_part (opening d) k es

pub returns-clause-same_legal : goal.returns-clause-same_legal
returns-clause-same_legal c = same_legal

pub returns-clause-same_after : goal.returns-clause-same_after
returns-clause-same_after c = same_after

pub returns-clause-same_told : goal.returns-clause-same_told
returns-clause-same_told c = same_told
