-- Its clauses are lemmas of Merged.
use Rattle.mv_machine.proofs.Merged.{merged_legal, merged_callers, merged_objects, merged_told, merged_had, merged_after, each_pick}
use Rattle.mv_machine.proofs.Merged.{total_parts}
use Rattle.mv_machine.proofs.laws.merging_keeps_a_history.Goals as goal

pub returns-clause-legal : goal.returns-clause-legal
returns-clause-legal c = merged_legal

pub returns-clause-callers : goal.returns-clause-callers
returns-clause-callers c = merged_callers

pub returns-clause-objects : goal.returns-clause-objects
returns-clause-objects c = merged_objects

pub returns-clause-told : goal.returns-clause-told
returns-clause-told c = merged_told

pub returns-clause-had : goal.returns-clause-had
returns-clause-had c = merged_had

pub returns-clause-after : goal.returns-clause-after
returns-clause-after c = merged_after

pub returns-clause-each_pick : goal.returns-clause-each_pick
returns-clause-each_pick c = each_pick

pub returns-clause-total : goal.returns-clause-total
returns-clause-total c = total_parts
