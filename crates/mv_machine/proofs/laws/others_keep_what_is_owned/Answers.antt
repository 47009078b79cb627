-- Its clauses are lemmas of GrantRuns, Grants and Owners.
use Rattle.mv_machine.proofs.GrantRuns.{granted_or_gone, gone_stays}
use Rattle.mv_machine.proofs.Grants.{granted_stays}
use Rattle.mv_machine.proofs.Owners.{owner_makes, complete_kept, generation_kept, free_kept, free_was, released_kept, prereleased_kept}
use Rattle.mv_machine.proofs.laws.others_keep_what_is_owned.Goals as goal

pub returns-clause-owners : goal.returns-clause-owners
returns-clause-owners c = owner_makes

pub returns-clause-complete : goal.returns-clause-complete
returns-clause-complete c = complete_kept

pub returns-clause-generation : goal.returns-clause-generation
returns-clause-generation c = generation_kept

pub returns-clause-free : goal.returns-clause-free
returns-clause-free c d xs ys n l none = (free_kept d xs ys n l none, free_was d xs ys n l none)

pub returns-clause-released : goal.returns-clause-released
returns-clause-released c = released_kept

pub returns-clause-prereleased : goal.returns-clause-prereleased
returns-clause-prereleased c = prereleased_kept

pub returns-clause-granted : goal.returns-clause-granted
returns-clause-granted c = granted_or_gone

pub returns-clause-gone : goal.returns-clause-gone
returns-clause-gone c = gone_stays

pub returns-clause-held : goal.returns-clause-held
returns-clause-held c = granted_stays
