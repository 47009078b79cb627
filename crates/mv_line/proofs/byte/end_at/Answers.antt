use Rattle.std.proofs.Common.{sym, ◌∙◌}
use Rattle.mv_line.proofs.Places.{no_place}
use Rattle.mv_line.proofs.byte.end_at.Goals as goal

pub returns-in-None-clause-place : goal.returns-in-None-clause-place
returns-in-None-clause-place c = no_place _ _ (sym c.first_place.ensures ∙ c.in-None.is)
