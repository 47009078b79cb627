use Rattle.std.proofs.Common.{sym, ◌∙◌}
use Rattle.mv_line.proofs.Parts.{parts_found, parts_missed}
use Rattle.mv_line.proofs.part.split_part.Goals as goal

pub returns-in-Some-clause-parts : goal.returns-in-Some-clause-parts
returns-in-Some-clause-parts c = parts_found c.args.byte c.args.text.now c.in-Some.place (sym c.first_place.ensures ∙ c.in-Some.is)

pub returns-in-None-clause-parts : goal.returns-in-None-clause-parts
returns-in-None-clause-parts c = parts_missed c.args.byte c.args.text.now (sym c.first_place.ensures ∙ c.in-None.is)
