use Rattle.std.proofs.Common.{sym, ◌∙◌}
use Rattle.mv_deck.proofs.Mapped.{repeats_of}
use Rattle.mv_deck.proofs.parts.repeats_first.Goals as goal

pub returns-in-Some : goal.returns-in-Some
returns-in-Some c = c.names.ensures ∙ sym (repeats_of c.args.parts.now c.in-Some.behind.now c.in-Some.first.now c.in-Some.ensures.cases.0)
