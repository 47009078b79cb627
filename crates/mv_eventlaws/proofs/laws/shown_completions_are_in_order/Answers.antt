-- The law is shown_in_order of Shown.
use Rattle.mv_eventlaws.proofs.Shown.{shown_in_order}
use Rattle.mv_eventlaws.proofs.laws.shown_completions_are_in_order.Goals as goal

pub returns : goal.returns
returns c = λ s t es w. shown_in_order s t es w
