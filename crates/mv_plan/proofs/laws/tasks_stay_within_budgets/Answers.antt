-- The law is within_budgets of budgets.
use Rattle.mv_plan.proofs.deck.Planned.{planned}
use Rattle.mv_plan.proofs.budgets.{within_budgets}
use Rattle.mv_plan.proofs.laws.tasks_stay_within_budgets.Goals as goal

pub returns : goal.returns
returns c = λ deck initiators es some sound follows. within_budgets deck initiators some (planned deck initiators sound) es follows
