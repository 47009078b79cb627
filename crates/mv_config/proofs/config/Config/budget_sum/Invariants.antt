-- The sum of the budgets so far.
use Rattle.std.proofs.Common.{◌≡◌, ◌≤◌, ◌*◌, ◌^◌, take, sum}
use Rattle.mv_config.proofs.config.Config.budget_sum.Given as goal

abbrev pub invariant-loop-budget : goal.invariant-loop-budget
invariant-loop-budget l = record {
  so_far : l.sum ≡ sum (take l.budget-index l.self.budgets.items);
  fits : l.sum ≤ l.budget-index * 2 ^ 32;
}
