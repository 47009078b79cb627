use Rattle.std.proofs.Common.{◌≡◌, ◌++◌, take}
use Rattle.std.specs.List.{flat_map}
use Rattle.mv_entrytext.specs.Journal.{Budget, line}
use Rattle.mv_entrytext.proofs.writing.push_budgets.Given as goal

abbrev pub invariant-loop-budget : goal.invariant-loop-budget
invariant-loop-budget l = l.out.items ≡ l.initial.out.items ++ flat_map (λ n. line (Budget n)) (take l.budget-index l.budgets)
