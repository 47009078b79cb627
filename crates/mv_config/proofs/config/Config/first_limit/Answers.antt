-- The exits are seen as those of the specification.
use Rattle.std.proofs.Common.{arith}
use Rattle.std.proofs.lemmas.Grind.{common_steps}
use Rattle.std.proofs.lemmas.List.Folds.{list_all-map}
use Rattle.mv_config.proofs.config.Config.first_limit.Goals as goal

pub returns-then-not-has_few_targets : goal.returns-then-not-has_few_targets
returns-then-not-has_few_targets c = grind (arith, common_steps, list_all-map)

pub returns : goal.returns
returns c = grind (arith, common_steps, list_all-map)
