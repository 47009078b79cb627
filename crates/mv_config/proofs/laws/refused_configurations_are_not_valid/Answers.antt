-- The law is valid_is of Validity.
use Rattle.mv_config.proofs.Validity.{valid_is}
use Rattle.mv_config.proofs.laws.refused_configurations_are_not_valid.Goals as goal

pub returns : goal.returns
returns c = valid_is
