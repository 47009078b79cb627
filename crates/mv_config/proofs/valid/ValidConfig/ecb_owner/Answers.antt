-- The owner that is read is a caller, since nothing refuses the configuration.
use Rattle.std.proofs.Common.{◌<◌, length, sym, subst}
use Rattle.mv_config.specs.Config.{setup_of}
use Rattle.mv_config.specs.Setup.{Setup}
use Rattle.mv_config.proofs.Validity.{owner_is_caller}
use Rattle.mv_config.proofs.valid.ValidConfig.ecb_owner.Goals as goal

pub returns-clause-caller : goal.returns-clause-caller
returns-clause-caller c =
    let owner = c.index.result.now in
    let lt = subst (λ (s : Setup). c.args.ecb < length s.owners) (sym c.self.view_is) c.requires.exists in
    subst (λ (s : Setup). owner < s.callers) c.self.view_is (subst (λ m. m < c.self.inside.config.callers) (sym c.index.ensures)
    (owner_is_caller (setup_of c.self.inside.config) c.args.ecb owner c.self.invariant.valid lt))
