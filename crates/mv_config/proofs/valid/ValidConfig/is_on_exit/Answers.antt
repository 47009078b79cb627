-- The exits as they were given are those of the configuration.
use Rattle.std.proofs.Common.{◌∙◌, List, ap}
use Rattle.std.specs.List.{list_any}
use Rattle.mv_config.specs.declared.config.Exit.{Exit}
use Rattle.mv_config.specs.Config.{exit_of}
use Rattle.mv_config.specs.Setup.{is_on}
use Rattle.mv_config.proofs.Targets.{on_given_exit}
use Rattle.mv_config.proofs.valid.ValidConfig.is_on_exit.Goals as goal

pub returns : goal.returns
returns c = record {
  on = c.is_on_any.ensures
      ∙ ap (λ (xs : List Exit). list_any (λ x. is_on (exit_of x) c.args.ecb) xs) c.deref.ensures.value
      ∙ on_given_exit c.self.inside.config c.args.self.now c.args.ecb c.self.view_is;
}
