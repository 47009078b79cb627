-- None of any log is given, and the budgets of a configuration that was checked are within the limit.
use Rattle.std.proofs.Common.{replicate, ap, ◌∙◌}
use Rattle.mv_config.specs.Setup.{Setup}
use Rattle.mv_config.proofs.Validity.{budgets_kept}
use Rattle.mv_machine.proofs.merging.MergeRoom.new.Goals as goal

pub returns : goal.returns
returns c = record {
  few = budgets_kept c.args.config.now c.config.ensures.valid;
  opened = c.in_ok-state.ensures.opened;
  opening = c.in_ok-state.ensures.system;
  unshown = c.in_ok-state.ensures.wakes;
  logs = c.in_ok-merged.ensures.items_if_clones_equal (λ y e. e) ∙ ap (λ (s : Setup). replicate s.callers 0) c.config.ensures.given;
}
