use Rattle.std.proofs.Common.{◌∙◌}
use Rattle.mv_pause.proofs.Tried.{tried_same}
use Rattle.mv_task.proofs.tests.pauses.exchange.Goals as goal

pub returns : goal.returns
returns g c =
    let same = tried_same c.args.token c.args.expected c.args.code c.args.task.now c.try_release.result c.try_release.new.task
    c.try_release.ensures.causes in record {
      task = (same.table ∙ c.requires.task.0, same.about ∙ c.requires.task.1);
      rest = c.try_release.ensures.rest;
    }
