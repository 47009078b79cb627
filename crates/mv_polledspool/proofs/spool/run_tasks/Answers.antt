use Rattle.std.proofs.Common.{ap, ◌∙◌}
use Rattle.mv_deck.specs.Deck.{deck_data}
use Rattle.mv_config.specs.Setup.{Setup}
use Rattle.mv_work.specs.Spool.{spool_of}
use Rattle.mv_polledspool.proofs.Running.{are_polled, task_count}
use Rattle.mv_polledspool.proofs.spool.run_tasks.Goals as goal

pub run_all-requires-clause-spool : goal.run_all-requires-clause-spool
run_all-requires-clause-spool g c = record {
  few = c.requires.few;
  initiators = c.requires.runnable.few;
  sound = c.requires.runnable.sound;
  config = c.in_ok-station.ensures.config ∙ c.requires.config;
}

pub run_all-requires-clause-count : goal.run_all-requires-clause-count
run_all-requires-clause-count g c =
    task_count c.in_ok-station.tasks.items c.in_ok-polled.polled.items c.in_ok-polled.ensures.tasks ∙ c.in_ok-station.ensures.count
    ∙ ap (λ (s : Setup). s.callers) c.requires.config

pub run_all-requires-clause-polled : goal.run_all-requires-clause-polled
run_all-requires-clause-polled g c =
    are_polled (spool_of c.in_ok-station.station (deck_data c.args.deck.now) c.args.initiators) c.in_ok-station.tasks.items
    c.in_ok-polled.polled.items c.in_ok-station.ensures.tasks c.in_ok-polled.ensures.new c.in_ok-polled.ensures.tasks

pub returns : goal.returns
returns g c = record { results = c.run_all.ensures }
