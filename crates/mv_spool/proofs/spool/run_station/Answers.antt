use Rattle.std.proofs.Common.{◌≡◌, ◌+◌, ◌<◌, ◌∙◌, ap, arith}
use Rattle.mv_deck.specs.Deck.{deck_data}
use Rattle.mv_config.specs.Setup.{Setup}
use Rattle.mv_work.specs.Spool.{spool_of}
use Rattle.mv_work.specs.Works.{AreWorked}
use Rattle.mv_work.proofs.Histories.{are_results, works_end}
use Rattle.mv_spool.proofs.spool.run_station.Given as bound
use Rattle.mv_spool.proofs.spool.run_station.Goals as goal
use Rattle.mv_spool.proofs.spool.run_station.Goals.{In_ok-tasks}

-- all tasks have worked
worked : (g : bound.Over) (c : In_ok-tasks g) → AreWorked (spool_of c.in_ok-station.station (deck_data c.args.deck.now) c.args.initiators)
    c.in_ok-tasks.works.items c.in_ok-tasks.tasks.items
worked g c =
    let back = c.in_ok-tasks.ensures in
    let new = c.in_ok-works.ensures.count in
    let callers : c.in_ok-station.station.config.callers ≡ c.args.initiators + 3 =
    ap (λ (s : Setup). s.callers) (c.in_ok-station.ensures.config ∙ c.requires.config) in
    record {
      works = back.rooms ∙ new;
      tasks = back.all ∙ callers;
      each = λ k w t lt. let less : k < c.args.initiators + 3 = lt in back.done k w t (omega arith);
    }

pub results_of-requires-clause-some : goal.results_of-requires-clause-some
results_of-requires-clause-some g c =
    let all = (worked g (goal.at.results_of-requires-clause-some g c).In_ok-tasks).works in omega arith

pub results_of-requires-clause-writer : goal.results_of-requires-clause-writer
results_of-requires-clause-writer g c =
    works_end (spool_of c.in_ok-station.station (deck_data c.args.deck.now) c.args.initiators) c.in_ok-tasks.works.items
    c.in_ok-tasks.tasks.items (worked g (goal.at.results_of-requires-clause-writer g c).In_ok-tasks)

pub returns : goal.returns
returns g c =
    let closed = c.close.ensures in
    let results = c.results_of.ensures in
    record {
      results = are_results (spool_of c.in_ok-station.station (deck_data c.args.deck.now) c.args.initiators) c.in_ok-tasks.works.items
          c.in_ok-tasks.tasks.items (worked g (goal.at.returns g c).In_ok-tasks) c.close.result c.requires.runnable.some c.requires.runnable.sound
          (c.in_ok-station.ensures.config ∙ c.requires.config) closed.legal closed.callers c.results_of.result results.closed
          closed.config closed.whole closed.few closed.volumes results.records results.ends;
    }
