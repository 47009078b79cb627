use Rattle.std.proofs.Common.{◌≡◌, ◌+◌, List, length, sym, ap, ◌∙◌, subst, arith}
use Rattle.std.proofs.lemmas.List.{length-map}
use Rattle.mv_board.specs.Faces.{AreInOrder, CallerFace}
use Rattle.mv_deck.specs.Deck.{deck_data}
use Rattle.mv_config.specs.Setup.{Setup}
use Rattle.mv_work.specs.Spool.{SpoolFace, spool_of}
use Rattle.mv_work.specs.Works.{AreWorked}
use Rattle.mv_work.proofs.Histories.{are_results, works_end}
use Rattle.mv_polledspool.specs.Polled.{ArePolled}
use Rattle.mv_polledspool.proofs.Running.{are_worked, polled_in_order, task_of}
use Rattle.mv_polledspool.proofs.spool.run_all.Given as bound
use Rattle.mv_polledspool.proofs.spool.run_all.Goals.{After-parted-tasks}
use Rattle.mv_polledspool.proofs.spool.run_all.Goals as goal

pub new-spool-requires : goal.new-spool-requires
new-spool-requires g c = record { spool = c.requires.spool }

pub poll_all-polled-requires-clause-spool : goal.poll_all-polled-requires-clause-spool
poll_all-polled-requires-clause-spool g c = rw c.new-spool.ensures c.requires.spool

pub poll_all-polled-requires-clause-count : goal.poll_all-polled-requires-clause-count
poll_all-polled-requires-clause-count g c = rw c.new-spool.ensures c.requires.count

pub poll_all-polled-requires-clause-polled : goal.poll_all-polled-requires-clause-polled
poll_all-polled-requires-clause-polled g c = rw c.new-spool.ensures c.requires.polled

-- what was polled is of this spool
polled : (g : bound.Over) (c : After-parted-tasks g)
    → ArePolled (spool_of c.args.station (deck_data c.args.deck.now) c.args.initiators) c.poll_all-polled.result.items
polled g c = rw c.new-spool.ensures at c.poll_all-polled.ensures.polled

count : (g : bound.Over) (c : After-parted-tasks g) → length c.poll_all-polled.result.items ≡ c.args.initiators + 3
count g c = c.poll_all-polled.ensures.count ∙ ap (λ (s : SpoolFace). s.initiators + 3) c.new-spool.ensures

pub close-requires-clause-order : goal.close-requires-clause-order
close-requires-clause-order g c =
    let s = spool_of c.args.station (deck_data c.args.deck.now) c.args.initiators in
    let at = (goal.at.close-requires-clause-order g c).After-parted-tasks in
    subst (AreInOrder c.args.station 0) (sym c.parted-tasks.ensures.tasks)
    (polled_in_order s c.poll_all-polled.result.items (polled g at) c.poll_all-polled.ensures.finished)

pub close-requires-clause-all : goal.close-requires-clause-all
close-requires-clause-all g c =
    ap (λ (ts : List CallerFace). length ts) c.parted-tasks.ensures.tasks ∙ length-map c.poll_all-polled.result.items task_of
    ∙ count g (goal.at.close-requires-clause-all g c).After-parted-tasks ∙ sym (ap (λ (s : Setup). s.callers) c.requires.spool.config)

-- all tasks have worked
worked : (g : bound.Over) (c : After-parted-tasks g)
    → AreWorked (spool_of c.args.station (deck_data c.args.deck.now) c.args.initiators) c.parted-tasks.result.1.items
    c.parted-tasks.result.0.items
worked g c =
    let s = spool_of c.args.station (deck_data c.args.deck.now) c.args.initiators in
    let parts = c.parted-tasks.ensures in
    rw (parts.works, parts.tasks) (are_worked s c.poll_all-polled.result.items (polled g c) c.poll_all-polled.ensures.finished (count g c))

pub results_of-requires-clause-some : goal.results_of-requires-clause-some
results_of-requires-clause-some g c =
    let all = (worked g (goal.at.results_of-requires-clause-some g c).After-parted-tasks).works in omega arith

pub results_of-requires-clause-writer : goal.results_of-requires-clause-writer
results_of-requires-clause-writer g c =
    works_end (spool_of c.args.station (deck_data c.args.deck.now) c.args.initiators) c.parted-tasks.result.1.items
    c.parted-tasks.result.0.items (worked g (goal.at.results_of-requires-clause-writer g c).After-parted-tasks)

pub results_of-requires-clause-room : goal.results_of-requires-clause-room
results_of-requires-clause-room g c =
    let all = (worked g (goal.at.results_of-requires-clause-room g c).After-parted-tasks).works in
    rw c.parted-tasks.ensures.records (c.requires.records.0, (let room = c.requires.records.1 in omega arith))

pub returns : goal.returns
returns g c =
    let closed = c.close.ensures in
    let results = c.results_of.ensures in
    are_results (spool_of c.args.station (deck_data c.args.deck.now) c.args.initiators) c.parted-tasks.result.1.items
    c.parted-tasks.result.0.items (worked g (goal.at.returns g c).After-parted-tasks) c.close.result c.requires.some
    c.requires.spool.sound c.requires.spool.config closed.legal closed.callers c.results_of.result results.closed closed.config closed.whole
    closed.few closed.volumes results.records results.ends
