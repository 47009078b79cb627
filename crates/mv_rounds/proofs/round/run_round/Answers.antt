use Rattle.std.proofs.Common.{sym, ◌∙◌, subst}
use Rattle.mv_wait.proofs.Longer.{entries_fit}
use Rattle.mv_rounds.specs.Round.{IsRound}
use Rattle.mv_rounds.proofs.OneRound.{closed_round}
use Rattle.mv_rounds.proofs.round.run_round.Goals as goal

-- the new station has the configuration on which each task can start
pub run_tasks-requires-clause-start : goal.run_tasks-requires-clause-start
run_tasks-requires-clause-start g c κs within =
    λ k room lt. c.requires.start c.in_ok-station.station k room c.in_ok-station.ensures.config lt

pub judge-requires-clause-places : goal.judge-requires-clause-places
judge-requires-clause-places g c =
    let closed = c.close-history in
    entries_fit c.in_ok-station.station.config closed.result.history.coming closed.ensures.legal closed.ensures.few

pub returns-clause-round : goal.returns-clause-round
returns-clause-round g c =
    let back = c.in_ok-tasks.ensures in
    let closed = c.close-history.ensures in
    let rooms = c.in_ok-tasks.rooms.items in
    let volumes = c.close-history.result.volumes in
    let journal = c.in_ok-history.history.journal.items in
    let same = c.in_ok-history.ensures.config ∙ closed.config ∙ c.in_ok-station.ensures.config in
    subst (λ config. IsRound g.W.Work.can_start g.W.Work.has_done config c.args.work.now rooms volumes journal) (sym same)
    (closed_round g.W.Work.can_start g.W.Work.has_done c.in_ok-station.station c.args.config c.args.work.now c.args.rooms.items rooms
    c.in_ok-tasks.tasks.items volumes c.close-history.result.history.coming journal c.in_ok-station.ensures.config
    c.in_ok-history.ensures.journal c.requires back.order back.all back.rooms back.done closed.legal closed.budgets closed.few
    closed.callers closed.volumes)
