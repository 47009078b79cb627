use Rattle.std.proofs.Common.{◌≡◌, ℕ, ◌+◌, ◌<◌, length, map, get_or, ap, ◌∙◌, arith}
use Rattle.mv_wait.specs.Prelude.{Setup}
use Rattle.mv_wait.proofs.Longer.{entries_fit}
use Rattle.mv_server.specs.Pool.{workers, days_in}
use Rattle.mv_server.specs.Right.{IsWorkersPost}
use Rattle.mv_server.proofs.Closing.{closed_answers}
use Rattle.mv_server.proofs.server.serve_all.Goals.{After-close-closed}
use Rattle.mv_server.proofs.server.serve_all.Goals as goal

-- what the server found are the answers, and workers posted them
found : (g : _) (c : After-close-closed g) → (c.in-Some.answers.items ≡ map days_in c.args.requests.now)
    × ((r : ℕ) → r < length c.args.requests.now
    → IsWorkersPost c.close-closed.result.history.coming (workers + r) (get_or c.in-Some.answers.items r 0))
found g c =
    let b = c.in_ok-station.station in
    let back = c.in_ok-tasks.ensures in
    let rooms = c.in_ok-rooms.ensures.count in
    let count = back.rooms in
    let config = c.in_ok-station.ensures.config ∙ c.in_ok-config.ensures in
    let callers : b.config.callers ≡ workers + 1 = ap (λ (s : Setup). s.callers) config in
    closed_answers b c.args.requests.now c.close-closed.result.history.coming c.in_ok-tasks.tasks.items c.in_ok-tasks.rooms.items
    c.pop.new.self.items c.in-Some.answers config c.close-closed.ensures.legal back.order (back.all ∙ callers)
    c.close-closed.ensures.callers c.in-Some.ensures.items (count ∙ rooms) (λ k s t lt. back.done k s t (omega arith))

pub returns-clause-answers : goal.returns-clause-answers
returns-clause-answers g c = (found g (goal.at.returns-clause-answers g c).After-close-closed).0

pub returns-clause-posted : goal.returns-clause-posted
returns-clause-posted g c = (found g (goal.at.returns-clause-posted g c).After-close-closed).1

pub returns-clause-places : goal.returns-clause-places
returns-clause-places g c =
    entries_fit c.in_ok-station.station.config c.close-closed.result.history.coming c.close-closed.ensures.legal c.close-closed.ensures.few
