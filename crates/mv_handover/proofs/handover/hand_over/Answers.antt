use Rattle.std.proofs.Common.{◌≡◌, ap, ◌∙◌, arith}
use Rattle.mv_wait.specs.Prelude.{Setup}
use Rattle.mv_wait.proofs.Longer.{entries_fit}
use Rattle.mv_handover.proofs.Order.{Back, both_back, closed_in_order, closed_posted, closed_taken}
use Rattle.mv_handover.proofs.handover.hand_over.Goals.{After-close-closed}
use Rattle.mv_handover.proofs.handover.hand_over.Goals as goal

-- what the two tasks say came back
back : (g : _) (c : After-close-closed g)
    → Back c.in_ok-station.station c.close-closed.result.history.coming c.args.items.now c.in-Some.taken.items
back g c =
    let b = c.in_ok-station.station in
    let back = c.in_ok-tasks.ensures in
    let count = back.rooms in
    let rooms = c.in_ok-rooms.ensures.two in
    let callers : b.config.callers ≡ 2 = ap (λ (s : Setup). s.callers) (c.in_ok-station.ensures.config ∙ c.in_ok-config.ensures) in
    both_back b c.close-closed.result.history.coming c.args.items.now c.in_ok-tasks.tasks.items c.in_ok-tasks.rooms.items
    c.pop.new.self.items c.in-Some.taken back.order (back.all ∙ callers) c.close-closed.ensures.callers c.in-Some.ensures.items
    (count ∙ rooms) (λ k s t lt. back.done k s t (omega arith))

pub returns-clause-taken : goal.returns-clause-taken
returns-clause-taken g c =
    closed_in_order (back g (goal.at.returns-clause-taken g c).After-close-closed) c.close-closed.ensures.legal

pub returns-clause-put : goal.returns-clause-put
returns-clause-put g c s lt =
    closed_posted (back g (goal.at.returns-clause-put g c).After-close-closed) c.close-closed.ensures.legal s lt

pub returns-clause-took : goal.returns-clause-took
returns-clause-took g c s lt =
    closed_taken (back g (goal.at.returns-clause-took g c).After-close-closed) c.close-closed.ensures.legal s lt

pub returns-clause-places : goal.returns-clause-places
returns-clause-places g c =
    entries_fit c.in_ok-station.station.config c.close-closed.result.history.coming c.close-closed.ensures.legal c.close-closed.ensures.few
