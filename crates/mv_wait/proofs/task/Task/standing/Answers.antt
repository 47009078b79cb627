use Rattle.std.proofs.Common.{◌≡◌, length, ap, subst, arith}
use Rattle.mv_board.specs.Faces.{CallerFace}
use Rattle.mv_machine.specs.Kept.{standing}
use Rattle.mv_calls.specs.Keeping.{kept_of}
use Rattle.mv_wait.proofs.Entries.{how_many}
use Rattle.mv_wait.proofs.task.Task.standing.Goals as goal

pub returns-clause-count : goal.returns-clause-count
returns-clause-count c =
    let few = c.self.invariant.recorded.few in
    let n = c.len.ensures in
    let held = how_many (kept_of c.self.inside.caller.number c.self.inside.caller.log).requests c.self.inside.keep.requests.slots
    c.self.invariant.recorded.kept.requests in
    let face = ap (λ (d : CallerFace). length (kept_of d.number d.log).requests) c.self.view_is in
    omega arith

pub returns-clause-kept : goal.returns-clause-kept
returns-clause-kept c =
    subst (λ (d : CallerFace). (kept_of d.number d.log).requests ≡ standing d.log) c.self.view_is c.self.invariant.recorded.stands
