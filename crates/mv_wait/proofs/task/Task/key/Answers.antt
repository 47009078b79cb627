use Rattle.std.proofs.Common.{◌==◌, ap, ◌∙◌}
use Rattle.std.specs.List.{list_any}
use Rattle.mv_board.specs.Faces.{CallerFace}
use Rattle.mv_machine.specs.Kept.{StandingRequest}
use Rattle.mv_calls.specs.Keeping.{kept_of}
use Rattle.mv_wait.proofs.Entries.{any_stands}
use Rattle.mv_wait.proofs.task.Task.key.Goals as goal

pub returns : goal.returns
returns c =
    c.key_of.ensures.stands
    ∙ (any_stands (λ t. t.request.id == c.args.id) (kept_of c.self.inside.caller.number c.self.inside.caller.log).requests
    c.self.inside.keep.requests.slots c.self.invariant.recorded.kept.requests
    ∙ ap (λ (d : CallerFace). list_any (λ (t : StandingRequest). t.request.id == c.args.id) (kept_of d.number d.log).requests)
    c.self.view_is)
