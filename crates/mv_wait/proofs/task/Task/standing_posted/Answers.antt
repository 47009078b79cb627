use Rattle.std.proofs.Common.{length, filter, ap, ◌∙◌}
use Rattle.mv_board.specs.Faces.{CallerFace}
use Rattle.mv_machine.specs.Kept.{is_posting}
use Rattle.mv_calls.specs.Keeping.{kept_of}
use Rattle.mv_wait.proofs.task.Task.standing_posted.Goals as goal

pub returns : goal.returns
returns c = c.posting_count.ensures
    ∙ (c.self.invariant.recorded.kept.requests is_posting
    ∙ ap (λ (d : CallerFace). length (filter is_posting (kept_of d.number d.log).requests)) c.self.view_is)
