use Rattle.mv_work.proofs.brought.Forgetting.{forgets_done, forgets_says, done_noted}
use Rattle.mv_work.proofs.laws.initiators_note_what_they_do.Goals as goal

pub returns : goal.returns
returns c = record { says = forgets_says; done = forgets_done; records = done_noted }
