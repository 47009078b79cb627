use Rattle.std.proofs.Common.{◌≡◌, take}
use Rattle.mv_work.specs.Recording.{lines_of_notes}
use Rattle.mv_work.proofs.reporting.lines_of_notes.Given as goal

abbrev pub invariant-loop-note : goal.invariant-loop-note
invariant-loop-note l = l.texts.items ≡ lines_of_notes l.steps (take l.note-index l.notes)
