-- The compact entry that is read is that of the entry at this position.
use Rattle.std.proofs.Common.{length, refl, ◌∙◌}
use Rattle.std.proofs.lemmas.Option.{slice_get-map, slice_get_read, slice_get_past}
use Rattle.mv_machine.proofs.log.Log.subject.Goals as goal

pub returns-clause-subject : goal.returns-clause-subject
returns-clause-subject c =
    let xs = c.deref.result.now in
    let read = slice_get_read xs (length xs) c.args.at c.in_ok-compact.compact.now refl c.in_ok-compact.ensures.lookup.3.0
    c.in_ok-compact.ensures.lookup.1 in
    rw (← c.self.view_is, ← c.deref.ensures.value, slice_get-map, read) refl

pub returns-in_err-compact-clause-subject : goal.returns-in_err-compact-clause-subject
returns-in_err-compact-clause-subject c =
    let none = slice_get_past c.deref.result.now c.args.at c.in_err-compact.ensures.lookup.3 in
    c.from_residual.ensures ∙ rw (← c.self.view_is, ← c.deref.ensures.value, slice_get-map, none) refl
