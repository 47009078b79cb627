-- The compact entry that is read is that of the entry at this position.
use Rattle.std.proofs.Common.{length, refl, ◌∙◌}
use Rattle.std.proofs.lemmas.Option.{slice_get-map, slice_get_read, slice_get_past}
use Rattle.mv_machine.proofs.log.entry_at.Goals as goal

pub returns : goal.returns
returns c =
    let xs = c.args.compact.now in
    let read = slice_get_read xs (length xs) c.args.at c.in_ok-found.found.now refl c.in_ok-found.ensures.lookup.3.0
    c.in_ok-found.ensures.lookup.1 in
    rw (slice_get-map, read, c.entry.ensures) refl

pub returns-in_err-found : goal.returns-in_err-found
returns-in_err-found c =
    let none = slice_get_past c.args.compact.now c.args.at c.in_err-found.ensures.lookup.3 in
    c.from_residual.ensures ∙ rw (slice_get-map, none) refl
