-- The line of a note, by the step that it names.
use Rattle.std.proofs.Common.{◌≡◌, ℕ, ◌==◌, List, ◌++◌, slice_get, Some, None, sym, ap, ◌∙◌, append-nil}
use Rattle.mv_deck.specs.declared.deck.Step.{Step}
use Rattle.mv_work.specs.declared.records.Noted.{Noted}
use Rattle.mv_work.specs.declared.records.Noted.TheVariants.{Printed, Scanned}
use Rattle.mv_work.specs.Recording.{lines_of_note, lines_printed, lines_scanned}

-- a note that names no step has no line
pub no_print : (texts : List (List ℕ)) (steps : List Step) (note : Noted) (place : ℕ) → note ≡ Printed place → slice_get steps place ≡ None
    → texts ≡ texts ++ lines_of_note steps note
no_print texts steps note place e none = sym (append-nil texts)
    ∙ ap (λ slot. texts ++ lines_printed slot) (sym none) ∙ ap (λ n. texts ++ lines_of_note steps n) (sym e)

pub no_scan : (texts : List (List ℕ)) (steps : List Step) (note : Noted) (place first second : ℕ) → note ≡ Scanned place first second
    → slice_get steps place ≡ None → texts ≡ texts ++ lines_of_note steps note
no_scan texts steps note place first second e none = sym (append-nil texts)
    ∙ ap (λ slot. texts ++ lines_scanned (first == second) slot) (sym none) ∙ ap (λ n. texts ++ lines_of_note steps n) (sym e)

-- and one that names a step has that of the step
pub a_scan : (steps : List Step) (note : Noted) (place first second : ℕ) (step : Step) → note ≡ Scanned place first second
    → slice_get steps place ≡ Some step → lines_scanned (first == second) (Some step) ≡ lines_of_note steps note
a_scan steps note place first second step e some =
    ap (λ slot. lines_scanned (first == second) slot) (sym some) ∙ ap (λ n. lines_of_note steps n) (sym e)
