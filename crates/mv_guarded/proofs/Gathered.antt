-- What a function gives of each entry of a log, or of a history, with entries more. For programs.
use Rattle.std.proofs.Common.{◌≡◌, ℕ, List, [], ◌∷◌, ◌++◌, Option, None, refl, ap, ◌∙◌}
use Rattle.std.proofs.lemmas.List.Elements.{filter_map-append}
use Rattle.std.specs.List.{AllByRecursion, cons_option, filter_map}
use Rattle.mv_machine.specs.declared.entry.Entry.{Entry}
use Rattle.mv_machine.specs.declared.entry.Object.{Object}
use Rattle.mv_machine.specs.declared.entry.Op.{Op}

-- a number, or none
abbrev pub numbers : Option ℕ → List ℕ
numbers a = cons_option a []

-- one entry more
pub gathered_more : (f : Entry → Option ℕ) (es : List Entry) (e : Entry) (a : Option ℕ) → f e ≡ a
    → filter_map f (es ++ e ∷ []) ≡ filter_map f es ++ numbers a
gathered_more f es e a is = filter_map-append f es (e ∷ []) ∙ ap (λ y. filter_map f es ++ numbers y) is

-- entries more, of which it gives nothing
nothing_from : (f : Entry → Option ℕ) (P : Object → Op → Type 0) → ((e : Entry) → P e.object e.op → f e ≡ None) → (es : List Entry)
    → AllByRecursion (λ e. P e.object e.op) es → filter_map f es ≡ []
nothing_from f P none [] each = refl
nothing_from f P none (e ∷ es) each = λ i. cons_option (none e each.0 i) (nothing_from f P none es each.1 i)

pub nothing_gathered : (f : Entry → Option ℕ) (P : Object → Op → Type 0) → ((e : Entry) → P e.object e.op → f e ≡ None)
    → (log es : List Entry) → AllByRecursion (λ e. P e.object e.op) es → filter_map f (log ++ es) ≡ filter_map f log ++ []
nothing_gathered f P none log es each =
    filter_map-append f log es ∙ ap (λ xs. filter_map f log ++ xs) (nothing_from f P none es each)
