-- The one pass over the lines.
use Rattle.std.proofs.Common.{◌≡◌, ℕ, List, [], ◌∷◌, ◌++◌, Option, Some, None, sym, ap, ◌∙◌, append_assoc}
use Rattle.std.proofs.lemmas.List.{append-nil}
use Rattle.std.specs.Prelude.{fold, option_to_list}
use Rattle.std.specs.List.{cons_option}
use Rattle.mv_deck.specs.declared.form.Version.{Version}
use Rattle.mv_line.specs.Line.{lines_of}
use Rattle.mv_deck.specs.Statement.{Statement, statement_of, statements_of, version_of}
use Rattle.mv_deck.specs.Fault.{line_rules}

-- the version of a text
abbrev pub version_in : List ℕ → Version
version_in bytes = version_of (lines_of bytes)

pub earlier_more : (earlier : List Statement) (o : Option Statement) (later : List Statement)
    → earlier ++ cons_option o later ≡ (earlier ++ option_to_list o) ++ later
earlier_more earlier None later = ap (λ (x : List Statement). x ++ later) (sym (append-nil earlier))
earlier_more earlier (Some s) later = sym (append_assoc earlier (s ∷ []) later)

-- what is said behind lines is what they state
pub all_said : (n : ℕ) (v : Version) (earlier : List Statement) (lines : List (List ℕ))
    → fold (line_rules n v).with_line earlier lines ≡ earlier ++ statements_of v lines
all_said n v earlier [] = sym (append-nil earlier)
all_said n v earlier (line ∷ lines) =
    all_said n v (earlier ++ option_to_list (statement_of v line)) lines
    ∙ sym (earlier_more earlier (statement_of v line) (statements_of v lines))
