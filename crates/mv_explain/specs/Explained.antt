-- What is said of an input: by what it is taken for, the explanation of a deck, a script or a journal.
use Rattle.std.specs.Prelude.{◌≡◌, ℕ, List, ◌++◌}
use Rattle.mv_explain.specs.declared.sentences.TheConstants.{NOTHING, OTHER}
use Rattle.mv_explain.specs.declared.subject.Subject.{Subject}
use Rattle.mv_explain.specs.declared.subject.Subject.TheVariants.{Nothing, Deck, Script, Journal, Other}
use Rattle.mv_diagnostics.specs.Deck.{deck_text}
use Rattle.mv_explain.specs.Journal.{IsJournalExplained}
use Rattle.mv_diagnostics.specs.Script.{script_text}
use Rattle.mv_explain.specs.Subject.{subject_of}

-- the text explains the bytes as one of these
abbrev pub IsExplainedAs : Subject → (bytes text : List ℕ) → Type 0
IsExplainedAs Nothing bytes text = text ≡ NOTHING.now
IsExplainedAs Deck bytes text = text ≡ deck_text bytes
IsExplainedAs Other bytes text = text ≡ OTHER.now ++ deck_text bytes
IsExplainedAs Script bytes text = text ≡ script_text bytes
IsExplainedAs Journal bytes text = IsJournalExplained bytes text

-- the text explains the bytes as what they are taken for
abbrev pub IsExplained : (bytes text : List ℕ) → Type 0
IsExplained bytes text = IsExplainedAs (subject_of bytes) bytes text
