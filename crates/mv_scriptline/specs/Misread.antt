-- The result of reading words that may not be a value.
use Rattle.std.specs.Prelude.{◌≡◌, Result, Ok, Err}
use Rattle.mv_line.specs.declared.fault.LineRefusal.{LineRefusal}
use Rattle.mv_line.specs.declared.fault.LineRefusal.TheVariants.{Has, NoMemory}
use Rattle.mv_scriptline.specs.declared.fault.Kind.{Kind}
use Rattle.mv_scriptline.specs.declared.fault.Kind.TheVariants as kind
use Rattle.mv_scriptline.specs.declared.words.Misread.{Misread}
use Rattle.mv_scriptline.specs.declared.words.Misread.TheVariants.{NoForm, BadNumber}
use Rattle.mv_scriptline.specs.Words.{Read}

-- the refusal of a line for the reason why its words could not be read
abbrev pub misread_refusal : Misread → LineRefusal Kind
misread_refusal NoForm = Has kind.NoForm
misread_refusal BadNumber = Has kind.BadNumber

-- a result is what was read: the value, or the refusal for the reason why there is none; or memory ran out, which says nothing of
-- the words
abbrev pub IsReadAs : {A : Type 0} → Result A (LineRefusal Kind) → Read A → Type 0
IsReadAs (Ok a) read = read ≡ Ok a
IsReadAs (Err NoMemory) read = Unit {0}
IsReadAs (Err refusal) (Ok a) = ⊥
IsReadAs (Err refusal) (Err why) = refusal ≡ misread_refusal why
