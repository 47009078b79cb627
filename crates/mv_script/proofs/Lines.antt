-- What a line adds, by what of it counts.
use Rattle.std.proofs.Common.{◌≡◌, ℕ, false, List, [], ◌++◌, length, Option, Some, Result, Ok, Err, refl, sym, ap}
use Rattle.std.proofs.Common.{subst, ◌∙◌, arith, MatchResult}
use Rattle.std.specs.Prelude.{◌==◌, ◌<◌}
use Rattle.mv_calls.specs.declared.table.Table.{Table}
use Rattle.mv_line.specs.Line.{shown, is_foreign, is_too_long}
use Rattle.mv_scriptline.specs.Sizes.{SizesFace}
use Rattle.mv_line.specs.declared.fault.LineRefusal.{LineRefusal}
use Rattle.mv_line.specs.declared.fault.LineRefusal.TheVariants.{Has, NoMemory}
use Rattle.mv_scriptline.specs.declared.fault.Kind.{Kind}
use Rattle.mv_script.specs.declared.reading.Reading.{Reading}
use Rattle.mv_scriptline.specs.declared.statement.Statement.{Statement}
use Rattle.mv_scriptline.specs.declared.words.Misread.{Misread}
use Rattle.mv_scriptline.specs.declared.words.Misread.TheVariants.{NoForm, BadNumber}
use Rattle.mv_script.specs.Fault.{kinds_of, kinds_behind}
use Rattle.mv_scriptline.specs.Kind.{kind_number}
use Rattle.mv_line.specs.Fault.{TellsLowest, first_of_list}
use Rattle.mv_scriptline.specs.Misread.{misread_refusal, IsReadAs}
use Rattle.mv_script.specs.Reading.{IsBehind, IsTaken, Notes, Stands}
use Rattle.mv_script.specs.Script.{sizes_behind, with_line, added, task_count, owners_of, table_of}
use Rattle.mv_scriptline.specs.Statement.{line_states, text_states}
use Rattle.mv_scriptline.specs.Words.{Read}

is_something : (n : ℕ) → 0 < n → (n == 0) ≡ false
is_something n lt = grind arith

-- a text that is not empty
pub some_text : (n : ℕ) → (n == 0) ≡ false → 0 < n
some_text n e = grind arith

-- sizes by their numbers and the table
abbrev pub sizes : ℕ → ℕ → Option Table → SizesFace
sizes tasks ecbs table = record { tasks = tasks; ecbs = ecbs; table = table }

same_sizes : (a b c d : ℕ) (s t : Option Table) → a ≡ b → c ≡ d → s ≡ t → sizes a c s ≡ sizes b d t
same_sizes a b c d s t e f g = rw (e, f, g) refl

-- the sizes by which a line is read
pub sizes_are : (earlier : List Statement) (n : Notes) → Stands earlier n → (m : ℕ) (t : Option Table) → m ≡ length n.owners
    → t ≡ n.table → sizes n.stated m t ≡ sizes_behind earlier
sizes_are earlier n b m t e f =
    same_sizes n.stated (task_count earlier) m (length (owners_of earlier)) t (table_of earlier) b.far.stated (e ∙ ap length b.far.owners)
    (f ∙ b.far.table)

-- a line whose bytes are good, and what counts of it
module _ (earlier : List Statement) (line text : List ℕ) (same : text ≡ shown line) (printable : is_foreign line ≡ false)
    (short : is_too_long line ≡ false) where
  some_stated : 0 < length text → line_states (sizes_behind earlier) line ≡ Some (text_states (sizes_behind earlier) text)
  some_stated lt =
      rw (is_something (length (shown line)) (subst (λ (l : List ℕ). 0 < length l) same lt))
      (ap (λ (l : List ℕ). Some (text_states (sizes_behind earlier) l)) (sym same))

  its_kinds : (s : Statement) → line_states (sizes_behind earlier) line ≡ Some (Ok s) → kinds_of earlier line ≡ kinds_behind earlier s
  its_kinds s e = rw (printable, short, e) refl

  no_form : line_states (sizes_behind earlier) line ≡ Some (Err NoForm) → first_of_list (kinds_of earlier line) ≡ Some 3
  no_form e = rw (printable, short, e) refl

  bad_number : line_states (sizes_behind earlier) line ≡ Some (Err BadNumber) → first_of_list (kinds_of earlier line) ≡ Some 4
  bad_number e = rw (printable, short, e) refl

  pub line_taken : (s : Statement) → 0 < length text → text_states (sizes_behind earlier) text ≡ Ok s
      → (result : Result (Unit {0}) (LineRefusal Kind)) (r : Reading) → IsTaken result earlier s r
      → MatchResult result (λ (done : Unit {0}). (kinds_of earlier line ≡ []) × IsBehind (with_line earlier line) r)
      (λ e. TellsLowest kind_number e (kinds_of earlier line))
  line_taken s lt e (Ok done) r h =
      let is = some_stated lt ∙ ap (λ (o : Read Statement). Some o) e in (
        its_kinds s is ∙ h.0,
        subst (λ (l : List Statement). IsBehind l r) (sym (ap (λ (o : Option (Read Statement)). earlier ++ added o) is)) h.1,
      )
  line_taken s lt e (Err (Has k)) r h =
      ap first_of_list (its_kinds s (some_stated lt ∙ ap (λ (o : Read Statement). Some o) e)) ∙ h
  line_taken s lt e (Err NoMemory) r h = tt

  misread : (why : Misread) → line_states (sizes_behind earlier) line ≡ Some (Err why) → (e : LineRefusal Kind) → e ≡ misread_refusal why
      → TellsLowest kind_number e (kinds_of earlier line)
  misread NoForm is e same = subst (λ (x : LineRefusal Kind). TellsLowest kind_number x (kinds_of earlier line)) (sym same) (no_form is)
  misread BadNumber is e same =
      subst (λ (x : LineRefusal Kind). TellsLowest kind_number x (kinds_of earlier line)) (sym same) (bad_number is)

  pub line_refused : 0 < length text → (e : LineRefusal Kind) → IsReadAs {A = Statement} (Err e) (text_states (sizes_behind earlier) text)
      → TellsLowest kind_number e (kinds_of earlier line)
  line_refused lt NoMemory h = tt
  line_refused lt (Has k) h = go (text_states (sizes_behind earlier) text) refl h where
    go : (read : Read Statement) → text_states (sizes_behind earlier) text ≡ read → IsReadAs {A = Statement} (Err (Has k)) read
        → TellsLowest kind_number (Has k) (kinds_of earlier line)
    go (Ok s) is h = absurd h
    go (Err why) is h = misread why (some_stated lt ∙ ap (λ (o : Read Statement). Some o) is) (Has k) h
