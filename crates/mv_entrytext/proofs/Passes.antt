-- The one pass over the lines.
use Rattle.std.proofs.Common.{◌≡◌, ℕ, ◌+◌, Bool, true, false, eqb, ◌&&◌, List, [], ◌∷◌, length, Option, Some}
use Rattle.std.proofs.Common.{None, refl, sym, subst, arith}
use Rattle.std.proofs.lemmas.Bool.{eq-eqb, ne_eqb}
use Rattle.std.proofs.lemmas.List.{length-append}
use Rattle.mv_machine.specs.declared.entry.Entry.{Entry}
use Rattle.mv_config.specs.Setup.{Setup}
use Rattle.mv_line.specs.declared.fault.LineRefusal.{LineRefusal}
use Rattle.mv_line.specs.declared.fault.LineRefusal.TheVariants.{Has, NoMemory}
use Rattle.mv_line.specs.declared.line.Lines.{Lines}
use Rattle.mv_line.specs.Fault.{TellsLowest, IsPassed, refusal_at, fault_at}
use Rattle.mv_line.specs.Line.{lines_of, ended_lines, cut_off}
use Rattle.mv_line.proofs.Passes.{told_at, cut_at_end, whole_at_end}
use Rattle.mv_entrytext.specs.declared.fault.Kind.{Kind}
use Rattle.mv_entrytext.specs.declared.fault.Kind.TheVariants.{NoForm, WrongCount, Cut}
use Rattle.mv_operationtext.specs.declared.version.Version.{Version}
use Rattle.mv_entrytext.specs.Journal.{Line, JournalOf, Callers, Elements, Volumes, Latches, Quota, Budget, Owner, ExitTo, Events}
use Rattle.mv_entrytext.specs.Journal.{EntryOf, End}
use Rattle.mv_entrytext.specs.Lines.{Stage, AtVersion, AtCallers, AtElements, AtVolumes, AtLatches, AtQuota, AtBudgets, AtOwners}
use Rattle.mv_entrytext.specs.Lines.{AtExits, AtEntries, AtEnd, count_line, next_line, line_read, Draft, blank, draft_with}
use Rattle.mv_entrytext.specs.Fault.{TellsFirst, kind_number, kind_of_form, kind_said, kind_of, is_ended, listed, line_rules, text_fault}
use Rattle.mv_entrytext.specs.Fault.{journal_of}
use Rattle.mv_entrytext.specs.Draft.{draft_at, line_behind, IsAt}
use Rattle.mv_entrytext.proofs.LinesTaken.{MayCome, line_taken}
use Rattle.mv_entrytext.proofs.TextsTaken.{IsTextOf, is_read_whole}
use Rattle.mv_entrytext.proofs.LinesAgain.{said_passed}

-- ---- a line is passed

-- the lines of the lists, and the entries, are counted
one_line_more : (s : Stage) (v : Version) (c : Setup) (es : List Entry) (ns : List ℕ) (l : Line) → MayCome s l
    → line_behind (draft_with l (draft_at s v c es ns)) ≡ line_behind (draft_at s v c es ns) + 1
one_line_more AtVersion v c es ns (JournalOf w) m = omega arith
one_line_more AtCallers v c es ns (Callers n) m = omega arith
one_line_more AtElements v c es ns (Elements n) m = omega arith
one_line_more AtVolumes v c es ns (Volumes n) m = omega arith
one_line_more AtLatches v c es ns (Latches n) m = omega arith
one_line_more AtQuota v c es ns (Quota q p) m = omega arith
one_line_more AtBudgets v c es ns (Budget n) m = omega (arith, length-append c.budgets (n ∷ []))
one_line_more AtBudgets v c es ns (Owner n) m = omega (arith, length-append c.owners (n ∷ []))
one_line_more AtBudgets v c es ns (ExitTo x) m = omega (arith, length-append c.exits (x ∷ []))
one_line_more AtBudgets v c es ns Events m = omega arith
one_line_more AtOwners v c es ns (Owner n) m = omega (arith, length-append c.owners (n ∷ []))
one_line_more AtOwners v c es ns (ExitTo x) m = omega (arith, length-append c.exits (x ∷ []))
one_line_more AtOwners v c es ns Events m = omega arith
one_line_more AtExits v c es ns (ExitTo x) m = omega (arith, length-append c.exits (x ∷ []))
one_line_more AtExits v c es ns Events m = omega arith
one_line_more (AtEntries w) v c es ns (EntryOf call e) m = omega (arith, length-append es (e ∷ []))
one_line_more (AtEntries w) v c es ns (End n) m = omega arith
one_line_more s v c es ns l m = absurd m

-- the next line is this one
module _ {bytes text : List ℕ} {number : ℕ} {lines behind : Lines} {d : Draft} (at : IsAt bytes lines d)
    (passed : IsPassed lines number text behind) where
  pub next_at : (l : Line) → line_read true d.stage text ≡ Some l → kind_said d (Some l) ≡ None → IsAt bytes behind (draft_with l d)
  next_at l read said =
      let m : line_behind (draft_with l d) ≡ line_behind d + 1 =
      one_line_more d.stage d.version d.setup d.entries d.calls l (line_taken d.stage text l read).1 in
      record {
        passed = rw passed.next
            (said_passed (cut_off bytes) (ended_lines bytes) lines.number d l text _ (lines_of behind.left.now) at.passed passed.first read
            said);
        line = omega (arith, at.line, passed.next, m);
      }

  -- ---- a fault

  pub at_kind : (e : LineRefusal Kind) → TellsLowest kind_number e (listed (kind_of d text))
      → TellsFirst (refusal_at kind_number number e) (text_fault bytes)
  unfolding text_fault
  at_kind e told =
      rw passed.here
      (told_at (line_rules (cut_off bytes)) blank (ended_lines bytes) lines.number d _ at.passed kind_number text
      (lines_of behind.left.now) e passed.first told)

  -- where the form alone is at fault, the kind of the line is its
  form_tells : (form : Option Kind) (e : LineRefusal Kind) → kind_of_form d.stage text ≡ form
      → TellsLowest kind_number e (listed form) → TellsLowest kind_number e (listed (kind_of d text))
  form_tells (Some k) (Has j) is told = rw is told
  form_tells None (Has j) is told = absurd cc
  form_tells form NoMemory is told = tt

  pub at_form : (e : LineRefusal Kind) → TellsLowest kind_number e (listed (kind_of_form d.stage text))
      → TellsFirst (refusal_at kind_number number e) (text_fault bytes)
  at_form e told = at_kind e (form_tells (kind_of_form d.stage text) e refl told)

  -- what a line says is at fault
  said_tells : (l : Line) → line_read true d.stage text ≡ Some l → kind_of d text ≡ kind_said d (Some l)
  said_tells l read = rw read refl

  pub at_said : (l : Line) → line_read true d.stage text ≡ Some l
      → (e : LineRefusal Kind) → TellsLowest kind_number e (listed (kind_said d (Some l)))
      → TellsFirst (refusal_at kind_number number e) (text_fault bytes)
  at_said l read e told = at_kind e (subst (λ (k : Option Kind). TellsLowest kind_number e (listed k)) (sym (said_tells l read)) told)

-- no line is left, and the text is not whole
pub at_cut : {bytes : List ℕ} {lines : Lines} {d : Draft} → IsAt bytes lines d → lines_of lines.left.now ≡ []
    → is_ended d.stage && eqb (length (cut_off bytes)) 0 ≡ false → text_fault bytes ≡ Some (fault_at lines.number (kind_number Cut))
unfolding text_fault
at_cut {bytes = bytes} {lines = lines} {d = d} at none cut =
    cut_at_end (line_rules (cut_off bytes)) blank (ended_lines bytes) lines.number d _ at.passed kind_number Cut none (rw cut refl)

-- ---- behind END

nothing_comes : (strict : Bool) (text : List ℕ) → line_read strict AtEnd text ≡ None
unfolding next_line count_line
nothing_comes strict text = refl

module _ {bytes : List ℕ} {lines : Lines} {v : Version} {c : Setup} {es : List Entry} {ns : List ℕ}
    (at : IsAt bytes lines (draft_at AtEnd v c es ns)) where
  -- nothing has a form, whatever was said
  no_form_at_end : (text : List ℕ) → kind_of (draft_at AtEnd v c es ns) text ≡ Some NoForm
  no_form_at_end text = rw (nothing_comes true text, nothing_comes false text) refl

  -- so a line there is at fault
  pub at_line_behind : {text : List ℕ} {number : ℕ} {behind : Lines} → IsPassed lines number text behind
      → text_fault bytes ≡ Some (fault_at number (kind_number NoForm))
  at_line_behind {text = text} passed = at_kind at passed (Has NoForm) (rw (no_form_at_end text) refl)

  -- all was read
  pub at_over : lines_of lines.left.now ≡ [] → length (cut_off bytes) ≡ 0 → IsTextOf bytes (draft_at AtEnd v c es ns)
  unfolding text_fault journal_of
  at_over none uncut =
      let w = whole_at_end (line_rules (cut_off bytes)) blank (ended_lines bytes) lines.number (draft_at AtEnd v c es ns) _ at.passed none
      (rw (eq-eqb (length (cut_off bytes)) 0 uncut) refl) in
      subst (λ (d : Draft). IsTextOf bytes d) (sym w.1) (is_read_whole bytes w.0)

-- ---- END

module _ {bytes text : List ℕ} {number n : ℕ} {lines behind : Lines} {v : Version} {c : Setup} {es : List Entry} {ns : List ℕ}
    (at : IsAt bytes lines (draft_at (AtEntries v) v c es ns)) (passed : IsPassed lines number text behind)
    (read : line_read true (AtEntries v) text ≡ Some (End n)) where
  -- END with another count than that of the entries
  pub at_wrong_count : (length es ≡ n → ⊥) → text_fault bytes ≡ Some (fault_at number (kind_number WrongCount))
  at_wrong_count other = at_said at passed (End n) read (Has WrongCount) (rw (ne_eqb (length es) n other) refl)

  -- END with their count: the reader stands behind it
  pub at_end : length es ≡ n → IsAt bytes behind (draft_at AtEnd v c es ns)
  at_end same = next_at at passed (End n) read (rw (eq-eqb (length es) n same) refl)
