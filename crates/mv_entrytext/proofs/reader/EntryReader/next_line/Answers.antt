-- Where the reader stands decides: what the next line says, or that it is cut off, or what stands behind END.
use Rattle.std.proofs.Common.{◌≡◌, eqb, false, length, refl, sym, ◌∙◌, arith}
use Rattle.std.specs.Prelude.{List, ℕ}
use Rattle.std.proofs.lemmas.Grind.{common_steps}
use Rattle.mv_line.specs.declared.fault.LineRefusal.TheVariants.{Has}
use Rattle.mv_machine.specs.declared.entry.Entry.{Entry}
use Rattle.mv_config.specs.Setup.{Setup}
use Rattle.mv_operationtext.specs.declared.version.Version.{Version}
use Rattle.mv_entrytext.specs.Draft.{IsAt, draft_at}
use Rattle.mv_entrytext.specs.Lines.{AtEnd}
use Rattle.mv_entrytext.specs.Reader.{IsReadTo}
use Rattle.mv_entrytext.proofs.Passes.{at_form, at_cut, at_wrong_count, at_end, at_line_behind, at_over}
use Rattle.mv_entrytext.proofs.ReadOn.{read_in, entry_next}
use Rattle.mv_entrytext.proofs.reader.EntryReader.next_line.Goals.{After-next-in-Ok-End}
use Rattle.mv_entrytext.proofs.reader.EntryReader.next_line.Goals as goal

pub returns-in_default-clause-read : goal.returns-in_default-clause-read
returns-in_default-clause-read c = λ v bytes setup es ns h.
    rw (c.at.ensures, c.in_default.ensures.0) (at_cut h.stands c.in_default.ensures.1 refl)

pub returns-then-count-self-clause-read : goal.returns-then-count-self-clause-read
returns-then-count-self-clause-read c = λ v bytes setup es ns h.
    let read = read_in v bytes setup es ns _ _ _ _ h c.in-Ok-End.ensures c.in-Ok-End.field-0-is in
    rw c.at-then-count-self.ensures
    (at_wrong_count h.stands c.in-Some.ensures read (λ e. c.if-count-self.true (sym e ∙ sym h.count)))

pub returns-in-Ok-Entry-clause-read : goal.returns-in-Ok-Entry-clause-read
returns-in-Ok-Entry-clause-read c = λ v bytes setup es ns h.
    entry_next h c.in-Some.ensures (read_in v bytes setup es ns _ _ _ _ h c.in-Ok-Entry.ensures c.in-Ok-Entry.field-0-is)

-- END has come: it stands behind the last line
over : (c : After-next-in-Ok-End) (v : Version) (bytes : List ℕ) (setup : Setup) (es : List Entry) (ns : List ℕ)
    → IsReadTo v bytes setup es ns c.args.self.now → IsAt bytes c.next.new.self (draft_at AtEnd v setup es ns)
over c v bytes setup es ns h =
    at_end h.stands c.in-Some.ensures (read_in v bytes setup es ns _ _ _ _ h c.in-Ok-End.ensures c.in-Ok-End.field-0-is)
    (sym h.count ∙ sym c.if-count-self.false)

pub returns-in-Some-next-clause-read : goal.returns-in-Some-next-clause-read
returns-in-Some-next-clause-read c = λ v bytes setup es ns h.
    rw c.at-in-Some-next.ensures
    (at_line_behind (over (goal.at.returns-in-Some-next-clause-read c).After-next-in-Ok-End v bytes setup es ns h) c.in-Some-next.ensures)

pub returns-then-not-is_empty-clause-read : goal.returns-then-not-is_empty-clause-read
returns-then-not-is_empty-clause-read c = λ v bytes setup es ns h.
    let some : eqb (length c.args.self.now.cut.now) 0 ≡ false = sym c.if-not-is_empty.ensures in
    rw (c.at-then-not-is_empty.ensures, c.in_default-next.ensures.0)
    (at_cut (over (goal.at.returns-then-not-is_empty-clause-read c).After-next-in-Ok-End v bytes setup es ns h) c.in_default-next.ensures.1
    (rw h.cut at some))

pub returns-else-not-is_empty-clause-read : goal.returns-else-not-is_empty-clause-read
returns-else-not-is_empty-clause-read c = λ v bytes setup es ns h.
    let uncut : length c.args.self.now.cut.now ≡ 0 = grind (arith, common_steps) in
    let whole =
    at_over (over (goal.at.returns-else-not-is_empty-clause-read c).After-next-in-Ok-End v bytes setup es ns h) c.in_default-next.ensures.1
    (rw h.cut at uncut) in
    record {
      read = h;
      journal = whole.journal;
      text = record { version = v; number = refl; calls = whole.calls; text = whole.text };
    }

pub returns-in-Err-clause-read : goal.returns-in-Err-clause-read
returns-in-Err-clause-read c = λ v bytes setup es ns h.
    rw c.at-in-Err.ensures (at_form h.stands c.in-Some.ensures (Has c.in-Err.kind) (rw (rw h.version at c.in-Err.ensures) refl))
