-- The reader is one entry further with each that is kept.
use Rattle.std.proofs.Common.{ℕ, List, [], ◌∷◌, ◌++◌, Option, None, sym, subst, arith}
use Rattle.mv_machine.specs.declared.entry.Entry.{Entry}
use Rattle.mv_entrytext.specs.Reader.{IsReadTo, IsNextOf}
use Rattle.mv_entrytext.proofs.reading.read_journal.Goals as goal

pub entries-init : goal.entries-init
entries-init c =
    let o = c.in_ok-version.field-0 in
    record {
      read = rw (c.new-entries.ensures.items, c.new-calls.ensures.items) c.in_ok-version.ensures;
      first = omega (arith, c.line-first_line.ensures o.version c.args.bytes.now o.config [] [] c.in_ok-version.ensures);
    }

pub entries-preserved : goal.entries-preserved
entries-preserved c =
    let v = c.in_ok-version.field-0.version in
    let bytes = c.args.bytes.now in
    let config = c.entries.config in
    let es = c.entries.entries.items in
    let ns = c.entries.calls.items in
    let e = c.in-Ok-Some.entry in
    let new = c.next.new.self in
    let next =
    subst (λ (o : Option (Option ℕ × Entry)). IsNextOf v bytes config es ns o new) c.in-Ok-Some.field-0-is
    (c.in-Ok-Some.ensures.read v bytes config es ns c.entries.invariant.read) in
    let with_number =
    subst (λ (x : List ℕ). IsReadTo v bytes config (es ++ e ∷ []) x new) (sym c.in_ok-push_call-in-Ok-Some.ensures) next.read in
    record {
      read = subst (λ (x : List Entry). IsReadTo v bytes config x c.push_call.new.calls.items new)
          (sym c.in_ok-push-in-Ok-Some.ensures.items) with_number;
      first = c.entries.invariant.first;
    }

-- nothing came: the entries that are kept are all, and the text is theirs
ended : (c : goal.After-number)
    → IsNextOf c.in_ok-version.field-0.version c.args.bytes.now c.entries.config c.entries.entries.items c.entries.calls.items None
    c.next.new.self
ended c = rw c.in-Ok-None.field-0-is at (c.in-Ok-None.ensures.read _ _ _ _ _ c.entries.invariant.read)

pub returns-in-Ok-None-clause-journal : goal.returns-in-Ok-None-clause-journal
returns-in-Ok-None-clause-journal c = (ended c).journal

pub returns-in-Ok-None-clause-text : goal.returns-in-Ok-None-clause-text
returns-in-Ok-None-clause-text c = rw c.number.ensures (ended c).text
