-- The reader of entries, line by line.
use Rattle.std.proofs.Common.{◌≡◌, ℕ, ◌+◌, true, List, [], ◌∷◌, ◌++◌, Option, Some, refl, arith}
use Rattle.std.proofs.lemmas.List.{length-append}
use Rattle.mv_line.specs.declared.line.Lines.{Lines}
use Rattle.mv_line.specs.Fault.{IsPassed}
use Rattle.mv_machine.specs.declared.entry.Entry.{Entry}
use Rattle.mv_config.specs.Setup.{Setup}
use Rattle.mv_entrytext.specs.declared.reader.EntryReader.{EntryReader}
use Rattle.mv_entrytext.specs.declared.line.EntryLine.{EntryLine}
use Rattle.mv_operationtext.specs.declared.version.Version.{Version}
use Rattle.mv_entrytext.specs.Journal.{EntryOf}
use Rattle.mv_entrytext.specs.Lines.{AtEntries, line_read, with_call}
use Rattle.mv_entrytext.specs.Reader.{IsReadTo, IsReadNext}
use Rattle.mv_entrytext.specs.Said.{entry_said}
use Rattle.mv_entrytext.proofs.CallNumbers.{number_more, each_from_calls, calls_from_each}
use Rattle.mv_entrytext.proofs.LinesTaken.{line_taken}
use Rattle.mv_entrytext.proofs.Passes.{next_at}

-- a line that was read in the version of the reader was read in that of the text
pub read_in : (v : Version) (bytes : List ℕ) (c : Setup) (es : List Entry) (ns text : List ℕ) (r : EntryReader) (l m : EntryLine)
    → IsReadTo v bytes c es ns r → line_read true (AtEntries r.version) text ≡ Some (entry_said l) → l ≡ m
    → line_read true (AtEntries v) text ≡ Some (entry_said m)
read_in v bytes c es ns text r l m h read is = rw (← is, ← h.version) read

-- behind a line that says an entry the reader is one entry further: the entry has a text, and its number stands behind those before it
pub entry_next : {v : Version} {bytes : List ℕ} {c : Setup} {es : List Entry} {ns text : List ℕ} {r : EntryReader} {call : Option ℕ}
    {e : Entry} {number : ℕ} {behind : Lines} → IsReadTo v bytes c es ns r → IsPassed r.lines number text behind
    → line_read true (AtEntries v) text ≡ Some (EntryOf call e)
    → IsReadNext v bytes c es ns call e (record r { lines = behind; count = r.count + 1 })
entry_next {v = v} {es = es} {ns = ns} {text = text} {call = call} {e = e} h passed read =
    let may = (line_taken (AtEntries v) text (EntryOf call e) read).1 in
    record {
      read = record {
        version = h.version;
        cut = h.cut;
        stands = next_at h.stands passed (EntryOf call e) read refl;
        count = omega (arith, h.count, length-append es (e ∷ []));
        calls = calls_from_each v (es ++ e ∷ []) (with_call call ns) (number_more v es ns call e (each_from_calls v es ns h.calls) may.1);
      };
      ranges = may.0;
    }
