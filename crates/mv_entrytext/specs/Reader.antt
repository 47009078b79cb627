-- What a reader of entries has read of a text.
use Rattle.std.specs.Prelude.{◌≡◌, ℕ, List, [], ◌∷◌, ◌++◌, length, Option, Some, None}
use Rattle.mv_machine.specs.declared.entry.Entry.{Entry}
use Rattle.mv_config.specs.Setup.{Setup}
use Rattle.mv_line.specs.Line.{cut_off}
use Rattle.mv_entrytext.specs.declared.reader.EntryReader.{EntryReader}
use Rattle.mv_operationtext.specs.declared.version.Version.{Version}
use Rattle.mv_operationtext.specs.EntryText.{HasText}
use Rattle.mv_operationtext.specs.Version.{number_of}
use Rattle.mv_entrytext.specs.Lines.{AtEntries, with_call}
use Rattle.mv_entrytext.specs.Fault.{HasJournal, AreCallsIn, IsTextIn}
use Rattle.mv_entrytext.specs.Draft.{IsAt, draft_at}

-- how many bytes the reader has not read
abbrev pub left_in : EntryReader → ℕ
left_in r = length r.lines.left.now

-- Of a text of this version, the reader has read the head, which has this configuration, and the lines of these entries, with
-- these call numbers. It is at the next line, so the rest of the text decides as the whole text does.
pub record IsReadTo (v : Version) (bytes : List ℕ) (c : Setup) (es : List Entry) (ns : List ℕ) (r : EntryReader) : Type 0 where
  pub version : r.version ≡ v
  pub cut : r.cut.now ≡ cut_off bytes
  pub stands : IsAt bytes r.lines (draft_at (AtEntries v) v c es ns)
  pub count : r.count ≡ length es
  pub calls : AreCallsIn v es ns

-- one more entry was read after these
pub record IsReadNext (v : Version) (bytes : List ℕ) (c : Setup) (es : List Entry) (ns : List ℕ) (call : Option ℕ) (e : Entry)
    (r : EntryReader) : Type 0 where
  pub read : IsReadTo v bytes c (es ++ e ∷ []) (with_call call ns) r
  pub ranges : HasText e

-- these entries are all, and the text is theirs
pub record IsReadWhole (v : Version) (bytes : List ℕ) (c : Setup) (es : List Entry) (ns : List ℕ) (r : EntryReader) : Type 0 where
  pub read : IsReadTo v bytes c es ns r
  pub journal : HasJournal c es
  pub text : IsTextIn (number_of v) bytes c es ns

-- the result of the next read: one more entry, or the end
abbrev pub IsNextOf : Version → List ℕ → Setup → List Entry → List ℕ → Option (Option ℕ × Entry) → EntryReader → Type 0
IsNextOf v bytes c es ns (Some x) r = IsReadNext v bytes c es ns x.0 x.1 r
IsNextOf v bytes c es ns None r = IsReadWhole v bytes c es ns r
