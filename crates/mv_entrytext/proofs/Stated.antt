-- A text states a journal exactly if it is the text of it.
use Rattle.std.proofs.Common.{◌≡◌, ℕ, List, sym, subst}
use Rattle.mv_machine.specs.declared.entry.Entry.{Entry}
use Rattle.mv_config.specs.Setup.{Setup}
use Rattle.mv_operationtext.specs.declared.version.Version.{Version}
use Rattle.mv_entrytext.specs.Fault.{HasJournal, AreCallsIn, StatesJournal, journal_of}
use Rattle.mv_entrytext.specs.Journal.{text_of}
use Rattle.mv_entrytext.proofs.LinesAgain.{no_fault, reads_back}
use Rattle.mv_entrytext.proofs.TextsTaken.{is_read_whole}

-- the text of a journal states it
pub states : (bytes : List ℕ) (v : Version) (c : Setup) (es : List Entry) (ns : List ℕ) → HasJournal c es → AreCallsIn v es ns
    → bytes ≡ text_of v c es ns → StatesJournal bytes v c es ns
states bytes v c es ns h m e =
    let back = reads_back v c es ns h m in
    subst (λ (x : List ℕ). StatesJournal x v c es ns) (sym e)
    (record { faultless = no_fault v c es ns h m; version = back.0; setup = back.1; entries = back.2; calls = back.3 })

-- the bytes are the text of these
abbrev IsTextOfThese : List ℕ → Version → Setup → List Entry → List ℕ → Type 0
IsTextOfThese bytes v c es ns = HasJournal c es × AreCallsIn v es ns × (bytes ≡ text_of v c es ns)

-- a text that states a journal is the text of it
pub stated : (bytes : List ℕ) (v : Version) (c : Setup) (es : List Entry) (ns : List ℕ) → StatesJournal bytes v c es ns
    → HasJournal c es × AreCallsIn v es ns × (bytes ≡ text_of v c es ns)
stated bytes v c es ns s =
    let d = journal_of bytes in
    let r = is_read_whole bytes s.faultless in
    subst (λ (ms : List ℕ). IsTextOfThese bytes v c es ms) s.calls
    (subst (λ (fs : List Entry). IsTextOfThese bytes v c fs d.calls) s.entries
    (subst (λ (x : Setup). IsTextOfThese bytes v x d.entries d.calls) s.setup
    (subst (λ (w : Version). IsTextOfThese bytes w d.setup d.entries d.calls) s.version (r.journal, r.calls, r.text))))
