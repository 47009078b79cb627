-- What has no fault is the text of what it is read as, and what is written has none.
use Rattle.std.proofs.Common.{ap, ◌∙◌}
use Rattle.mv_entrytext.specs.Fault.{text_fault, journal_of}
use Rattle.mv_entrytext.proofs.LinesAgain.{no_fault}
use Rattle.mv_entrytext.proofs.TextsTaken.{is_read_whole}
use Rattle.mv_entrytext.proofs.laws.texts_without_fault_are_journals.Goals as goal

pub returns : goal.returns
returns c = λ bytes. (
  λ e.
      let r = is_read_whole bytes e in
      let d = journal_of bytes in
      (d.version, d.setup, d.entries, d.calls, r.journal, r.calls, r.text),
  λ h. ap text_fault h.6 ∙ no_fault h.0 h.1 h.2 h.3 h.4 h.5,
)
