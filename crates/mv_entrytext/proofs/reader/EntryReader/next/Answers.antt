use Rattle.mv_entrytext.proofs.ReadOn.{entry_next}
use Rattle.mv_entrytext.proofs.reader.EntryReader.next.Goals as goal

pub returns-in-Some-clause-read : goal.returns-in-Some-clause-read
returns-in-Some-clause-read c = λ v bytes setup es ns h. entry_next h c.in-Some.ensures.0 (rw (← h.version) c.in-Some.ensures.1)
