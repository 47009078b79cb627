-- The fault that is named is the first.
use Rattle.std.proofs.Common.{inl}
use Rattle.mv_entrytext.specs.Fault.{text_fault}
use Rattle.mv_explain.proofs.JournalFacts.{told_first}
use Rattle.mv_explain.proofs.journals.refused_text.Goals as goal

pub returns : goal.returns
returns c = inl record {
  fault = c.in_ok-fault.fault;
  first = told_first c.args.refusal (text_fault c.args.bytes.now) c.in_ok-fault.fault c.in_ok-fault.ensures c.requires.first;
  written = c.in_ok-text.ensures;
}
