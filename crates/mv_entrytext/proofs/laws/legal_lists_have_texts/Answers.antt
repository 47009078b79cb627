-- Generations fit by the law of the machine, and all other numbers by the table of each step.
use Rattle.mv_entrytext.proofs.CallNumbers.{calls_are_numbers}
use Rattle.mv_entrytext.proofs.LegalRanges.{legal_in_range, legal_journal}
use Rattle.mv_entrytext.proofs.laws.legal_lists_have_texts.Goals as goal

pub returns-clause-in_range : goal.returns-clause-in_range
returns-clause-in_range c = legal_in_range

pub returns-clause-calls : goal.returns-clause-calls
returns-clause-calls c = calls_are_numbers

pub returns-clause-text : goal.returns-clause-text
returns-clause-text c = legal_journal
