-- The entries of the logs gone through are typed.
use Rattle.std.proofs.Common.{List, take}
use Rattle.std.specs.Prelude.{All}
use Rattle.mv_machine.specs.declared.entry.Entry.{Entry}
use Rattle.mv_operationtext.specs.EntryText.{IsTyped}
use Rattle.mv_entrytext.proofs.typed.tell_history.Given as goal

abbrev pub invariant-loop-log : goal.invariant-loop-log
invariant-loop-log l = All (λ (log : List Entry). All IsTyped log) (take l.log-index l.logs)
