-- The entries gone through are typed.
use Rattle.std.proofs.Common.{take}
use Rattle.std.specs.Prelude.{All}
use Rattle.mv_operationtext.specs.EntryText.{IsTyped}
use Rattle.mv_entrytext.proofs.typed.tell_log.Given as goal

abbrev pub invariant-loop-at : goal.invariant-loop-at
invariant-loop-at l = All IsTyped (take l.at l.log)
