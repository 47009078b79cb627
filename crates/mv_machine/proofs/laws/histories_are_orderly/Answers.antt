-- The law is history_is_orderly of Orderly.
use Rattle.mv_machine.proofs.Orderly.{history_is_orderly}
use Rattle.mv_machine.proofs.laws.histories_are_orderly.Goals as goal

pub returns : goal.returns
returns c = record { orderly = history_is_orderly }
