-- The legal history before an event: the event was the machine's next one after it.
use Rattle.std.specs.Prelude.{◌≡◌, ℕ, List, [], ◌∷◌, ◌++◌}
use Rattle.mv_latch.specs.declared.operation.Wake.{Wake}
use Rattle.mv_machine.specs.declared.entry.Entry.{Entry}
use Rattle.mv_machine.specs.declared.entry.Object.{Object}
use Rattle.mv_machine.specs.declared.entry.Op.{Op}
use Rattle.mv_machine.specs.Legal.{IsNext, Legal, after, of}
use Rattle.mv_machine.specs.Parts.{KeepsBudgets}
use Rattle.mv_config.specs.Setup.{Setup}
use Rattle.mv_machine.specs.Told.{told, told_at}

-- after this legal list the entry is the machine's next one, and makes this operation on this object
pub record IsEvent (c : Setup) (before : List Entry) (e : Entry) (o : Object) (op : Op) : Type 0 where
  pub legal : Legal c before
  pub follows : IsNext c (after c before) e
  pub object : e.object ≡ o
  pub operation : e.op ≡ op

-- The entry was the caller's, and the machine's next one after a legal history of which the log is the caller's part. The
-- caller was shown these wakes in that history and by the entry.
pub record IsBehind (c : Setup) (k : ℕ) (log : List Entry) (e : Entry) (shown : List (List Wake)) : Type 0 where
  pub before : List Entry
  pub legal : Legal c before
  pub budgets : KeepsBudgets c (before ++ e ∷ [])
  pub logged : of k before ≡ log
  pub caller : e.caller ≡ k
  pub follows : IsNext c (after c before) e
  pub told : told c k before ++ told_at (after c before) k e.caller e.object e.op ≡ shown
