-- What was given and what is still to come is the merge of the logs, and each of its entries stands in one of them.
use Rattle.std.proofs.Common.{◌≡◌, ◌++◌, List, subst, sym, ap, ◌∙◌}
use Rattle.std.specs.List.{All}
use Rattle.mv_machine.specs.declared.entry.Entry.{Entry}
use Rattle.mv_machine.specs.History.{HistoryFace, StandsIn}
use Rattle.mv_machine.specs.Parts.{parts}
use Rattle.mv_machine.specs.Room.{coming_of}
use Rattle.mv_machine.proofs.InLogs.{coming_stands}
use Rattle.mv_machine.proofs.OneHistory.{logs_parts}
use Rattle.mv_machine.proofs.merging.History.logs.Goals as goal

pub returns-clause-logs : goal.returns-clause-logs
returns-clause-logs c =
    let h = c.self.inside in
    subst (λ (f : HistoryFace). parts f.config.callers (f.past ++ f.coming) ≡ c.deref.result.now) c.self.view_is
    (ap (parts h.config.callers) c.self.invariant.whole
    ∙ logs_parts h.config h.logs.items c.self.invariant.one
    ∙ sym c.deref.ensures.value)

pub returns-clause-coming : goal.returns-clause-coming
returns-clause-coming c =
    subst (λ (h : HistoryFace). All (StandsIn c.deref.result.now) h.coming) c.self.view_is
    (subst (λ (logs : List (List Entry)). All (StandsIn logs) (coming_of c.self.inside)) (sym c.deref.ensures.value)
    (coming_stands c.self.inside))
