use Rattle.std.proofs.Common.{◌≤◌, ◌∙◌, sym, subst}
use Rattle.std.specs.List.{All}
use Rattle.mv_machine.specs.declared.entry.Entry.{Entry}
use Rattle.mv_machine.proofs.Longer.{entries_fit}
use Rattle.mv_task.proofs.tests.waits.judge.Goals as goal

pub replay-requires : goal.replay-requires
replay-requires g c = record {
  places = subst (All (λ (e : Entry). e.place ≤ 524286)) (sym (c.deref.ensures.value ∙ c.in-Ok.ensures.journal))
      (entries_fit _ _ c.close-history.ensures.legal c.close-history.ensures.few);
}
