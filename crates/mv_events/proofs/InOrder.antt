-- A call on a table that was served is answered as the law on tables says.
use Rattle.std.proofs.Common.{◌≡◌, ℕ, Result, subst}
use Rattle.mv_config.specs.Setup.{Setup}
use Rattle.mv_board.specs.Faces.{CallerFace}
use Rattle.mv_calls.specs.declared.table.Table.{Table}
use Rattle.mv_calls.specs.Events.{Entering, Finding, post_event, next_event}
use Rattle.mv_calls.specs.Refusal.{Refusal}
use Rattle.mv_calls.specs.Table.{IsSoundTable}
use Rattle.mv_wait.specs.Run.{IsServed}
use Rattle.mv_eventlaws.specs.Discipline.{Posts, Takes}
use Rattle.mv_eventlaws.specs.Order.{IsAnsweredInOrder}
use Rattle.mv_eventlaws.proofs.MadeCalls.{post_answered, next_answered}

module _ (most : ℕ) (c : Setup) (t : Table) (sound : IsSoundTable c t) (f g : CallerFace) where
  pub post_in_order : (index code : ℕ) (r : Result Entering Refusal) → IsServed most (post_event c t index code) (λ a. a ≡ r) f g
      → IsAnsweredInOrder c t f.number g.log (Posts index code r)
  post_in_order index code r s = subst (λ (z : Result Entering Refusal). IsAnsweredInOrder c t f.number g.log (Posts index code z)) s.is
      (post_answered c t f.number most f.log g.log f.told g.told sound index code s.answer s.made)

  pub next_in_order : (position : ℕ) (r : Result Finding Refusal) → IsServed most (next_event c t position) (λ a. a ≡ r) f g
      → IsAnsweredInOrder c t f.number g.log (Takes position r)
  next_in_order position r s = subst (λ (z : Result Finding Refusal). IsAnsweredInOrder c t f.number g.log (Takes position z)) s.is
      (next_answered c t f.number most f.log g.log f.told g.told sound position s.answer s.made)
