use Rattle.std.proofs.Common.{◌≤◌, sym, ◌∙◌, subst}
use Rattle.std.specs.Prelude.{All}
use Rattle.mv_wait.specs.Prelude.{highest_place}
use Rattle.mv_rounds.proofs.judgement.judge.Goals as goal

pub replay-requires : goal.replay-requires
replay-requires c = record {
  places = subst (All (λ e. e.place ≤ highest_place)) (sym (c.deref.ensures.value ∙ c.in_ok-listed.ensures.journal)) c.requires.places;
}
