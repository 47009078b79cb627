use Rattle.std.proofs.Common.{refl, subst}
use Rattle.mv_deck.specs.Deck.{deck_data}
use Rattle.mv_work.specs.Works.{IsNew}
use Rattle.mv_polledspool.proofs.polled.Polled.new.Goals as goal

pub returns-clause-new : goal.returns-clause-new
returns-clause-new c = record {
  state = refl;
  work = subst (λ k. IsNew (deck_data c.args.deck.now) c.args.initiators k c.in_ok-work.work) c.number.ensures.number c.in_ok-work.ensures;
  room = c.in_ok-meeting.ensures;
}
