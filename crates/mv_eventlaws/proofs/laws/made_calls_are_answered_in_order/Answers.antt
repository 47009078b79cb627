-- Its clauses are lemmas of MadeCalls.
use Rattle.mv_eventlaws.proofs.MadeCalls.{post_answered, next_answered}
use Rattle.mv_eventlaws.proofs.laws.made_calls_are_answered_in_order.Goals as goal

pub returns : goal.returns
returns c = record {
  post = λ s t k most index code old new before since answer sound made.
      post_answered s t k most old new before since sound index code answer made;
  next = λ s t k most position old new before since answer sound made.
      next_answered s t k most old new before since sound position answer made;
}
