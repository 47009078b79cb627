use Rattle.std.proofs.Common.{List, Option, drop, ap, ◌∙◌, is_some, rules}
use Rattle.std.specs.List.{list_any}
use Rattle.mv_latch.specs.declared.request.Mode.{Mode}
use Rattle.mv_deck.specs.Held.{held}
use Rattle.mv_deck.proofs.Latches.{held_from}
use Rattle.mv_deck.proofs.held.Held.is_out_of_order.Goals as goal

pub returns-in-Use : goal.returns-in-Use
returns-in-Use c = λ done e.
    rw c.in-Use.is
    (c.holds_from.ensures
    ∙ ap (λ (x : List (Option Mode)). list_any (λ (m : Option Mode). is_some m) (drop c.in-Use.latch x)) e
    ∙ held_from (held done) c.in-Use.latch (search rules))
