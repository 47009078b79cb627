-- The budgets, one behind the other.
use Rattle.mv_plan.proofs.Words.{◌≡◌, length, map, ap, ◌∙◌, arith, length-map, job_data}
use Rattle.std.proofs.Common.{vec_len}
use Rattle.mv_deck.specs.Deck.{deck_data}
use Rattle.mv_deck.specs.Weight.{all_events, after_parts}
use Rattle.mv_plan.proofs.code.{budgets_all}
use Rattle.mv_plan.proofs.spool_setup.budgets_of.Goals as goal

pub returns : goal.returns
returns c =
    let jobs : length (deck_data c.args.deck.now) ≡ length c.args.deck.now.jobs.items = length-map c.args.deck.now.jobs.items job_data in
    budgets_all (deck_data c.args.deck.now) c.len-jobs.result c.args.initiators c.after_parts-parts.result c.all_events-events.result
    c.writer.result (vec_len c.push-2.new.self) c.in_ok-budgets.budgets.items c.push.new.self.items c.push-2.new.self.items
    c.resize.new.self.items c.push-3.new.self.items c.in_ok-budgets.ensures.items c.in_ok-push.ensures.items c.in_ok-push-2.ensures.items
    c.in_ok-resize.ensures.items c.in_ok-push-3.ensures.items (omega arith) c.writer.ensures (omega (arith, jobs))
    (c.after_parts-parts.ensures ∙ ap (λ js. after_parts (map job_data js)) c.deref-2.ensures.value)
    (c.all_events-events.ensures ∙ ap (λ js. all_events (map job_data js)) c.deref.ensures.value)
