-- The last event on the object, and those before it.
use Rattle.std.proofs.Common.{◌∙◌, sym, arith}
use Rattle.std.proofs.lemmas.Result.{on_ok_weaker}
use Rattle.mv_explain.proofs.Earlier.{earlier_more}
use Rattle.mv_explain.proofs.before.+push_earlier.Goals as goal

pub returns-in_ok-push_earlier-in-Some : goal.returns-in_ok-push_earlier-in-Some
returns-in_ok-push_earlier-in-Some t c =
    on_ok_weaker c.push_event_at.result
    (earlier_more c.args.first c.args.entries.now c.args.object c.args.below c.args.shown c.in-Some.at c.args.out.now.items
    c.push_earlier.new.out.items c.push_event_at.new.out.items (omega arith) (sym c.last_below.ensures.place ∙ c.in-Some.is)
    c.in_ok-push_earlier-in-Some.ensures) c.push_event_at.ensures
