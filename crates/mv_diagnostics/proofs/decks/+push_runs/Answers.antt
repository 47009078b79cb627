-- One number of initiators, and the others.
use Rattle.std.proofs.Common.{List, ap, ◌∙◌, arith}
use Rattle.std.proofs.lemmas.Result.{on_ok_weaker}
use Rattle.mv_deck.specs.Deck.{JobData}
use Rattle.mv_deck.specs.Weight.{weight}
use Rattle.mv_diagnostics.proofs.Initiators.{runs_more}
use Rattle.mv_diagnostics.proofs.decks.+push_runs.Goals as goal

pub returns : goal.returns
returns t c =
    on_ok_weaker c.push_runs.result
    (runs_more c.args.bytes.now c.args.out.now.items c.push_run.new.out.items c.push_runs.new.out.items c.args.from c.weight_of.result
    c.in_ok-fault.fault (omega arith) (c.weight_of.ensures ∙ ap (λ (jobs : List JobData). weight jobs c.args.from) c.requires.deck)
    c.in_ok-fault.ensures c.in_ok-push_run.ensures) c.push_runs.ensures
