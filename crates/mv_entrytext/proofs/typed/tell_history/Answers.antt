-- Log after log is told, and what is still to come stands in them.
use Rattle.std.proofs.Common.{◌<◌, List, length, subst, arith}
use Rattle.std.proofs.lemmas.List.{get_or_read, take_all}
use Rattle.std.proofs.lemmas.List.Elements.{All-contains, All-more, All-weaker}
use Rattle.std.specs.Prelude.{All}
use Rattle.mv_machine.specs.declared.entry.Entry.{Entry}
use Rattle.mv_machine.specs.History.{StandsIn}
use Rattle.mv_operationtext.specs.EntryText.{IsTyped}
use Rattle.mv_entrytext.proofs.typed.tell_history.Goals as goal

-- each entry of a log is typed
abbrev AreTyped : List Entry → Type 0
AreTyped log = All IsTyped log

pub loop-log-preserved : goal.loop-log-preserved
loop-log-preserved c =
    let logs = c.logs-logs.result.now in
    let i = c.loop-log.log-index in
    let log = c.log-item.result in
    let lt : i < length logs = omega (arith, c.loop-log-test.true) in
    All-more AreTyped logs i log lt c.loop-log.invariant
    (subst AreTyped (get_or_read logs i log lt c.log-item.is log) c.tell_log.ensures)

pub returns : goal.returns
returns c =
    let logs = c.logs-logs.result.now in
    let all : All AreTyped logs =
    subst (λ (xs : List (List Entry)). All AreTyped xs)
    (take_all c.loop-log.log-index logs (omega (arith, c.loop-log-test.false))) c.loop-log.invariant in
    All-weaker (StandsIn logs) IsTyped
    (λ e s. All-contains IsTyped s.0 e (All-contains AreTyped logs s.0 all s.1) s.2) c.args.history.now.coming c.logs-logs.ensures.coming
