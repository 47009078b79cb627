-- Entry after entry is judged.
use Rattle.std.proofs.Common.{◌≡◌, ◌<◌, ◌≤◌, length, take, get_or, arith}
use Rattle.std.proofs.lemmas.List.{get_or_read, length-take-le}
use Rattle.mv_calls.proofs.call_numbers.Judged.{judged_there}
use Rattle.mv_calls.proofs.call_numbers.Refused.{number_there, other_there, unfit_there, refused_by_front}
use Rattle.mv_calls.proofs.calls_replaying.first_refusal.Goals as goal

pub next-requires-clause-judged : goal.next-requires-clause-judged
next-requires-clause-judged c =
    let entries = c.args.entries.now in
    let i = c.loop-index.index in
    let le : i ≤ length entries = omega arith in
    (take i entries, c.loop-index.invariant.judged, omega (arith, c.requires.few, length-take-le i entries le))

pub loop-index-preserved : goal.loop-index-preserved
loop-index-preserved c =
    let config = c.args.config.now in
    let entries = c.args.entries.now in
    let kept = c.args.calls.now in
    let i = c.loop-index.index in
    let e = c.index-entries-index.result in
    let lt : i < length entries = omega arith in
    let read : e ≡ get_or entries i e = get_or_read entries i e lt c.index-entries-index.is e in
    let next = c.in-Some.ensures (take i entries) c.loop-index.invariant.judged in
    record {
      judged = judged_there config entries i e c.next.new.self lt read next.judged;
      numbers = number_there config entries kept i c.in-Some.machine e lt c.requires.numbers read c.loop-index.invariant.numbers next.number
          c.if-machine-calls.false;
    }

pub returns-then-machine-calls : goal.returns-then-machine-calls
returns-then-machine-calls c =
    let config = c.args.config.now in
    let entries = c.args.entries.now in
    let i = c.loop-index.index in
    let e = c.index-entries-index.result in
    let lt : i < length entries = omega arith in
    let read : e ≡ get_or entries i e = get_or_read entries i e lt c.index-entries-index.is e in
    other_there config entries c.args.calls.now i c.in-Some.machine e c.next.new.self lt c.requires.numbers read
    c.loop-index.invariant.numbers (c.in-Some.ensures (take i entries) c.loop-index.invariant.judged) c.if-machine-calls.true

pub refuse-requires-clause-illegal : goal.refuse-requires-clause-illegal
refuse-requires-clause-illegal c =
    let entries = c.args.entries.now in
    let i = c.loop-index.index in
    let e = c.index-entries-index.result in
    let lt : i < length entries = omega arith in
    unfit_there c.args.config.now entries i e lt (get_or_read entries i e lt c.index-entries-index.is e)
    (c.in-None.ensures (take i entries) c.loop-index.invariant.judged)

pub returns-in-None : goal.returns-in-None
returns-in-None c =
    refused_by_front c.args.config.now c.args.entries.now c.args.calls.now c.loop-index.index c.refuse.result (omega arith)
    c.loop-index.invariant.numbers c.refuse.ensures
