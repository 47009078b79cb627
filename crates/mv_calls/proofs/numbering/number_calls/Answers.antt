-- Entry after entry is judged, and each is legal.
use Rattle.std.proofs.Common.{◌≡◌, ◌<◌, length, take, get_or, subst, sym, ap, ◌∙◌, arith}
use Rattle.std.proofs.lemmas.List.{get_or_read, take_all}
use Rattle.mv_calls.specs.Numbers.{calls}
use Rattle.mv_calls.specs.OneCall.{HasOneNumber}
use Rattle.mv_calls.proofs.call_numbers.Judged.{judged_there, legal_there, numbers_there}
use Rattle.mv_calls.proofs.call_numbers.OneCalls.{one_number}
use Rattle.mv_calls.proofs.numbering.number_calls.Goals as goal

pub unreachable-requires : goal.unreachable-requires
unreachable-requires c =
    let config = c.args.config.now in
    let entries = c.args.entries.now in
    let i = c.loop-entry.entry-index in
    let e = c.entry-item.result in
    let lt : i < length entries = omega arith in
    c.in-None.ensures (take i entries) c.loop-entry.invariant.judged
    (legal_there config entries i e lt (get_or_read entries i e lt c.entry-item.is e) c.requires.legal)

pub loop-entry-preserved : goal.loop-entry-preserved
loop-entry-preserved c =
    let config = c.args.config.now in
    let entries = c.args.entries.now in
    let i = c.loop-entry.entry-index in
    let e = c.entry-item.result in
    let lt : i < length entries = omega arith in
    let read : e ≡ get_or entries i e = get_or_read entries i e lt c.entry-item.is e in
    let next = c.in-Some.ensures (take i entries) c.loop-entry.invariant.judged in
    record {
      judged = judged_there config entries i e c.next.new.self lt read next.judged;
      numbers = numbers_there config entries c.loop-entry.numbers.items i c.in-Some.number e lt read
          c.loop-entry.invariant.numbers next.number
          ∙ sym c.in_ok-push-in-Some.ensures.items;
    }

pub returns-clause-one_number : goal.returns-clause-one_number
returns-clause-one_number c = λ k old piece call.
    let config = c.args.config.now in
    let entries = c.args.entries.now in
    let whole : take c.loop-entry.entry-index entries ≡ entries = take_all c.loop-entry.entry-index entries (omega arith) in
    let all : calls config entries ≡ c.loop-entry.numbers.items =
    ap (λ es. calls config es) (sym whole) ∙ c.loop-entry.invariant.numbers in
    subst (λ ns. HasOneNumber k entries ns old piece) all (one_number config k entries old piece call)
