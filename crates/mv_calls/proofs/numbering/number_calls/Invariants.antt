-- The entries gone through are judged, and have these numbers.
use Rattle.std.proofs.Common.{◌≡◌, take}
use Rattle.mv_calls.specs.Judge.{HasJudged}
use Rattle.mv_calls.specs.Numbers.{calls}
use Rattle.mv_calls.proofs.numbering.number_calls.Given as goal

abbrev pub invariant-loop-entry : goal.invariant-loop-entry
invariant-loop-entry l = record {
  judged : HasJudged l.config (take l.entry-index l.entries) l.judge;
  numbers : calls l.config (take l.entry-index l.entries) ≡ l.numbers.items;
}
