-- What has been gone through is judged, and has its numbers.
use Rattle.std.proofs.Common.{◌≡◌, take}
use Rattle.mv_calls.specs.Judge.{HasJudged}
use Rattle.mv_calls.specs.Numbers.{calls}
use Rattle.mv_calls.proofs.calls_replaying.first_refusal.Given as goal

abbrev pub invariant-loop-index : goal.invariant-loop-index
invariant-loop-index l = record {
  judged : HasJudged l.config (take l.index l.entries) l.judge;
  numbers : take l.index l.calls ≡ calls l.config (take l.index l.entries);
}
