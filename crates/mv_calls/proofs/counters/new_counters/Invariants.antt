-- As many as were counted, each new and with room.
use Rattle.std.proofs.Common.{◌≡◌, ◌≤◌, map, replicate, vec_capacity}
use Rattle.std.specs.Prelude.{All}
use Rattle.mv_calls.specs.Counters.{numbering_of}
use Rattle.mv_calls.specs.Numbers.{unnumbered}
use Rattle.mv_calls.proofs.counters.new_counters.Given as goal

abbrev pub invariant-loop : goal.invariant-loop
invariant-loop l = record {
  start : map numbering_of l.counters.items ≡ replicate l.counter unnumbered;
  room : All (λ x. l.room ≤ vec_capacity x.pending) l.counters.items;
}
