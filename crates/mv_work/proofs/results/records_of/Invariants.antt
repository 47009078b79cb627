use Rattle.std.proofs.Common.{◌≡◌, ◌≤◌, ◌++◌, length, map, vec_capacity}
use Rattle.std.specs.Vec.Iter.{into_iter_items, into_iter_len}
use Rattle.mv_work.specs.Records.{Recorded}
use Rattle.mv_work.specs.Works.{records}
use Rattle.mv_work.proofs.results.records_of.Given as goal

abbrev pub invariant-loop-work : goal.invariant-loop-work
invariant-loop-work l = record {
  yielded : l.yielded ++ into_iter_items l.work-iterator ≡ into_iter_items l.initial.work-iterator;
  count : into_iter_len l.work-iterator ≡ length (into_iter_items l.work-iterator);
  records : map (λ (r : Recorded). r.jobs) l.records.items ≡ records l.yielded;
  few : length l.records.items ≤ length l.yielded;
  room : length l.fn.works.items ≤ vec_capacity l.records;
}
