use Rattle.std.proofs.Common.{◌≡◌, length}
use Rattle.std.specs.Prelude.{vec_capacity}
use Rattle.mv_polled.proofs.waiting.put_slots.Given as goal

abbrev pub invariant-loop-i : goal.invariant-loop-i
invariant-loop-i l = record { size : length l.slots.items ≡ l._i; room : vec_capacity l.slots ≡ vec_capacity l.fn.slots }
