use Rattle.std.proofs.Common.{◌≡◌, ◌-◌, ◌<◌, ◌≤◌, length, vec_len, vec_capacity, IfSome}
use Rattle.mv_io.specs.Source.{GivesFront}
use Rattle.mv_io.proofs.reading.fill_room.Given as goal

abbrev pub invariant-loop-filled : goal.invariant-loop-filled
invariant-loop-filled g l = record {
  within : l.filled ≤ vec_len l.bytes;
  in_room : vec_len l.bytes ≤ l.room;
  fits : l.room ≤ vec_capacity l.bytes;
  given : IfSome (g.S.Source.left l.initial.src) (λ xs. GivesFront xs (g.S.Source.left l.src) l.bytes.items l.filled);
  ended : l.filled < vec_len l.bytes → IfSome (g.S.Source.left l.initial.src) (λ xs. l.filled ≡ length xs);
  count : g.S.Source.faults l.initial.src ≤ g.S.Source.faults l.src;
}

abbrev pub decreases-loop-filled : goal.decreases-loop-filled
decreases-loop-filled g l = l.room - vec_len l.bytes
