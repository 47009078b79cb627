-- The number so far, and the digits behind it.
use Rattle.std.proofs.Common.{◌≡◌, ◌≤◌, true, drop}
use Rattle.std.specs.List.{list_all}
use Rattle.mv_line.specs.Byte.{is_digit}
use Rattle.mv_line.specs.Number.{value_behind}
use Rattle.mv_line.proofs.number.wide_number_within.Given as goal

abbrev pub invariant-loop-byte : goal.invariant-loop-byte
invariant-loop-byte l = record {
  so_far : value_behind l.value (drop l.byte-index l.text) ≡ value_behind 0 l.text;
  low : l.value ≤ l.high;
  digits : list_all is_digit l.text ≡ true;
}
