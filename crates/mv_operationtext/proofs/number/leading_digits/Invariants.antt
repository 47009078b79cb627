-- The digits so far, and what they show.
use Rattle.std.proofs.Common.{◌≡◌, ◌+◌, ◌-◌, ◌≤◌, ◌<◌, ◌^◌, drop, take}
use Rattle.std.specs.List.{prefix_len}
use Rattle.mv_line.specs.Byte.{is_digit}
use Rattle.mv_line.specs.Number.{value_behind}
use Rattle.mv_operationtext.proofs.number.leading_digits.Given as goal

abbrev pub invariant-loop-count : goal.invariant-loop-count
invariant-loop-count l = record {
  within : l.count ≤ l.most;
  digits : l.count + prefix_len is_digit (drop l.count l.text) ≡ prefix_len is_digit l.text;
  value : l.value ≡ value_behind 0 (take l.count l.text);
  small : l.value < 10 ^ l.count;
}

abbrev pub decreases-loop-count : goal.decreases-loop-count
decreases-loop-count l = l.most - l.count
