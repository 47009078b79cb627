use Rattle.std.proofs.Common.{◌≡◌, ◌++◌, List, ℕ}
use Rattle.std.specs.Option.{option_map}
use Rattle.mv_line.specs.Part.{parts_at, parts_left, left_of}
use Rattle.mv_entrytext.specs.Lines.{numbers}
use Rattle.mv_entrytext.proofs.line.read_numbers.Given as goal

abbrev pub invariant-loop-left : goal.invariant-loop-left
invariant-loop-left l =
    option_map (λ (ms : List ℕ). l.found.items ++ ms) (numbers l.strict (parts_left 32 l.left)) ≡ numbers l.strict (parts_at 32 l.text)

abbrev pub decreases-loop-left : goal.decreases-loop-left
decreases-loop-left l = left_of l.left
