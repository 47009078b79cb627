use Rattle.std.proofs.Common.{◌≡◌, ◌+◌, ◌-◌, ◌≤◌, eqb, not, length, take}
use Rattle.std.specs.List.{suffix_len}
use Rattle.mv_line.proofs.line.split_cut_off.Given as goal

abbrev pub invariant-loop-end : goal.invariant-loop-end
invariant-loop-end l = (l.end ≤ length l.text) × (suffix_len (λ b. not (eqb b 10)) (take l.end l.text) + (length l.text - l.end)
    ≡ suffix_len (λ b. not (eqb b 10)) l.text)

abbrev pub decreases-loop-end : goal.decreases-loop-end
decreases-loop-end l = l.end
