-- Each job is counted once: as ended, as abended, or as not run.
use Rattle.std.proofs.Common.{◌≡◌, ℕ, ◌+◌, cond, List, [], ◌∷◌, length, count_by, refl, arith}
use Rattle.std.proofs.lemmas.List.Sums.{sum_by-cons}
use Rattle.mv_report.specs.EndCode.{is_ended, is_abended, is_not_run}

pub counts_add_up : (ends : List ℕ) → count_by is_ended ends + count_by is_abended ends + count_by is_not_run ends ≡ length ends
counts_add_up [] = refl
counts_add_up (end ∷ ends) =
    let more = counts_add_up ends in
    rw (
      sum_by-cons (λ e. cond (is_ended e) 1 0) end ends,
      sum_by-cons (λ e. cond (is_abended e) 1 0) end ends,
      sum_by-cons (λ e. cond (is_not_run e) 1 0) end ends,
    ) (grind arith)
