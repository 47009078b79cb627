-- The text of a load, job by job.
use Rattle.std.proofs.Common.{◌≡◌, ℕ, ◌+◌, List, [], ◌∷◌, ◌++◌, map, refl, sym, ap, ◌∙◌, append_assoc, arith}
use Rattle.std.specs.Prelude.{flat_map}
use Rattle.std.specs.List.{range_with_len}
use Rattle.std.proofs.lemmas.Grind.{flat_map-append}
use Rattle.std.proofs.lemmas.List.{append-nil}
use Rattle.std.proofs.lemmas.List.FromFn.{map-range_with_len_more}
use Rattle.mv_deck.specs.Load.{job_lines, first_lines, ended}

-- one more number
pub range_more : (n : ℕ) → range_with_len 0 (n + 1) ≡ range_with_len 0 n ++ n ∷ []
range_more n =
    sym (map_same (range_with_len 0 (n + 1))) ∙ map-range_with_len_more (λ x. x) 0 n n (omega arith)
    ∙ ap (λ (xs : List ℕ). xs ++ n ∷ []) (map_same (range_with_len 0 n))
  where
    map_same : (xs : List ℕ) → map (λ x. x) xs ≡ xs
    map_same [] = refl
    map_same (x ∷ xs) = ap (λ (ys : List ℕ). x ∷ ys) (map_same xs)

-- one more job
pub first_lines-more : (n : ℕ) → first_lines (n + 1) ≡ first_lines n ++ job_lines n
first_lines-more n = ap (flat_map job_lines) (range_more n) ∙ flat_map-append job_lines (range_with_len 0 n) (n ∷ [])
    ∙ ap (λ (x : List (List ℕ)). first_lines n ++ x) (append-nil (job_lines n))

-- the text of one more job
pub more_lines : (n : ℕ) → flat_map ended (first_lines n) ++ flat_map ended (job_lines n) ≡ flat_map ended (first_lines (n + 1))
more_lines n = sym (flat_map-append ended (first_lines n) (job_lines n)) ∙ ap (flat_map ended) (sym (first_lines-more n))

-- a job line by line
pub one_job : (out a b c d e : List ℕ) (scan : List (List ℕ))
    → (((((out ++ ended a) ++ ended b) ++ ended c) ++ flat_map ended scan) ++ ended d) ++ ended e
    ≡ out ++ flat_map ended (a ∷ b ∷ c ∷ (scan ++ d ∷ e ∷ []))
one_job out a b c d e scan = simp (append_assoc, flat_map-append, append-nil) refl
