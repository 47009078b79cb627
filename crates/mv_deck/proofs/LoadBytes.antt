-- How long the text of a load is.
use Rattle.std.proofs.Common.{◌≡◌, ℕ, zero, suc, ◌+◌, ◌-◌, ◌*◌, ◌<◌, ◌≤◌, Bool, true, false, List, [], ◌∷◌, ◌++◌, length, refl, ap, ◌∙◌}
use Rattle.std.proofs.Common.{arith, length-append, if◌then◌else◌}
use Rattle.std.specs.Prelude.{codes, decimal, flat_map}
use Rattle.std.proofs.lemmas.Fmt.{decimal_digit, length-decimal-le}
use Rattle.std.proofs.lemmas.Grind.{flat_map-append}
use Rattle.mv_deck.specs.Load.{load_name, four_digits, waits, scans, abends, volume_of, counted_by, job_line, count_line, scan_lines}
use Rattle.mv_deck.specs.Load.{print_line, last_line, job_lines, first_lines, ended, load_text}
use Rattle.mv_deck.proofs.LoadText.{first_lines-more}

scan_bytes : (i : ℕ) → length (flat_map ended (scan_lines i)) ≤ 10
scan_bytes i = go (scans i) where
  go : (b : Bool) → length (flat_map ended (if b then (codes "// SCAN " ++ decimal (volume_of i)) ∷ [] else [])) ≤ 10
  go true = rw (decimal_digit (volume_of i) (omega arith)) (omega arith)
  go false = omega arith

last_bytes : (i : ℕ) → length (last_line i) ≤ 14
last_bytes i = go (abends i) where
  go : (b : Bool) → length (if b then codes "// ABEND U" ++ four_digits i else codes "// FREE " ++ decimal (volume_of i)) ≤ 14
  go true = omega arith
  go false = rw (decimal_digit (volume_of i) (omega arith)) (omega arith)

job_bytes : (i : ℕ) → length (job_line i) ≤ 25
job_bytes i = go (waits i) where
  go : (b : Bool) → length (codes "//" ++ load_name i ++ codes " JOB" ++ (if b then codes " AFTER=" ++ load_name (i - 3) else [])) ≤ 25
  go true = omega arith
  go false = omega arith

-- the lines of a job, one by one
length-lines : (a b c d e : List ℕ) (scan : List (List ℕ)) → length (flat_map ended (a ∷ b ∷ c ∷ (scan ++ d ∷ e ∷ [])))
    ≡ (length a + 1) + ((length b + 1) + ((length c + 1) + (length (flat_map ended scan) + ((length d + 1) + ((length e + 1) + 0)))))
length-lines a b c d e scan = simp (length-append, flat_map-append) refl

lines_bytes : (i : ℕ) → i < 10000 → length (flat_map ended (job_lines i)) ≤ 94
lines_bytes i lt =
    let use_line : List ℕ = codes "// USE " ++ decimal (volume_of i) ++ codes " X" in
    let all = length-lines (job_line i) use_line (count_line i) (print_line i) (last_line i) (scan_lines i) in
    let used : length use_line ≡ 10 = rw (decimal_digit (volume_of i) (omega arith)) refl in
    let counted : length (count_line i) ≡ 12 =
    rw (decimal_digit (volume_of i) (omega arith), decimal_digit (counted_by i) (omega arith)) refl in
    let printed : length (print_line i) ≤ 18 = omega (arith, length-decimal-le 4 i (omega arith) lt (omega arith)) in
    omega (arith, all, job_bytes i, used, counted, scan_bytes i, printed, last_bytes i)

first_bytes : (n : ℕ) → n ≤ 10000 → length (flat_map ended (first_lines n)) ≤ 94 * n
first_bytes zero le = omega arith
first_bytes (suc n) le =
    let e : suc n ≡ n + 1 = omega arith in
    let more : flat_map ended (first_lines (suc n)) ≡ flat_map ended (first_lines n) ++ flat_map ended (job_lines n) =
    ap (λ (m : ℕ). flat_map ended (first_lines m)) e ∙ ap (flat_map ended) (first_lines-more n)
    ∙ flat_map-append ended (first_lines n) (job_lines n) in
    let both : length (flat_map ended (first_lines (suc n)))
    ≡ length (flat_map ended (first_lines n)) + length (flat_map ended (job_lines n)) =
    ap length more ∙ length-append (flat_map ended (first_lines n)) (flat_map ended (job_lines n)) in
    omega (arith, both, first_bytes n (omega arith), lines_bytes n (omega arith))

pub load_bytes : (n : ℕ) → n ≤ 2000 → length (load_text n) < 200000
load_bytes n le =
    let both : length (load_text n) ≡ length (flat_map ended (first_lines n)) + 3 =
    ap length (flat_map-append ended (first_lines n) (codes "//" ∷ []))
    ∙ length-append (flat_map ended (first_lines n)) (flat_map ended (codes "//" ∷ [])) in
    omega (arith, both, first_bytes n (omega arith))
