-- The lines of a load, and what they state.
use Rattle.std.proofs.Common.{◌≡◌, ℕ, zero, suc, ◌+◌, ◌-◌, ◌/◌, ◌%◌, ◌<◌, ◌≤◌, Bool, true, false, ◌==◌, List, [], ◌∷◌, ◌++◌, length, None}
use Rattle.std.proofs.Common.{refl, sym, ap, subst, ◌∙◌, arith, if◌then◌else◌}
use Rattle.std.specs.Prelude.{codes, decimal, flat_map, nat_lt}
use Rattle.std.specs.List.{AllByRecursion, range_with_len}
use Rattle.std.proofs.lemmas.Grind.{flat_map-append}
use Rattle.std.proofs.lemmas.List.{append-nil}
use Rattle.mv_latch.specs.declared.request.Mode.TheVariants.{Exclusive}
use Rattle.mv_deck.specs.declared.form.Version.TheVariants.{One}
use Rattle.mv_line.specs.Byte.{has_foreign_byte}
use Rattle.mv_line.specs.Line.{lines_of, without_cr, without_last_spaces, shown, is_foreign, longest_line, is_too_long}
use Rattle.mv_deck.specs.Statement.{Statement, Null, JobOf, PrintOf, UseOf, FreeOf, CountOf, ScanOf, AbendOf, AfterPart, statements_of}
use Rattle.mv_deck.specs.Statement.{version_of}
use Rattle.mv_deck.specs.Load.{load_name, load_text, waits, scans, abends, volume_of, counted_by, job_line, job_lines, scan_lines}
use Rattle.mv_deck.specs.Load.{print_line, last_line, first_lines, four_digits}
use Rattle.mv_deck.proofs.Checked.{IsStated, is_shown}
use Rattle.mv_deck.proofs.Tidy.{is_tidy, printable, filled, keeps_cr, keeps_spaces, lines_again}
use Rattle.mv_deck.proofs.LoadText.{range_more, first_lines-more}
use Rattle.mv_deck.proofs.LoadLines.{IsDigit, digit_is, States, job_alone, job_after_other, use_states, scan_states, free_states}
use Rattle.mv_deck.proofs.LoadLines.{count_states, abend_states, print_states}

-- ---- lines and what they state

-- each line states the statement in its place
abbrev pub AllState : List (List ℕ) → List Statement → Type 0
AllState [] [] = Unit {0}
AllState (line ∷ lines) (s ∷ statements) = States line s × AllState lines statements
AllState _ _ = ⊥

all_append : (lines more : List (List ℕ)) (statements others : List Statement) → AllState lines statements → AllState more others
    → AllState (lines ++ more) (statements ++ others)
all_append [] more [] others a b = b
all_append (line ∷ lines) more (s ∷ statements) others a b = (a.0, all_append lines more statements others a.1 b)
all_append [] more (s ∷ statements) others a b = absurd a
all_append (line ∷ lines) more [] others a b = absurd a

-- ---- the statements of a job

abbrev pub parts_of_job : ℕ → List AfterPart
parts_of_job i = if waits i then record { name = load_name (i - 3); most = None } ∷ [] else []

abbrev pub job_statement : ℕ → Statement
job_statement i = JobOf (load_name i) (parts_of_job i)

abbrev pub scan_statements : ℕ → List Statement
scan_statements i = if scans i then ScanOf (decimal (volume_of i)) ∷ [] else []

abbrev pub last_statement : ℕ → Statement
last_statement i = if abends i then AbendOf (codes "U" ++ four_digits i) else FreeOf (decimal (volume_of i))

abbrev pub step_statements : ℕ → List Statement
step_statements i =
    UseOf (decimal (volume_of i)) Exclusive
    ∷ CountOf (decimal (volume_of i)) (decimal (counted_by i))
    ∷ (scan_statements i ++ PrintOf (codes "WORK " ++ decimal i) ∷ last_statement i ∷ [])

abbrev pub job_statements : ℕ → List Statement
job_statements i = job_statement i ∷ step_statements i

abbrev pub first_statements : ℕ → List Statement
first_statements n = flat_map job_statements (range_with_len 0 n)

abbrev pub load_statements : ℕ → List Statement
load_statements n = first_statements n ++ Null ∷ []

pub first_statements-more : (n : ℕ) → first_statements (suc n) ≡ first_statements n ++ job_statements n
first_statements-more n = let e : suc n ≡ n + 1 = omega arith in
    ap first_statements e ∙ ap (flat_map job_statements) (range_more n) ∙ flat_map-append job_statements (range_with_len 0 n) (n ∷ [])
    ∙ ap (λ (x : List Statement). first_statements n ++ x) (append-nil (job_statements n))

-- ---- its lines state them

job_line_states : (i : ℕ) → States (job_line i) (job_statement i)
job_line_states i = go (waits i) where
  d : (n : ℕ) → IsDigit (48 + n % 10)
  d n = digit_is (n % 10) (omega arith)

  go : (b : Bool) → States (codes "//" ++ load_name i ++ codes " JOB" ++ (if b then codes " AFTER=" ++ load_name (i - 3) else []))
      (JobOf (load_name i) (if b then record { name = load_name (i - 3); most = None } ∷ [] else []))
  go true = job_after_other _ _ _ _ _ (d (i / 10000)) (d (i / 1000)) (d (i / 100)) (d (i / 10)) (d (i / 1))
      _ _ _ _ _ (d ((i - 3) / 10000)) (d ((i - 3) / 1000)) (d ((i - 3) / 100)) (d ((i - 3) / 10)) (d ((i - 3) / 1))
  go false = job_alone _ _ _ _ _ (d (i / 10000)) (d (i / 1000)) (d (i / 100)) (d (i / 10)) (d (i / 1))

scan_lines_state : (i : ℕ) → AllState (scan_lines i) (scan_statements i)
scan_lines_state i = go (scans i) where
  go : (b : Bool) → AllState (if b then (codes "// SCAN " ++ decimal (volume_of i)) ∷ [] else [])
      (if b then ScanOf (decimal (volume_of i)) ∷ [] else [])
  go true = (scan_states (volume_of i) (omega arith), tt)
  go false = tt

last_line_states : (i : ℕ) → States (last_line i) (last_statement i)
last_line_states i = go (abends i) where
  d : (n : ℕ) → IsDigit (48 + n % 10)
  d n = digit_is (n % 10) (omega arith)

  go : (b : Bool) → States (if b then codes "// ABEND U" ++ four_digits i else codes "// FREE " ++ decimal (volume_of i))
      (if b then AbendOf (codes "U" ++ four_digits i) else FreeOf (decimal (volume_of i)))
  go true = abend_states _ _ _ _ (d (i / 1000)) (d (i / 100)) (d (i / 10)) (d (i / 1))
  go false = free_states (volume_of i) (omega arith)

job_lines_state : (i : ℕ) → i < 10000 → AllState (job_lines i) (job_statements i)
job_lines_state i lt =
    let behind = all_append (scan_lines i) (print_line i ∷ last_line i ∷ []) (scan_statements i)
    (PrintOf (codes "WORK " ++ decimal i) ∷ last_statement i ∷ []) (scan_lines_state i) (print_states i lt, (last_line_states i, tt)) in (
      job_line_states i,
      (use_states (volume_of i) (omega arith), (count_states (volume_of i) (counted_by i) (omega arith) (omega arith), behind)),
    )

first_lines_state : (n : ℕ) → n ≤ 10000 → AllState (first_lines n) (first_statements n)
first_lines_state zero le = tt
first_lines_state (suc n) le =
    let e : suc n ≡ n + 1 = omega arith in
    let lines : first_lines (suc n) ≡ first_lines n ++ job_lines n = ap first_lines e ∙ first_lines-more n in
    subst (λ (x : List (List ℕ)). AllState x (first_statements (suc n))) (sym lines)
    (subst (λ (y : List Statement). AllState (first_lines n ++ job_lines n) y) (sym (first_statements-more n))
    (all_append (first_lines n) (job_lines n) (first_statements n) (job_statements n) (first_lines_state n (omega arith))
    (job_lines_state n (omega arith))))

null_states : States (codes "//") Null
null_states = record { tidy = refl; short = omega arith; no_comment = refl; form = refl }

pub load_lines_state : (n : ℕ) → n ≤ 10000 → AllState (first_lines n ++ codes "//" ∷ []) (load_statements n)
load_lines_state n le =
    all_append (first_lines n) (codes "//" ∷ []) (first_statements n) (Null ∷ []) (first_lines_state n le) (null_states, tt)

-- ---- so the text is these lines, and states these statements

all_tidy : (lines : List (List ℕ)) (statements : List Statement) → AllState lines statements
    → AllByRecursion (λ line. is_tidy line ≡ true) lines
all_tidy [] statements a = tt
all_tidy (line ∷ lines) (s ∷ statements) a = (a.0.tidy, all_tidy lines statements a.1)
all_tidy (line ∷ lines) [] a = absurd a

pub load_lines : (n : ℕ) → n ≤ 10000 → lines_of (load_text n) ≡ first_lines n ++ codes "//" ∷ []
load_lines n le = lines_again (first_lines n ++ codes "//" ∷ []) (all_tidy _ _ (load_lines_state n le))

-- a line that states this, behind any statements
pub is_stated : (k : ℕ) (earlier : List Statement) (line : List ℕ) (s : Statement) → States line s → IsStated k One earlier line s
is_stated k earlier line s st =
    let ended : without_cr line ≡ line = keeps_cr line st.tidy in
    let counts : shown line ≡ line = ap without_last_spaces ended ∙ keeps_spaces line st.tidy in
    let foreign : is_foreign line ≡ false = ap has_foreign_byte ended ∙ printable line st.tidy in
    let long : is_too_long line ≡ false = ap (λ (x : List ℕ). nat_lt longest_line (length x)) ended ∙ no_longer (length line) st.short in
    is_shown k One earlier line line s (sym counts) foreign long (no_length (length line) (filled line st.tidy)) st.no_comment st.form
  where
    no_longer : (n : ℕ) → n ≤ longest_line → nat_lt longest_line n ≡ false
    no_longer n le = grind arith

    no_length : (n : ℕ) → 0 < n → (n == 0) ≡ false
    no_length n some = grind arith

pub all_statements : (lines : List (List ℕ)) (statements : List Statement) → AllState lines statements
    → statements_of One lines ≡ statements
all_statements [] [] a = refl
all_statements (line ∷ lines) (s ∷ statements) a =
    rw ((is_stated 1 [] line s a.0).statement) (ap (λ (x : List Statement). s ∷ x) (all_statements lines statements a.1))
all_statements [] (s ∷ statements) a = absurd a
all_statements (line ∷ lines) [] a = absurd a

pub load_version : (n : ℕ) → 1 ≤ n → version_of (first_lines n ++ codes "//" ∷ []) ≡ One
load_version zero some = absurd (omega arith)
load_version (suc n) some = refl
