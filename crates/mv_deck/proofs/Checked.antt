-- What the reader asks of a JOB and of a line, in the words of its faults.
use Rattle.std.proofs.Common.{◌≡◌, ℕ, ◌<◌, ◌≤◌, Bool, true, false, not, ◌||◌, List, [], ◌∷◌, ◌++◌, length, map, Option, Some, Result}
use Rattle.std.proofs.Common.{is_none, ◌==◌, option_map, MatchResult, refl, sym, ap, subst, ◌∙◌, arith}
use Rattle.std.specs.Prelude.{option_to_list, nat_lt}
use Rattle.std.specs.List.{list_any}
use Rattle.std.proofs.Math.Bool.{or-true}
use Rattle.std.proofs.lemmas.List.{length-map}
use Rattle.mv_deck.specs.declared.fault.Kind.{Kind}
use Rattle.mv_deck.specs.declared.form.Part.{Part}
use Rattle.mv_deck.specs.declared.form.Version.{Version}
use Rattle.mv_deck.specs.declared.names.Names.{Names}
use Rattle.mv_deck.specs.declared.reading.Reading.{Reading}
use Rattle.mv_line.specs.declared.fault.LineRefusal.{LineRefusal}
use Rattle.mv_line.specs.Fault.{TellsLowest}
use Rattle.mv_line.specs.Line.{shown, is_ignored, is_foreign, is_too_long}
use Rattle.mv_deck.specs.Line.{is_comment}
use Rattle.mv_deck.specs.Operand.{is_name}
use Rattle.mv_deck.specs.Statement.{Statement, JobOf, AfterPart, form_of, statement_of}
use Rattle.mv_deck.specs.Form.{part_data, bytes_behind}
use Rattle.mv_deck.specs.Deck.{JobData, place_of}
use Rattle.mv_deck.specs.Fault.{has_bad_name, has_bad_number, awaits_no_job, accepts_no_code, is_crowded, has_double, kinds_of}
use Rattle.mv_deck.specs.Fault.{kind_number, kinds_of_statement}
use Rattle.mv_deck.specs.Names.{place_in}
use Rattle.mv_deck.specs.Reading.{IsBehind}
use Rattle.mv_deck.proofs.Mapped.{any-map}

-- tests that agree on each element agree on a list
any_same : {A : Type 0} (p q : A → Bool) → ((x : A) → p x ≡ q x) → (xs : List A) → list_any p xs ≡ list_any q xs
any_same p q e [] = refl
any_same p q e (x ∷ xs) = ap (λ (b : Bool). b || list_any p xs) (e x) ∙ ap (λ (b : Bool). q x || b) (any_same p q e xs)

module _ (name : List ℕ) (parts : List Part) where
  -- a JOB with this name and these parts
  abbrev pub job : Statement
  job = JobOf name (map part_data parts)

  -- its names, as they are read
  names_are : has_bad_name job ≡ (not (is_name name) || list_any (λ (p : Part). not (is_name p.name.now)) parts)
  names_are = ap (λ (b : Bool). not (is_name name) || b) (any-map (λ (p : AfterPart). not (is_name p.name)) part_data parts)

  -- a bad name of its own
  pub named_badly : is_name name ≡ false → has_bad_name job ≡ true
  named_badly e = rw e refl

  -- a bad name in its list
  pub awaits_badly : list_any (λ (p : Part). not (is_name p.name.now)) parts ≡ true → has_bad_name job ≡ true
  awaits_badly e = names_are ∙ rw e (or-true (not (is_name name)))

  -- good names alone
  pub named_well : is_name name ≡ true → list_any (λ (p : Part). not (is_name p.name.now)) parts ≡ false → has_bad_name job ≡ false
  named_well e f = names_are ∙ rw (e, f) refl

  -- its accepted codes, as they are read
  pub codes_are : has_bad_number job ≡ list_any (λ (p : Part). accepts_no_code (option_map bytes_behind p.most)) parts
  codes_are = any-map (λ (p : AfterPart). accepts_no_code p.most) part_data parts

  -- the names of no earlier job, by the places that names were given
  pub unknown_are : (jobs : List JobData) (names : Names) → ((q : List ℕ) → place_in names q ≡ place_of jobs q)
      → awaits_no_job jobs job ≡ list_any (λ (p : Part). is_none (place_in names p.name.now)) parts
  unknown_are jobs names same =
      any-map (λ (p : AfterPart). is_none (place_of jobs p.name)) part_data parts
      ∙ any_same (λ (p : Part). is_none (place_of jobs p.name.now)) (λ (p : Part). is_none (place_in names p.name.now))
      (λ p. ap is_none (sym (same p.name.now))) parts

  -- more than eight names
  pub too_many : 8 < length parts → is_crowded job ≡ true
  too_many lt = let more : nat_lt 8 (length (map part_data parts)) ≡ true = rw (length-map parts part_data) (grind arith) in
      rw more (or-true (has_double (map part_data parts)))

  -- a name twice
  pub doubled : has_double (map part_data parts) ≡ true → is_crowded job ≡ true
  doubled e = rw e refl

  -- at most eight names, none twice
  pub few : length parts ≤ 8 → has_double (map part_data parts) ≡ false → is_crowded job ≡ false
  few le e = let no_more : nat_lt 8 (length (map part_data parts)) ≡ false = rw (length-map parts part_data) (grind arith) in
      rw (e, no_more) refl

-- ---- a line that has a form

pub record IsStated (n : ℕ) (v : Version) (earlier : List Statement) (line : List ℕ) (s : Statement) : Type 0 where
  pub kinds : kinds_of n v earlier line ≡ kinds_of_statement n earlier (Some s)
  pub statement : statement_of v line ≡ Some s

-- a line that passes what is asked of it by itself has the kinds of its statement
pub is_stated : (n : ℕ) (v : Version) (earlier : List Statement) (line : List ℕ) (s : Statement) → is_foreign line ≡ false
    → is_too_long line ≡ false → is_ignored line ≡ false → is_comment (shown line) ≡ false → form_of v (shown line) ≡ Some s
    → IsStated n v earlier line s
is_stated n v earlier line s a b c d e =
    let same : statement_of v line ≡ Some s = rw d e in record { kinds = rw (a, b, c, d, e) refl; statement = same }

-- the same, by what counts of the line
pub is_shown : (n : ℕ) (v : Version) (earlier : List Statement) (line text : List ℕ) (s : Statement) → text ≡ shown line
    → is_foreign line ≡ false → is_too_long line ≡ false → (length text == 0) ≡ false → is_comment text ≡ false → form_of v text ≡ Some s
    → IsStated n v earlier line s
is_shown n v earlier line text s same a b c d e =
    is_stated n v earlier line s a b
    (ap (λ (x : List ℕ). length x == 0) (sym same) ∙ c)
    (ap is_comment (sym same) ∙ d)
    (ap (form_of v) (sym same) ∙ e)

-- what became of a line or a statement of which these are the kinds and the statements
abbrev pub Taken : {A : Type 0} → ℕ → Version → List Statement → List ℕ → List Statement → Reading → Result A (LineRefusal Kind) → Type 0
Taken n v earlier kinds statements next result = MatchResult result (λ _. (kinds ≡ []) × IsBehind n v (earlier ++ statements) next)
    (λ e. TellsLowest kind_number e kinds)

-- what becomes of a statement becomes of its line
pub taken : {A : Type 0} (n : ℕ) (v : Version) (earlier : List Statement) (line : List ℕ) (s : Statement) (next : Reading)
    (result : Result A (LineRefusal Kind))
    → IsStated n v earlier line s
    → Taken n v earlier (kinds_of_statement n earlier (Some s)) (s ∷ []) next result → Taken n v earlier (kinds_of n v earlier line)
    (option_to_list (statement_of v line)) next result
taken n v earlier line s next result is h =
    subst (λ (k : List ℕ). Taken n v earlier k (option_to_list (statement_of v line)) next result) (sym is.kinds)
    (subst (λ (o : Option Statement). Taken n v earlier (kinds_of_statement n earlier (Some s)) (option_to_list o) next result)
    (sym is.statement) h)
