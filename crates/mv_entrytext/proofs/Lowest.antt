-- The first fault of a text, of which each line tells its first kind, is the lowest of all faults that the text has.
use Rattle.std.proofs.Common.{◌≡◌, ℕ, zero, suc, ◌+◌, ◌<◌, ◌≤◌, Bool, true, false, not, ◌||◌, List, [], ◌∷◌, ◌++◌, length, map}
use Rattle.std.proofs.Common.{Option, Some, None, if◌then◌else◌, ◌⊎◌, inl, inr, refl, sym, ap, subst, arith}
use Rattle.std.specs.Prelude.{MatchOption, slice_index_or, is_some, fold}
use Rattle.std.specs.List.{Contains}
use Rattle.std.proofs.lemmas.Bool.{ne_eqb}
use Rattle.std.specs.Option.{option_or}
use Rattle.mv_line.specs.declared.fault.TextFault.{TextFault}
use Rattle.mv_line.specs.Fault.{HasFaultAt, in_line, at_end, fault_at, faults_by_line, first_of_list, when}
use Rattle.mv_line.specs.Fault as by_number
use Rattle.mv_line.specs.Line.{ended_lines, cut_off}
use Rattle.mv_line.proofs.Faults.{Rises, rises_when, rises_last, Lowest, lowest_from}
use Rattle.mv_entrytext.specs.declared.fault.Kind.{Kind}
use Rattle.mv_entrytext.specs.declared.fault.Kind.TheVariants.{NoForm, BadNumber, BadConfig, WrongCount}
use Rattle.mv_entrytext.specs.Fault.{kind_number, is_read, kind_said, kind_of, listed, has_bad_config, has_wrong_count, has_no_form}
use Rattle.mv_entrytext.specs.Fault.{has_bad_number, says, every_kind, every_rule, line_rules, with_line, text_fault, HasFault, kind_rank}
use Rattle.mv_entrytext.specs.Fault.{IsNoLater}
use Rattle.mv_entrytext.specs.Journal.{Line}
use Rattle.mv_entrytext.specs.Lines.{Draft, line_read, blank}

-- ---- the kind that a line tells is the first of its kinds

-- by what is read of it strictly, and whether it is read loosely
abbrev told : Draft → Option Line → Bool → Option Kind
told d o loose =
    option_or (if not (is_some o || loose) then Some NoForm else if not (is_some o) then Some BadNumber else None) (kind_said d o)

abbrev every : Draft → Option Line → Bool → List ℕ
every d o loose =
    when kind_number (not (is_some o || loose)) NoForm
    ++ (when kind_number (not (is_some o)) BadNumber
    ++ (when kind_number (says has_bad_config d o) BadConfig ++ when kind_number (says has_wrong_count d o) WrongCount))

first_said : (config count : Bool)
    → first_of_list (listed (if config then Some BadConfig else if count then Some WrongCount else None))
    ≡ first_of_list (when kind_number config BadConfig ++ when kind_number count WrongCount)
first_said true count = refl
first_said false true = refl
first_said false false = refl

first_told : (d : Draft) (o : Option Line) (loose : Bool) → first_of_list (listed (told d o loose)) ≡ first_of_list (every d o loose)
first_told d None true = refl
first_told d None false = refl
first_told d (Some l) loose = first_said (has_bad_config d l) (has_wrong_count d l)

-- ---- and so the first of all faults

first_same : {A B : Type 0} (f : A → B) (xs ys : List A) (ps qs : List B) → first_of_list xs ≡ first_of_list ys
    → first_of_list ps ≡ first_of_list qs → first_of_list (map f xs ++ ps) ≡ first_of_list (map f ys ++ qs)
first_same f [] [] ps qs a b = b
first_same f [] (y ∷ ys) ps qs a b = absurd (cc a)
first_same f (x ∷ xs) [] ps qs a b = absurd (cc a)
first_same f (x ∷ xs) (y ∷ ys) ps qs a b = let same : x ≡ y = cc a in ap (λ v. Some (f v)) same

same_first : (cut : List ℕ) (number : ℕ) (d : Draft) (lines : List (List ℕ))
    → first_of_list (faults_by_line (line_rules cut) number d lines) ≡ first_of_list (faults_by_line (every_rule cut) number d lines)
same_first cut number d [] = refl
same_first cut number d (line ∷ lines) =
    first_same (fault_at number) (listed (kind_of d line)) (every_kind d line)
    (faults_by_line (line_rules cut) (number + 1) (with_line d line) lines)
    (faults_by_line (every_rule cut) (number + 1) (with_line d line) lines)
    (first_told d (line_read true d.stage line) (is_read false d.stage line))
    (same_first cut (number + 1) (with_line d line) lines)

-- ---- kinds rise, and those of lines are below that of a text that is cut short

every_rises : (d : Draft) (line : List ℕ) → Rises 1 (every_kind d line)
every_rises d line =
    rises_when (has_no_form d.stage line) (kind_number NoForm) 1 _ (omega arith)
    (rises_when (has_bad_number d.stage line) (kind_number BadNumber) 1 _ (omega arith)
    (rises_when (says has_bad_config d (line_read true d.stage line)) (kind_number BadConfig) 2 _ (omega arith)
    (rises_last (says has_wrong_count d (line_read true d.stage line)) (kind_number WrongCount) 3 (omega arith))))

abbrev Below : List ℕ → Type 0
Below [] = Unit {0}
Below (k ∷ kinds) = (k < 5) × Below kinds

below_when : (holds : Bool) (k : ℕ) (kinds : List ℕ) → k < 5 → Below kinds → Below ((if holds then k ∷ [] else []) ++ kinds)
below_when true k kinds lt w = (lt, w)
below_when false k kinds lt w = w

below_last : (holds : Bool) (k : ℕ) → k < 5 → Below (if holds then k ∷ [] else [])
below_last true k lt = (lt, tt)
below_last false k lt = tt

every_below : (d : Draft) (line : List ℕ) → Below (every_kind d line)
every_below d line =
    below_when (has_no_form d.stage line) (kind_number NoForm) _ (omega arith)
    (below_when (has_bad_number d.stage line) (kind_number BadNumber) _ (omega arith)
    (below_when (says has_bad_config d (line_read true d.stage line)) (kind_number BadConfig) _ (omega arith)
    (below_last (says has_wrong_count d (line_read true d.stage line)) (kind_number WrongCount) (omega arith))))

contained : (kinds : List ℕ) → Below kinds → (j : ℕ) → Contains kinds j → j < 5
contained [] w j c = absurd (omega (arith, c.1))
contained (k ∷ kinds) w j c = go c.0 c.1 c.2 (λ d. contained kinds w.1 j d) where
  go : (i : ℕ) → i < length (k ∷ kinds) → slice_index_or (k ∷ kinds) i j ≡ j → (Contains kinds j → j < 5) → j < 5
  go zero lt e ih = omega (arith, w.0, e)
  go (suc i) lt e ih = ih (i, omega (arith, lt), e)

-- ---- where a fault may be

-- in a line with LF, of a kind below 5; or of kind 5 behind all of these
abbrev Placed : List (List ℕ) → ℕ → ℕ → Type 0
Placed lines number kind = ((number < length lines + 1) × (kind < 5)) ⊎ ((number ≡ length lines + 1) × (kind ≡ 5))

before_all : (before behind : List (List ℕ)) (line : List ℕ) → length before < length (before ++ line ∷ behind)
before_all [] behind line = omega arith
before_all (x ∷ before) behind line = let ih = before_all before behind line in omega (arith, ih)

placed : (cut : List ℕ) (lines : List (List ℕ)) (number kind : ℕ) → HasFaultAt (every_rule cut) 1 blank lines number kind
    → Placed lines number kind
placed cut lines number kind (in_line before behind line e is c) =
    let low = before_all before behind line in
    let same : length lines ≡ length (before ++ line ∷ behind) = ap length e in
    let d : Draft = fold with_line blank before in
    inl (omega (arith, low, same, is), contained (every_kind d line) (every_below d line) kind c)
placed cut lines number kind (at_end e is k) = inr (is, k)

rank_below : (k : ℕ) → k < 5 → kind_rank k ≡ k
rank_below k lt = ap (λ b. if b then 0 else k) (ne_eqb k 5 (λ e. absurd (omega (arith, lt, e))))

ranked : (lines : List (List ℕ)) (f g : TextFault) → Placed lines f.line f.kind → Placed lines g.line g.kind → by_number.IsNoLater f g
    → IsNoLater f g
ranked lines f g p q (inl lt) = inl lt
ranked lines f g (inl p) (inl q) (inr s) =
    inr (s.0, let a = rank_below f.kind p.1 in let b = rank_below g.kind q.1 in omega (arith, a, b, s.1))
ranked lines f g (inl p) (inr q) (inr s) = absurd (omega (arith, p.0, q.0, s.0))
ranked lines f g (inr p) q (inr s) = inr (s.0, subst (λ k. kind_rank k ≤ kind_rank g.kind) (sym p.1) (omega arith))

-- ---- the law

in_own_order : (bytes : List ℕ) (o : Option TextFault) → Lowest o (HasFault bytes)
    → MatchOption o ((f : TextFault) → ¬ HasFault bytes f) (λ f. HasFault bytes f × ((g : TextFault) → HasFault bytes g → IsNoLater f g))
in_own_order bytes None w = w
in_own_order bytes (Some f) w = (
  w.0,
  λ g has. ranked (ended_lines bytes) f g (placed (cut_off bytes) (ended_lines bytes) f.line f.kind w.0)
      (placed (cut_off bytes) (ended_lines bytes) g.line g.kind has) (w.1 g has),
)

pub lowest : (bytes : List ℕ) → MatchOption (text_fault bytes) ((f : TextFault) → ¬ HasFault bytes f)
    (λ f. HasFault bytes f × ((g : TextFault) → HasFault bytes g → IsNoLater f g))
unfolding text_fault
lowest bytes = in_own_order bytes (text_fault bytes)
    (subst (λ o. Lowest o (HasFault bytes)) (sym (same_first (cut_off bytes) 1 blank (ended_lines bytes)))
    (lowest_from (every_rule (cut_off bytes)) every_rises 1 blank (ended_lines bytes)))
