-- A pass over the lines of a text: how it begins, what a line more does, and how it ends.
use Rattle.std.proofs.Common.{◌≡◌, ℕ, ◌+◌, Bool, true, false, not, List, [], ◌∷◌, map, Some, None, refl, sym, ap, ◌∙◌}
use Rattle.std.specs.Prelude.{fold, option_map, if◌then◌else◌}
use Rattle.mv_line.specs.declared.fault.LineRefusal.{LineRefusal}
use Rattle.mv_line.specs.declared.fault.LineRefusal.TheVariants.{Has, NoMemory}
use Rattle.mv_line.specs.Fault.{LineRules, HasPassed, TellsLowest, TellsFirst, fault_at, faults_by_line, first_fault, first_of_list}
use Rattle.mv_line.specs.Fault.{refusal_at}
use Rattle.mv_line.proofs.Faults.{line_passed, first_in_line}

-- of a text that ends here: none where it is whole, and else the one that it is told
none_left : (k number : ℕ) (b : Bool) → None ≡ (if b then None else Some k)
    → first_of_list (map (fault_at number) (if not b then k ∷ [] else [])) ≡ None
none_left k number true e = refl
none_left k number false e = absurd cc

one_left : (j k number : ℕ) (b : Bool) → Some j ≡ (if b then None else Some k)
    → first_of_list (map (fault_at number) (if not b then k ∷ [] else [])) ≡ Some (fault_at number j)
one_left j k number true e = absurd cc
one_left j k number false e = cc

module _ {Said : Type 0} (rules : LineRules Said) (start : Said) (lines : List (List ℕ)) where
  -- before the first line
  pub at_first : HasPassed rules start lines 1 start lines
  at_first = record { first = refl; all = refl }

  module _ (number : ℕ) (said : Said) (left : List (List ℕ)) (p : HasPassed rules start lines number said left) where
    -- what is left, told as another list
    as_left : (same : List (List ℕ)) → left ≡ same
        → first_of_list (faults_by_line rules number said same) ≡ first_fault rules start lines
    as_left same e = ap (λ (x : List (List ℕ)). first_of_list (faults_by_line rules number said x)) (sym e) ∙ p.first

    -- one line more
    pub at_next : (line : List ℕ) (behind : List (List ℕ)) → left ≡ line ∷ behind → rules.kinds_of said line ≡ []
        → HasPassed rules start lines (number + 1) (rules.with_line said line) behind
    at_next line behind e none = record {
      first = ap first_of_list (sym (line_passed rules number said line behind none)) ∙ as_left (line ∷ behind) e;
      all = ap (fold rules.with_line said) (sym e) ∙ p.all;
    }

    -- the kind that is told of the next line is the first fault of the text
    pub told_at : {K : Type 0} (number_of : K → ℕ) (line : List ℕ) (behind : List (List ℕ)) (e : LineRefusal K) → left ≡ line ∷ behind
        → TellsLowest number_of e (rules.kinds_of said line)
        → TellsFirst (refusal_at number_of number e) (first_fault rules start lines)
    told_at number_of line behind (Has kind) is told =
        sym (as_left (line ∷ behind) is) ∙ first_in_line rules number (number_of kind) said line behind told
    told_at number_of line behind NoMemory is told = tt

    -- ---- behind the last line

    pub cut_at_end : {K : Type 0} (number_of : K → ℕ) (kind : K) → left ≡ []
        → option_map number_of (Some kind) ≡ (if rules.is_whole said then None else Some rules.cut_short)
        → first_fault rules start lines ≡ Some (fault_at number (number_of kind))
    cut_at_end number_of kind none e =
        sym (as_left [] none) ∙ one_left (number_of kind) rules.cut_short number (rules.is_whole said) e

    pub whole_at_end : left ≡ [] → None ≡ (if rules.is_whole said then None else Some rules.cut_short)
        → (first_fault rules start lines ≡ None) × (said ≡ fold rules.with_line start lines)
    whole_at_end none e = (
      sym (as_left [] none) ∙ none_left rules.cut_short number (rules.is_whole said) e,
      ap (fold rules.with_line said) (sym none) ∙ p.all,
    )
