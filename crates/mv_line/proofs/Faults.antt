-- The first of the faults that are listed is the lowest that a text has.
use Rattle.std.proofs.Common.{◌≡◌, ℕ, zero, suc, ◌+◌, ◌<◌, ◌≤◌, ◌⊎◌, Bool, true, false, List, [], ◌∷◌, ◌++◌, length, map}
use Rattle.std.proofs.Common.{Option, Some, None, refl, sym, ap, subst, inl, inr, ◌∙◌, arith}
use Rattle.std.specs.Prelude.{MatchOption, slice_index_or, fold, not, if◌then◌else◌}
use Rattle.std.specs.List.{Contains}
use Rattle.mv_line.specs.declared.fault.TextFault.{TextFault}
use Rattle.mv_line.specs.Fault.{LineRules, HasFaultAt, in_line, at_end, fault_at, faults_by_line, first_of_list, IsNoLater}

-- ---- kinds that rise

-- from this number on
abbrev pub Rises : ℕ → List ℕ → Type 0
Rises low [] = Unit {0}
Rises low (k ∷ kinds) = (low ≤ k) × Rises k kinds

-- from a lower one too
rises_lower : (low high : ℕ) (kinds : List ℕ) → low ≤ high → Rises high kinds → Rises low kinds
rises_lower low high [] le r = tt
rises_lower low high (k ∷ kinds) le r = (omega (arith, r.0), r.1)

-- one more kind in front, where its test holds
pub rises_when : (holds : Bool) (kind low : ℕ) (kinds : List ℕ) → low ≤ kind → Rises kind kinds
    → Rises low ((if holds then kind ∷ [] else []) ++ kinds)
rises_when true kind low kinds le r = (le, r)
rises_when false kind low kinds le r = rises_lower low kind kinds le r

-- the last kind
pub rises_last : (holds : Bool) (kind low : ℕ) → low ≤ kind → Rises low (if holds then kind ∷ [] else [])
rises_last true kind low le = (le, tt)
rises_last false kind low le = tt

-- where none is told, the first test does not hold, and none is told behind it
pub none_when : (holds : Bool) (kind : ℕ) (kinds : List ℕ) → (if holds then kind ∷ [] else []) ++ kinds ≡ []
    → (holds ≡ false) × (kinds ≡ [])
none_when true kind kinds e = absurd (cc e)
none_when false kind kinds e = (refl, e)

no_element : (j : ℕ) → ¬ Contains [] j
no_element j c = omega (arith, c.1)

-- none of them is below that number
least : (low : ℕ) (kinds : List ℕ) → Rises low kinds → (j : ℕ) → Contains kinds j → low ≤ j
least low [] r j c = absurd (no_element j c)
least low (k ∷ kinds) r j c = go c.0 c.1 c.2 (λ d. least k kinds r.1 j d) where
  go : (i : ℕ) → i < length (k ∷ kinds) → slice_index_or (k ∷ kinds) i j ≡ j → (Contains kinds j → k ≤ j) → low ≤ j
  go zero lt e ih = omega (arith, r.0, e)
  go (suc i) lt e ih = omega (arith, r.0, ih (i, omega (arith, lt), e))

-- ---- the lowest fault

-- the option is the lowest that P holds of
abbrev pub Lowest : Option TextFault → (TextFault → Type 0) → Type 0
Lowest o P = MatchOption o ((f : TextFault) → ¬ P f) (λ f. P f × ((g : TextFault) → P g → IsNoLater f g))

-- and that a test with the same answers holds of
pub lowest_same : (o : Option TextFault) (P Q : TextFault → Type 0) → ((f : TextFault) → P f → Q f) → ((f : TextFault) → Q f → P f)
    → Lowest o P → Lowest o Q
lowest_same None P Q to from h = λ f q. h f (from f q)
lowest_same (Some f) P Q to from h = (to f h.0, λ g q. h.1 g (from g q))

-- ---- a text and its rules

module _ {Said : Type 0} (rules : LineRules Said) where
  -- its faults
  abbrev faults : ℕ → Said → List (List ℕ) → List TextFault
  faults number said lines = faults_by_line rules number said lines

  -- a line that has no fault is passed
  pub line_passed : (number : ℕ) (said : Said) (line : List ℕ) (lines : List (List ℕ)) → rules.kinds_of said line ≡ []
      → faults number said (line ∷ lines) ≡ faults (number + 1) (rules.with_line said line) lines
  line_passed number said line lines none = rw none refl

  -- the first kind of a line is the first fault
  pub first_in_line : (number k : ℕ) (said : Said) (line : List ℕ) (lines : List (List ℕ))
      → first_of_list (rules.kinds_of said line) ≡ Some k → first_of_list (faults number said (line ∷ lines)) ≡ Some (fault_at number k)
  first_in_line number k said line lines e = go (rules.kinds_of said line) e where
    go : (kinds : List ℕ) → first_of_list kinds ≡ Some k
        → first_of_list (map (fault_at number) kinds ++ faults (number + 1) (rules.with_line said line) lines) ≡ Some (fault_at number k)
    go [] e = absurd cc
    go (j ∷ kinds) e = cc

  -- where there is no first fault, the first line has none
  pub no_kinds : (number : ℕ) (said : Said) (line : List ℕ) (lines : List (List ℕ))
      → first_of_list (faults number said (line ∷ lines)) ≡ None → rules.kinds_of said line ≡ []
  no_kinds number said line lines e = go (rules.kinds_of said line) e where
    go : (kinds : List ℕ) → first_of_list (map (fault_at number) kinds ++ faults (number + 1) (rules.with_line said line) lines) ≡ None
        → kinds ≡ []
    go [] e = refl
    go (k ∷ kinds) e = absurd cc

  -- and what was said is whole in the end
  pub no_fault_at_end : (number : ℕ) (said : Said) → first_of_list (faults number said []) ≡ None → rules.is_whole said ≡ true
  no_fault_at_end number said e = go (rules.is_whole said) refl where
    go : (b : Bool) → rules.is_whole said ≡ b → rules.is_whole said ≡ true
    go true is = is
    go false is = absurd (cc (e, is))

  -- where lines have no fault, what they have said is whole
  pub whole_at_last : (number : ℕ) (said : Said) (lines : List (List ℕ)) → first_of_list (faults number said lines) ≡ None
      → rules.is_whole (fold rules.with_line said lines) ≡ true
  whole_at_last number said [] e = no_fault_at_end number said e
  whole_at_last number said (line ∷ lines) e =
      whole_at_last (number + 1) (rules.with_line said line) lines
      (ap first_of_list (sym (line_passed number said line lines (no_kinds number said line lines e))) ∙ e)

  -- ---- the faults of the lines that are left

  -- the line of this number has a fault of this kind
  abbrev FaultIn : ℕ → Said → List (List ℕ) → ℕ → ℕ → Type 0
  FaultIn number said lines at kind = HasFaultAt rules number said lines at kind

  -- none of an earlier line
  no_earlier : (number : ℕ) (said : Said) (lines : List (List ℕ)) (at kind : ℕ) → FaultIn number said lines at kind → number ≤ at
  no_earlier number said lines at kind (in_line before behind line e is c) = omega (arith, is)
  no_earlier number said lines at kind (at_end e is k) = omega (arith, is)

  -- one of later lines
  later : (number : ℕ) (said : Said) (line : List ℕ) (lines : List (List ℕ)) (at kind : ℕ)
      → FaultIn (number + 1) (rules.with_line said line) lines at kind → FaultIn number said (line ∷ lines) at kind
  later number said line lines at kind (in_line before behind it e is c) =
      in_line (line ∷ before) behind it (ap (λ (x : List (List ℕ)). line ∷ x) e) (omega (arith, is)) c
  later number said line lines at kind (at_end e is k) = at_end e (omega (arith, is)) k

  -- a fault of the first line, or of those behind it
  abbrev HereOrLater : ℕ → Said → List ℕ → List (List ℕ) → ℕ → ℕ → Type 0
  HereOrLater number said line lines at kind =
      ((at ≡ number) × Contains (rules.kinds_of said line) kind) ⊎ FaultIn (number + 1) (rules.with_line said line) lines at kind

  here_or_later : (number : ℕ) (said : Said) (line : List ℕ) (lines : List (List ℕ)) (at kind : ℕ)
      → FaultIn number said (line ∷ lines) at kind → HereOrLater number said line lines at kind
  here_or_later number said line lines at kind (in_line [] behind it e is c) =
      let same : it ≡ line = cc in
      inl (omega (arith, is), subst (λ (x : List ℕ). Contains (rules.kinds_of said x) kind) same c)
  here_or_later number said line lines at kind (in_line (first ∷ before) behind it e is c) =
      let same : first ≡ line = cc in
      let rest : lines ≡ before ++ it ∷ behind = cc in
      inr (in_line before behind it rest (omega (arith, is))
      (subst (λ (x : List ℕ). Contains (rules.kinds_of (fold rules.with_line (rules.with_line said x) before) it) kind) same c))
  here_or_later number said line lines at kind (at_end e is k) = inr (at_end e (omega (arith, is)) k)

  -- ---- the lowest of them

  module _ (rises : (said : Said) (line : List ℕ) → Rises 1 (rules.kinds_of said line)) where
    -- whether a fault is one of these
    abbrev IsIn : ℕ → Said → List (List ℕ) → TextFault → Type 0
    IsIn number said lines f = FaultIn number said lines f.line f.kind

    -- the lowest of them
    abbrev IsLowest : Option TextFault → ℕ → Said → List (List ℕ) → Type 0
    IsLowest o number said lines = Lowest o (IsIn number said lines)

    -- no earlier than one of this number and kind
    abbrev IsBehind : ℕ → ℕ → TextFault → Type 0
    IsBehind number k g = IsNoLater (fault_at number k) g

    lowest_at_end : (number : ℕ) (said : Said) (b : Bool) → rules.is_whole said ≡ b
        → IsLowest (first_of_list (map (fault_at number) (if not b then rules.cut_short ∷ [] else []))) number said []
    lowest_at_end number said true e = none where
      none : (f : TextFault) → ¬ IsIn number said [] f
      none f (in_line [] behind it n l c) = absurd cc
      none f (in_line (x ∷ before) behind it n l c) = absurd cc
      none f (at_end m l k) = absurd (cc (m, e))
    lowest_at_end number said false e = (at_end e (omega arith) refl, all) where
      all : (g : TextFault) → IsIn number said [] g → IsBehind number rules.cut_short g
      all g (in_line [] behind it n l c) = absurd cc
      all g (in_line (x ∷ before) behind it n l c) = absurd cc
      all g (at_end m l k) = inr (omega (arith, l), omega (arith, k))

    lowest_in_line : (number : ℕ) (said : Said) (line : List ℕ) (lines : List (List ℕ)) (k : ℕ) (kinds : List ℕ)
        → rules.kinds_of said line ≡ k ∷ kinds → IsLowest (Some (fault_at number k)) number said (line ∷ lines)
    lowest_in_line number said line lines k kinds e =
        (has, λ g h. all g (here_or_later number said line lines g.line g.kind h)) where
          has : IsIn number said (line ∷ lines) (fault_at number k)
          has = in_line [] lines line refl (omega arith) (subst (λ (x : List ℕ). Contains x k) (sym e) (0, omega arith, refl))

          all : (g : TextFault) → HereOrLater number said line lines g.line g.kind → IsBehind number k g
          all g (inl h) =
              let r : Rises 1 (k ∷ kinds) = subst (Rises 1) e (rises said line) in
              let l = least k (k ∷ kinds) (omega arith, r.1) g.kind (subst (λ (x : List ℕ). Contains x g.kind) e h.1) in
              inr (omega (arith, h.0), l)
          all g (inr h) = inl (omega (arith, no_earlier (number + 1) (rules.with_line said line) lines g.line g.kind h))

    -- the first of the faults is the lowest
    pub lowest_from : (number : ℕ) (said : Said) (lines : List (List ℕ))
        → IsLowest (first_of_list (faults number said lines)) number said lines
    lowest_from number said [] = lowest_at_end number said (rules.is_whole said) refl
    lowest_from number said (line ∷ lines) =
        go (rules.kinds_of said line) refl (lowest_from (number + 1) (rules.with_line said line) lines) where
          go : (kinds : List ℕ) → rules.kinds_of said line ≡ kinds
              → IsLowest (first_of_list (faults (number + 1) (rules.with_line said line) lines)) (number + 1)
              (rules.with_line said line) lines
              → IsLowest (first_of_list (faults number said (line ∷ lines))) number said (line ∷ lines)
          go [] e ih =
              subst (λ (o : Option TextFault). IsLowest o number said (line ∷ lines))
              (sym (ap first_of_list (line_passed number said line lines e)))
              (lowest_same _ _ _ (λ f h. later number said line lines f.line f.kind h)
              (λ f h. behind f (here_or_later number said line lines f.line f.kind h)) ih) where
                behind : (f : TextFault) → HereOrLater number said line lines f.line f.kind
                    → IsIn (number + 1) (rules.with_line said line) lines f
                behind f (inl h) = absurd (no_element f.kind (subst (λ (x : List ℕ). Contains x f.kind) e h.1))
                behind f (inr h) = h
          go (k ∷ kinds) e ih =
              subst (λ (o : Option TextFault). IsLowest o number said (line ∷ lines))
              (sym (first_in_line number k said line lines (ap first_of_list e))) (lowest_in_line number said line lines k kinds e)
