-- Blocks of a list that are noted in their places, and whether one stands twice.
use Rattle.std.proofs.Common.{◌≡◌, ◌≢◌, ℕ, zero, suc, ◌+◌, ◌<◌, ◌==◌, Bool, false, true, List, [], ◌∷◌, ◌++◌, length, length-take}
use Rattle.std.proofs.Common.{take, drop, get_or, set, cond, Some, refl, sym, ap, ◌∙◌, arith}
use Rattle.std.proofs.lemmas.Bool.{ne_eqb, eq-eqb, eqb-true, eqb-false}
use Rattle.std.proofs.lemmas.List.{get_or-take, get_or-set_same, get_or-set_other, drop_more, take_more}
use Rattle.std.proofs.lemmas.List.Folds.{list_any_at}
use Rattle.std.specs.List.{list_any}
use Rattle.mv_calls.specs.Refusal.{Doubled}
use Rattle.mv_calls.specs.Waits.{doubled_at}

-- the place of each of the first p blocks has the position where it stands
abbrev pub AreNoted : List ℕ → List ℕ → ℕ → Type 0
AreNoted places es p = (j : ℕ) → j < p → get_or places (get_or es j 0) 0 ≡ j

none_before : (es : List ℕ) (e p : ℕ) → ((j : ℕ) → j < p → get_or es j 0 ≢ e) → list_any (λ b. b == e) (take p es) ≡ false
none_before es e zero apart = refl
none_before [] e (suc p) apart = refl
none_before (x ∷ xs) e (suc p) apart =
    rw (ne_eqb x e (apart 0 (omega arith))) (none_before xs e p (λ j lt. apart (suc j) (omega arith)))

module _ (places es : List ℕ) (p : ℕ) (within : p < length es) where
  -- the block at this position, and where its place says that it stands
  abbrev e : ℕ
  e = get_or es p 0

  abbrev place : ℕ
  place = get_or places e 0

  next : (b : Bool) → list_any (λ b. b == e) (take p es) ≡ b
      → doubled_at (take p es) p (drop p es) ≡ cond b (Some (Doubled p)) (doubled_at (take (p + 1) es) (p + 1) (drop (p + 1) es))
  next b is = ap (doubled_at (take p es) p) (drop_more es p 0 within)
      ∙ (ap (λ z. cond z (Some (Doubled p)) (doubled_at (take p es ++ e ∷ []) (p + 1) (drop (p + 1) es))) is
      ∙ ap (λ xs. cond b (Some (Doubled p)) (doubled_at xs (p + 1) (drop (p + 1) es))) (sym (take_more es p 0 within)))

  -- it stands twice where its place names a position before it, and it stands there
  pub stands_twice : place < p → get_or es place 0 ≡ e → Some (Doubled p) ≡ doubled_at (take p es) p (drop p es)
  stands_twice before same =
      sym (next true (list_any_at (λ b. b == e) (take p es) place 0 (let size = length-take p es in omega arith)
      (eq-eqb _ _ (get_or-take p es place 0 before ∙ same))))

  module _ (noted : AreNoted places es p) (differs : place < p → get_or es place 0 ≢ e) where
    apart : (j : ℕ) → j < p → get_or es j 0 ≢ e
    apart j lt same =
        let at : place ≡ j = sym (ap (λ x. get_or places x 0) same) ∙ noted j lt in
        differs (omega arith) (ap (λ x. get_or es x 0) at ∙ same)

    -- otherwise it does not, and is noted
    pub stands_once : doubled_at (take p es) p (drop p es) ≡ doubled_at (take (p + 1) es) (p + 1) (drop (p + 1) es)
    stands_once = next false (none_before es e p apart)

    pub noted_next : e < length places → AreNoted (set places e p) es (p + 1)
    noted_next block j lt = go (j == p) refl where
      go : (b : Bool) → (j == p) ≡ b → get_or (set places e p) (get_or es j 0) 0 ≡ j
      go true is =
          let at : j ≡ p = eqb-true j p is in
          ap (λ x. get_or (set places e p) (get_or es x 0) 0) at ∙ (get_or-set_same places e p 0 block ∙ sym at)
      go false is =
          let other = eqb-false j p is in
          let before : j < p = omega arith in
          get_or-set_other places e (get_or es j 0) p 0 (apart j before) ∙ noted j before
