-- The lowest own element that is not in use.
use Rattle.std.proofs.Common.{◌≡◌, ℕ, zero, suc, ◌+◌, ◌*◌, Bool, true, false, not, cond, List, Some, find, refl, sym, ap, ◌∙◌, subst}
use Rattle.std.specs.List.{range_with_len}
use Rattle.mv_machine.specs.declared.entry.Entry.{Entry}
use Rattle.mv_config.specs.Setup.{Setup}
use Rattle.mv_calls.specs.Keeping.{kept_of, nothing_kept}
use Rattle.mv_calls.specs.Pauses.{lowest_free}
use Rattle.mv_calls.proofs.Making.{kept_caller}
use Rattle.std.proofs.lemmas.Bool.{not-true}

-- what was looked through is the caller's own elements
pub lowest_by : (s : Setup) (k : ℕ) (log : List Entry) (j e : ℕ) → j ≡ k → e ≡ s.elements_per_caller
    → find (λ n. not ((kept_of k log).in_use n)) (range_with_len (j * e) e) ≡ lowest_free s (kept_of k log)
lowest_by s k log j e number few =
    let caller = kept_caller (nothing_kept k) log in
    (λ i. find (λ n. not ((kept_of k log).in_use n)) (range_with_len (number i * few i) (few i)))
    ∙ ap (λ m. find (λ n. not ((kept_of k log).in_use n)) (range_with_len (m * s.elements_per_caller) s.elements_per_caller)) (sym caller)

-- ---- the one found is not in use

found_step : (test : ℕ → Bool) (a n x : ℕ) (b : Bool) → test a ≡ b → cond b (Some a) (find test (range_with_len (a + 1) n)) ≡ Some x
    → (find test (range_with_len (a + 1) n) ≡ Some x → test x ≡ true) → test x ≡ true
found_step test a n x true is e rest = let same : a ≡ x = cc e in subst (λ y. test y ≡ true) same is
found_step test a n x false is e rest = rest e

found : (test : ℕ → Bool) (a n x : ℕ) → find test (range_with_len a n) ≡ Some x → test x ≡ true
found test a zero x e = absurd (cc e)
found test a (suc n) x e = found_step test a n x (test a) refl e (found test (a + 1) n x)

pub lowest_is_unused : (s : Setup) (k : ℕ) (log : List Entry) (n : ℕ) → lowest_free s (kept_of k log) ≡ Some n
    → (kept_of k log).in_use n ≡ false
lowest_is_unused s k log n is =
    not-true ((kept_of k log).in_use n)
    (found (λ x. not ((kept_of k log).in_use x)) (k * s.elements_per_caller) s.elements_per_caller n
    (lowest_by s k log k s.elements_per_caller refl refl ∙ is))
