-- What calls cost does not depend on budgets.
use Rattle.std.proofs.Common.{◌≡◌, ℕ, zero, suc, ◌+◌, ◌*◌, List, [], ◌∷◌, length, map, Some, None, refl, ap, ◌∙◌, sym, arith}
use Rattle.std.proofs.lemmas.List.Sums.{sum_by-cons}
use Rattle.std.specs.List.{range_with_len}
use Rattle.mv_latch.specs.declared.request.LatchForm.TheVariants.{Conditional, Waiting, Posted}
use Rattle.mv_config.specs.Reach.{cut, exits_of, greatest, total, reach_within, reach, release_cost}
use Rattle.mv_config.specs.Setup.{Setup, SetupExit}
use Rattle.mv_scriptline.specs.declared.call.Call.{Call}
use Rattle.mv_scriptline.specs.declared.call.Call.TheVariants as call
use Rattle.mv_script.specs.Costs.{script_setup, cost, costs_of}

-- sums of what is the same
total_same : (f g : ℕ → ℕ) → ((e : ℕ) → f e ≡ g e) → (es : List ℕ) → total f es ≡ total g es
total_same f g same [] = refl
total_same f g same (e ∷ es) = rw (same e, total_same f g same es) refl

-- lists of what is the same
pub map_same : {A : Type 0} (f g : A → ℕ) → ((a : A) → f a ≡ g a) → (xs : List A) → map f xs ≡ map g xs
map_same f g same [] = refl
map_same f g same (x ∷ xs) = rw (same x, map_same f g same xs) refl

module _ (k : ℕ) (owners : List ℕ) (exits : List SetupExit) (b c : List ℕ) where
  -- two configurations that differ by their budgets alone
  abbrev one : Setup
  one = script_setup k owners exits b

  -- the other
  abbrev other : Setup
  other = script_setup k owners exits c

  -- a block reaches as far
  within_same : (depth e : ℕ) → reach_within depth one e ≡ reach_within depth other e
  within_same zero e = refl
  within_same (suc depth) e =
      ap (λ (xs : List ℕ). cut (1 + greatest xs))
      (map_same (λ (x : SetupExit). total (reach_within depth one) x.targets)
      (λ (x : SetupExit). total (reach_within depth other) x.targets)
      (λ x. total_same (reach_within depth one) (reach_within depth other) (within_same depth) x.targets) (exits_of e exits))

  -- from all blocks
  reach_same : (e : ℕ) → reach one e ≡ reach other e
  reach_same e = within_same (length owners) e

  -- a release costs as much
  release_same : release_cost one ≡ release_cost other
  release_same = ap (λ (xs : List ℕ). cut (1 + k * 4 * greatest xs)) (map_same (reach one) (reach other) reach_same
      (range_with_len 0 (length owners)))

  -- and so does each call
  pub cost_same : (d : Call) → cost one d ≡ cost other d
  cost_same (call.Wait count ecbs) = refl
  cost_same (call.Post ecb code) = reach_same ecb
  cost_same (call.TryPost ecb place code) = refl
  cost_same (call.Clear ecb) = refl
  cost_same (call.Extend ecb exit) = refl
  cost_same (call.Test ecb) = refl
  cost_same (call.Read volume) = refl
  cost_same (call.Write volume number) = refl
  cost_same call.Alloc = refl
  cost_same (call.Pause token) = refl
  cost_same (call.Release token code) = refl
  cost_same (call.TryRelease token place code) = refl
  cost_same (call.Transfer None target code) = refl
  cost_same (call.Transfer (Some current) target code) = refl
  cost_same (call.Dealloc token) = refl
  cost_same (call.TestElement element) = refl
  cost_same (call.Obtain latch requestor mode Conditional) = refl
  cost_same (call.Obtain latch requestor mode Waiting) = refl
  cost_same (call.Obtain latch requestor mode (Posted e)) = refl
  cost_same (call.Check k) = refl
  cost_same (call.Free k conditional) = release_same
  cost_same (call.Purge requestor) = release_same
  cost_same (call.EndTask requestor None code) = ap (λ (n : ℕ). 4 + n + 0) release_same
  cost_same (call.EndTask requestor (Some e) code) = rw (release_same, reach_same e) refl
  cost_same (call.PostEvent index code) = ap (λ (n : ℕ). 6 + n) release_same
  cost_same (call.NextEvent position) = refl

  -- and all of a task
  pub costs_same : (calls : List Call) → costs_of one calls ≡ costs_of other calls
  costs_same [] = refl
  costs_same (d ∷ calls) =
      sum_by-cons (cost one) d calls ∙ both (cost one d) (cost other d) (costs_of one calls) (costs_of other calls) (cost_same d)
      (costs_same calls) ∙ sym (sum_by-cons (cost other) d calls) where
        both : (w x y z : ℕ) → w ≡ x → y ≡ z → w + y ≡ x + z
        both w x y z e f = omega (arith, e, f)
