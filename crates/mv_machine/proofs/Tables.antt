-- A list read as a table, after one element was written.
use Rattle.std.proofs.Common.{◌≡◌, ℕ, ◌<◌, List, length, set, get_or, replicate, [], inl, inr, ap, ◌∙◌, arith}
use mathlib.Core.Path.{fun_ext}
use Rattle.std.proofs.lemmas.Bool.{cases_eq, cases_lt}
use Rattle.std.proofs.lemmas.List.{get_or-set_same, get_or-set_other, get_or-replicate, get_or_past, length-replicate}
use Rattle.mv_machine.specs.System.{opening, with_at}
use Rattle.mv_machine.specs.declared.state.State.{State}
use Rattle.mv_config.specs.Setup.{Setup}
use Rattle.mv_machine.specs.State.{table, system_of, ecb_cell, no_ecb, element_cell, no_element, volume_cell, no_volume}

at_one : {A B : Type 0} (view : A → B) (d : A) (xs : List A) (n : ℕ) (a : A) (k : ℕ) → n < length xs
    → table view d (set xs n a) k ≡ with_at (table view d xs) n (view a) k
at_one view d xs n a k lt = grind (arith, get_or-set_same, get_or-set_other, cases_eq k n)

pub table-set : {A B : Type 0} (view : A → B) (d : A) (xs : List A) (n : ℕ) (a : A) → n < length xs
    → table view d (set xs n a) ≡ with_at (table view d xs) n (view a)
table-set view d xs n a lt = fun_ext (λ k. at_one view d xs n a k lt)

one_of_all : {A : Type 0} (d : A) (n k : ℕ) → get_or (replicate n d) k d ≡ d
one_of_all d n k = elim (cases_lt k n) [
  | inl lt ↦ get_or-replicate n k d d lt
  | inr ge ↦
      get_or_past (replicate n d) k d (rw length-replicate ge)
]

pub table-replicate : {A B : Type 0} (view : A → B) (d : A) (n : ℕ) → table view d (replicate n d) ≡ (λ k. view d)
table-replicate view d n = fun_ext (λ k. ap view (one_of_all d n k))

-- a state of new cells alone is the opening
pub opens : (c : Setup) (s : State) (n m k : ℕ) → s.ecbs.items ≡ replicate n no_ecb → s.elements.items ≡ replicate m no_element
    → s.volumes.items ≡ replicate k no_volume
    → s.latch_place ≡ 0 → s.latches.lists ≡ replicate c.latches [] → system_of s ≡ opening c
opens c s n m k e p v l q =
    let te : table ecb_cell no_ecb s.ecbs.items ≡ (λ k. ecb_cell no_ecb) = ap (table ecb_cell no_ecb) e
    ∙ table-replicate ecb_cell no_ecb n in
    let tp : table element_cell no_element s.elements.items ≡ (λ k. element_cell no_element) = ap (table element_cell no_element) p
    ∙ table-replicate element_cell no_element m in
    let tv : table volume_cell no_volume s.volumes.items ≡ (λ k. volume_cell no_volume) = ap (table volume_cell no_volume) v
    ∙ table-replicate volume_cell no_volume k in
    ap (λ f. record (system_of s) { ecb = f }) te
    ∙ ap (λ f. record {
      ecb = λ k. ecb_cell no_ecb;
      element = f;
      volume = table volume_cell no_volume s.volumes.items;
      latches =
          (system_of s).latches;
    }) tp
    ∙ ap (λ f. record { ecb = λ k. ecb_cell no_ecb; element = λ k. element_cell no_element; volume = f; latches = (system_of s).latches })
    tv
    ∙ ap (λ f. record {
      ecb = λ k. ecb_cell no_ecb;
      element = λ k. element_cell no_element;
      volume = λ k. volume_cell no_volume;
      latches =
          record { place = f; state = s.latches.lists };
    }) l
    ∙ ap (λ f. record {
      ecb = λ k. ecb_cell no_ecb;
      element = λ k. element_cell no_element;
      volume = λ k. volume_cell no_volume;
      latches =
          record { place = 0; state = f };
    }) q
