-- What a task keeps before its first entry: tables of one value each, and no request.
use Rattle.std.proofs.Common.{◌≡◌, ℕ, ◌<◌, false, List, length, get_or, replicate, Some, count_by, sym, ap, ◌∙◌, arith}
use Rattle.std.specs.List.{slice_get}
use Rattle.std.proofs.lemmas.List.{get_or-replicate, length-replicate}
use Rattle.std.proofs.lemmas.Option.{get_or_from_slice_get, slice_get_within}
use Rattle.mv_wait.specs.Keep.{meets}
use Rattle.mv_wait.specs.declared.keep.OwnElement.{OwnElement}
use Rattle.mv_wait.proofs.keep.Keep.empty.Goals as goal

-- each place of a table of one value has it
same_at : {A : Type 0} → (xs : List A) (n i : ℕ) (x : A) → xs ≡ replicate n x → i < length xs → get_or xs i x ≡ x
same_at xs n i x is lt =
    let size = ap length is ∙ length-replicate n x in
    ap (λ l. get_or l i x) is ∙ get_or-replicate n i x x (omega arith)

same_got : {A : Type 0} → (xs : List A) (n i : ℕ) (x y : A) → xs ≡ replicate n x → slice_get xs i ≡ Some y → y ≡ x
same_got xs n i x y is at = sym (get_or_from_slice_get xs i y x at) ∙ same_at xs n i x is (slice_get_within xs i y at)

pub returns-clause-kept : goal.returns-clause-kept
returns-clause-kept c =
    let blocks = c.in_ok-vec.ensures.items_if_clones_equal (λ y h. h) in
    let elements = c.in_ok-vec-2.ensures.items_if_clones_equal (λ y h. h) in
    let none = c.in_ok-with_capacity.ensures.empty in record {
      extended = λ n lt. same_at c.in_ok-vec.field-0.items _ n false blocks lt;
      elements = λ i e at.
          let same = same_got c.in_ok-vec-2.field-0.items _ i _ e elements at in
          (ap (λ (x : OwnElement). x.in_use) same, ap (λ (x : OwnElement). x.generation) same);
      requests = λ test. ap (count_by (meets test)) none;
    }
