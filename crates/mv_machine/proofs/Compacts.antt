-- What a log tells of an entry.
use Rattle.std.proofs.Common.{◌≡◌, ℕ, List, Option, Some, None, option_map, slice_get, refl, ap}
use Rattle.mv_machine.specs.declared.entry.Entry.{Entry}
use Rattle.mv_machine.specs.declared.entry.Object.{Object}
use Rattle.mv_machine.specs.Log.{subject_of}

-- the entry whose object and place are told
pub record Had (es : List Entry) (at : ℕ) (o : Object) (n : ℕ) : Type 0 where
  pub entry : Entry
  pub is : slice_get es at ≡ Some entry
  pub object : entry.object ≡ o
  pub place : entry.place ≡ n

pub had : (es : List Entry) (at : ℕ) (o : Object) (n : ℕ) → option_map subject_of (slice_get es at) ≡ Some (o, n) → Had es at o n
had es at o n is = go (slice_get es at) refl is where
  go : (x : Option Entry) → slice_get es at ≡ x → option_map subject_of x ≡ Some (o, n) → Had es at o n
  go None e q = cc
  go (Some y) e q =
      let same : subject_of y ≡ (o, n) = cc in record { entry = y; is = e; object = ap (λ z. z.0) same; place = ap (λ z. z.1) same }

pub had_none : (es : List Entry) (at : ℕ) → option_map subject_of (slice_get es at) ≡ None → slice_get es at ≡ None
had_none es at is = go (slice_get es at) is where
  go : (x : Option Entry) → option_map subject_of x ≡ None → x ≡ None
  go None q = refl
  go (Some y) q = cc

pub one_entry : (es : List Entry) (at : ℕ) (x y : Entry) → slice_get es at ≡ Some x → slice_get es at ≡ Some y → x ≡ y
one_entry es at x y p q = cc
