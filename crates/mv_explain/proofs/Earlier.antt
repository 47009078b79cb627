-- Events are looked through from the last to the first.
use Rattle.std.proofs.Common.{◌≡◌, ℕ, zero, suc, ◌+◌, ◌-◌, ◌<◌, ◌≤◌, Bool, true, false, List, [], ◌++◌, append_assoc, Option, Some, ap, sym, subst, ◌∙◌, arith}
use Rattle.std.specs.Prelude.{slice_get, if◌then◌else◌}
use Rattle.mv_machine.specs.declared.entry.Entry.{Entry}
use Rattle.mv_machine.specs.declared.entry.Object.{Object}
use Rattle.mv_explain.specs.Before.{earlier_text, event_at, from_last, is_on, last_below}

-- one that is not on the object is passed
pub step_false : (es : List Entry) (o : Object) (n : ℕ) → 0 < n → is_on o (slice_get es (n - 1)) ≡ false
    → last_below es o (n - 1) ≡ last_below es o n
step_false es o zero some off = absurd (omega arith)
step_false es o (suc k) some off =
    let e : suc k - 1 ≡ k = omega arith in
    let there : is_on o (slice_get es k) ≡ false = subst (λ (m : ℕ). is_on o (slice_get es m) ≡ false) e off in
    ap (last_below es o) e ∙ sym (ap (λ (b : Bool). if b then Some k else last_below es o k) there)

-- one that is on it is the last
pub step_true : (es : List Entry) (o : Object) (n : ℕ) → 0 < n → is_on o (slice_get es (n - 1)) ≡ true
    → last_below es o n ≡ Some (n - 1)
step_true es o zero some on = absurd (omega arith)
step_true es o (suc k) some on =
    let e : suc k - 1 ≡ k = omega arith in
    let there : is_on o (slice_get es k) ≡ true = subst (λ (m : ℕ). is_on o (slice_get es m) ≡ true) e on in
    ap (λ (b : Bool). if b then Some k else last_below es o k) there ∙ ap (λ (m : ℕ). Some m) (sym e)

-- three were shown
pub earlier_end : (first : ℕ) (es : List Entry) (o : Object) (below shown : ℕ) → 3 ≤ shown → earlier_text first es o below (3 - shown) ≡ []
earlier_end first es o below shown enough =
    let none : 3 - shown ≡ 0 = omega arith in
    ap (λ (k : ℕ). earlier_text first es o below k) none

-- one more is shown, and those before it
pub earlier_step : (first : ℕ) (es : List Entry) (o : Object) (below shown : ℕ) → shown < 3 → earlier_text first es o below (3 - shown)
    ≡ from_last (last_below es o below) (λ at. earlier_text first es o at (3 - (shown + 1)) ++ event_at first at (slice_get es at))
earlier_step first es o below shown fewer =
    let more : 3 - shown ≡ suc (3 - (shown + 1)) = omega arith in
    ap (λ (k : ℕ). earlier_text first es o below k) more

-- what was shown of those before it, and it, are all
pub earlier_more : (first : ℕ) (es : List Entry) (o : Object) (below shown at : ℕ) (out mid new : List ℕ) → shown < 3
    → last_below es o below ≡ Some at → mid ≡ out ++ earlier_text first es o at (3 - (shown + 1))
    → new ≡ mid ++ event_at first at (slice_get es at) → new ≡ out ++ earlier_text first es o below (3 - shown)
earlier_more first es o below shown at out mid new fewer found others one =
    let front : List ℕ = earlier_text first es o at (3 - (shown + 1)) in
    let last : List ℕ = event_at first at (slice_get es at) in
    let from_it : from_last (last_below es o below)
    (λ k. earlier_text first es o k (3 - (shown + 1)) ++ event_at first k (slice_get es k)) ≡ front ++ last =
    ap (λ (l : Option ℕ). from_last l (λ k. earlier_text first es o k (3 - (shown + 1)) ++ event_at first k (slice_get es k))) found in
    one ∙ ap (λ (x : List ℕ). x ++ last) others ∙ append_assoc out front last
    ∙ ap (λ (x : List ℕ). out ++ x) (sym from_it ∙ sym (earlier_step first es o below shown fewer))
