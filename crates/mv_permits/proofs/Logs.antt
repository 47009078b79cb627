-- Whether a task has a permit, with more entries in its log; and entries that write nothing and purge no requestor. Used by the functions
-- that make one call, and by share.
use Rattle.std.proofs.Common.{◌≡◌, ℕ, ◌+◌, Bool, true, false, arith, List, [], ◌∷◌, ◌++◌, refl, sym, ap, ◌∙◌}
use Rattle.mv_wait.specs.Prelude.latch_op.{Purge}
use Rattle.mv_wait.specs.Prelude.{Entry, Object, Volume, Op}
use Rattle.mv_wait.specs.Prelude.op_on
use Rattle.mv_wait.specs.Prelude.volume_op.{Write}
use Rattle.mv_guarded.proofs.Quiet.{IsCalm, AreCalm}
use Rattle.mv_permits.specs.Permits.{permit_with, permit_from, has_permit, given_with, given_from, given_back, one, IsAllowed}

pub permit-append : (has : Bool) (es fs : List Entry) → permit_from has (es ++ fs) ≡ permit_from (permit_from has es) fs
permit-append has [] fs = refl
permit-append has (e ∷ es) fs = permit-append (permit_with has e.object e.op) es fs

pub calm_allowed : (k : ℕ) (log : List Entry) (o : Object) (op : Op) → IsCalm o op → IsAllowed k log o op
calm_allowed k log o (op_on.Latch (Purge requestor)) calm = absurd calm
calm_allowed k log (Volume n) (op_on.Volume (Write x)) calm = absurd calm
calm_allowed k log o op calm = tt

calm_with : (has : Bool) (o : Object) (op : Op) → IsCalm o op → permit_with has o op ≡ has
calm_with has (Volume m) (op_on.Volume (Write y)) calm = absurd calm
calm_with has o op calm = refl

calm_from : (has : Bool) (es : List Entry) → AreCalm es → permit_from has es ≡ has
calm_from has [] calm = refl
calm_from has (e ∷ es) calm = calm_from (permit_with has e.object e.op) es calm.1 ∙ calm_with has e.object e.op calm.0

pub calm_permit : (log es : List Entry) → AreCalm es → has_permit (log ++ es) ≡ has_permit log
calm_permit log es calm = permit-append false log es ∙ calm_from (has_permit log) es calm

-- ---- how many permits were given back

plus_assoc : (x y z : ℕ) → x + (y + z) ≡ x + y + z
plus_assoc x y z = omega arith

pub plus_none : (n : ℕ) → n ≡ n + 0
plus_none n = omega arith

none_before : (n : ℕ) → n ≡ 0 + n
none_before n = omega arith

pub given-append : (has : Bool) (es fs : List Entry) → given_from has (es ++ fs) ≡ given_from has es + given_from (permit_from has es) fs
given-append has [] fs = none_before (given_from has fs)
given-append has (e ∷ es) fs =
    ap (λ n. given_with has e.object e.op + n) (given-append (permit_with has e.object e.op) es fs)
    ∙ plus_assoc (given_with has e.object e.op) (given_from (permit_with has e.object e.op) es)
    (given_from (permit_from (permit_with has e.object e.op) es) fs)

calm_given_with : (has : Bool) (o : Object) (op : Op) → IsCalm o op → given_with has o op ≡ 0
calm_given_with true (Volume m) (op_on.Volume (Write y)) calm = absurd calm
calm_given_with has o op calm = refl

calm_given_from : (has : Bool) (es : List Entry) → AreCalm es → given_from has es ≡ 0
calm_given_from has [] calm = refl
calm_given_from has (e ∷ es) calm =
    λ i. calm_given_with has e.object e.op calm.0 i + calm_given_from (permit_with has e.object e.op) es calm.1 i

pub calm_given : (log es : List Entry) → AreCalm es → given_back (log ++ es) ≡ given_back log
calm_given log es calm =
    given-append false log es ∙ ap (λ n. given_back log + n) (calm_given_from (has_permit log) es calm) ∙ sym (plus_none (given_back log))

-- a write gives one back if the task has one
pub write_gives : (has : Bool) (n x : ℕ) (e : Entry) → e.object ≡ Volume n → e.op ≡ op_on.Volume (Write x)
    → given_from has (e ∷ []) ≡ one has
write_gives true n x e at is = rw (at, is) refl
write_gives false n x e at is = refl
