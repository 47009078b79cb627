-- What a log keeps to, with one entry more. Used by write_pair and read_pair.
use Rattle.std.proofs.Common.{◌≡◌, ℕ, List, [], ◌∷◌, ◌++◌, inr, sym, ◌∙◌, subst, append_assoc}
use Rattle.std.proofs.lemmas.List.{append-nil}
use Rattle.std.specs.List.{Contains}
use Rattle.mv_wait.specs.Prelude.latch_op.{Purge}
use Rattle.mv_wait.specs.Prelude.{Entry, Object, Op}
use Rattle.mv_wait.specs.Prelude.op_on
use Rattle.mv_wait.specs.Prelude.volume_op.{Write}
use Rattle.mv_guarded.specs.Guarded.{value_from}
use Rattle.mv_guarded.proofs.Quiet.{IsCalm, AreCalm, calm_values}
use Rattle.mv_guarded.proofs.Volumes.{value-append}
use Rattle.mv_cache.specs.declared.cache.Pair.{Pair}
use Rattle.mv_cache.specs.Whole.{pair_of, IsAllowed, IsWhole, StaysWhole, first_pair}

-- ---- entry by entry

pub whole_more : (pairs : List Pair) (before es : List Entry) (e : Entry) → StaysWhole pairs before es
    → IsWhole pairs (before ++ (es ++ e ∷ []))
    → StaysWhole pairs before (es ++ e ∷ [])
whole_more pairs before [] e all one = (all, one)
whole_more pairs before (x ∷ es) e all one = (
  all.0,
  whole_more pairs (before ++ x ∷ []) es e all.1 (subst (IsWhole pairs) (sym (append_assoc before (x ∷ []) (es ++ e ∷ []))) one),
)

pub whole_at : (pairs : List Pair) (before front later : List Entry) → StaysWhole pairs before (front ++ later)
    → IsWhole pairs (before ++ front)
whole_at pairs before [] [] all = subst (IsWhole pairs) (sym (append-nil before)) all
whole_at pairs before [] (e ∷ later) all = subst (IsWhole pairs) (sym (append-nil before)) all.0
whole_at pairs before (x ∷ front) later all =
    subst (IsWhole pairs) (append_assoc before (x ∷ []) front) (whole_at pairs (before ++ x ∷ []) front later all.1)

-- ---- entries that write nothing, and purge no requestor

pub calm_allowed : (k : ℕ) (log : List Entry) (o : Object) (op : Op) → IsCalm o op → IsAllowed k log o op
calm_allowed k log o (op_on.Latch (Purge requestor)) calm = absurd calm
calm_allowed k log o (op_on.Volume (Write x)) calm = absurd calm
calm_allowed k log o op calm = tt

pub calm_pair : (log es : List Entry) → AreCalm es → pair_of (log ++ es) ≡ pair_of log
calm_pair log es calm = λ i. record {
  left = (value-append 0 0 log es ∙ calm_values 0 (value_from 0 0 log) es calm) i;
  right = (value-append 1 0 log es ∙ calm_values 1 (value_from 1 0 log) es calm) i;
}

pub calm_stays_whole : (pairs : List Pair) (log es : List Entry) → StaysWhole pairs [] log
    → Contains (first_pair ∷ pairs) (pair_of log) → AreCalm es → StaysWhole pairs [] (log ++ es)
calm_stays_whole pairs log [] all written calm = subst (StaysWhole pairs []) (sym (append-nil log)) all
calm_stays_whole pairs log (e ∷ es) all written calm =
    let still : Contains (first_pair ∷ pairs) (pair_of (log ++ e ∷ [])) =
    subst (Contains (first_pair ∷ pairs)) (sym (calm_pair log (e ∷ []) (calm.0, tt))) written in
    subst (StaysWhole pairs []) (append_assoc log (e ∷ []) es)
    (calm_stays_whole pairs (log ++ e ∷ []) es (whole_more pairs [] log e all (inr still)) still calm.1)
