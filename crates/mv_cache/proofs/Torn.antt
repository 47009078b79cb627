-- No read is torn: in a history in which each task kept to what is allowed, and the writer's log is whole at each moment, what was
-- read under the latch is a pair that was written, or the first. By the laws of mv_guarded. Used by share.
use Rattle.std.proofs.Common.{◌≡◌, ℕ, ◌<◌, true, List, [], ◌∷◌, ◌++◌, inl, inr, sym, ap, ◌∙◌, subst, append_assoc}
use Rattle.std.proofs.lemmas.Bool.{false≢true}
use Rattle.std.specs.List.{Contains}
use Rattle.mv_wait.specs.Prelude.latch_op.{Purge}
use Rattle.mv_wait.specs.Prelude.mode.{Exclusive, Shared}
use Rattle.mv_wait.specs.Prelude.{Request, Entry, Object, Volume, Op, Legal, of, Setup, is_write}
use Rattle.mv_wait.specs.Prelude.op_on
use Rattle.mv_wait.specs.Prelude.volume_op.{Write}
use Rattle.mv_wait.specs.System.{opening}
use Rattle.mv_wait.proofs.Histories.{LegalFrom-front}
use Rattle.mv_wait.proofs.Objects.{of-append}
use Rattle.mv_wait.proofs.Places.{of_longer_mine}
use Rattle.mv_wait.proofs.Sections.{one_holder}
use Rattle.mv_guarded.specs.Guarded.{HoldsLatch, KeepsLatch, Keeps, IsGuarding, GuardsVolume, value, value_from, Reads}
use Rattle.mv_guarded.proofs.Holding.{still_holds}
use Rattle.mv_guarded.proofs.Reading.{grants, value_read}
use Rattle.mv_guarded.proofs.Rules.{keeps_weaker, all_split, entry_keeps, Place, placed}
use Rattle.mv_guarded.proofs.Volumes.{only_writer}
use Rattle.mv_cache.specs.declared.cache.Pair.{Pair}
use Rattle.mv_cache.specs.Whole.{pair_of, IsAllowed, StaysWhole, WasRead, first_pair}
use Rattle.mv_cache.proofs.Logs.{whole_at}

-- ---- what is allowed

guards : (n k : ℕ) (log : List Entry) (o : Object) (op : Op) → IsAllowed k log o op → IsGuarding 0 n k log o op
guards n k log o (op_on.Latch (Purge requestor)) may = may
guards n k log o (op_on.Volume (Write x)) may = λ at. may.1
guards n k log o op may = tt

write_by : (k : ℕ) (log : List Entry) (o : Object) (op : Op) → IsAllowed k log o op → is_write op ≡ true → k ≡ 0
write_by k log o (op_on.Volume (Write x)) may is = may.0
write_by k log o op may is = absurd (false≢true is)

-- a read releases no latch, and writes no volume
inside_by : (m x : ℕ) (e : Entry) → Reads m x e → KeepsLatch 0 e.op
inside_by m x e r = subst (KeepsLatch 0) (sym r.op) tt

unwritten_by : (n m x : ℕ) (e : Entry) → Reads m x e → e.object ≡ Volume n → is_write e.op ≡ true → ⊥
unwritten_by n m x e r at is = false≢true (sym (ap is_write r.op) ∙ is)

module _ (c : Setup) (pairs : List Pair) (es : List Entry) (legal : Legal c es)
    (allowed : (k : ℕ) → k < c.callers → Keeps IsAllowed k [] (of k es)) (whole : StaysWhole pairs [] (of 0 es)) where
  guarding : (n : ℕ) → GuardsVolume c es 0 n
  guarding n = record {
    legal = legal;
    guards = λ k lt. keeps_weaker IsAllowed k (IsGuarding 0 n) (guards n k) [] (of k es) (allowed k lt);
  }

  legal_front : (front later : List Entry) → es ≡ front ++ later → Legal c front
  legal_front front later is = LegalFrom-front c (opening c) front later (subst (Legal c) is legal)

  -- each volume has what the writer wrote last
  value_is : (front later : List Entry) → es ≡ front ++ later → (n : ℕ) → value c front n ≡ value_from n 0 (of 0 front)
  value_is front later is n = only_writer c front 0 n (legal_front front later is)
      (all_split (λ e. e.object ≡ Volume n → is_write e.op ≡ true → e.caller ≡ 0) [] front later
      (λ before e rest split at write. write_by e.caller (of e.caller before) e.object e.op
      (entry_keeps IsAllowed c es legal allowed before e rest (is ∙ split)) write))

  -- while a reader holds the latch, what was written last is a whole pair
  whole_now : (front later : List Entry) → es ≡ front ++ later → (j : ℕ) → HoldsLatch 0 Shared j (of j front)
      → Contains (first_pair ∷ pairs) (pair_of (of 0 front))
  whole_now front later is j h =
      elim (whole_at pairs [] (of 0 front) (of 0 later) (subst (StaysWhole pairs []) (ap (of 0) is ∙ of-append 0 front later) whole)) [
        | inl alone ↦
            let one = one_holder c 0 j alone.request h.request front (legal_front front later is)
            (grants c es front later 0 0 0 alone.request (guarding 0) is alone.granted)
            (grants c es front later 0 0 j h.request (guarding 0) is h.granted)
            (alone.here ∙ sym h.here) alone.mode in
            let modes : Exclusive ≡ Shared = sym alone.mode ∙ ap (λ (q : Request). q.mode) one.1 ∙ h.mode in absurd (cc modes)
        | inr written ↦ written
      ]

  -- right after its second read
  pub untorn : (j : ℕ) (pair : Pair) → WasRead j (of j es) pair → Contains (first_pair ∷ pairs) pair
  untorn j pair r = subst (Contains (first_pair ∷ pairs)) (λ i. record { left = left_is i; right = right_is i })
      (whole_now now p.later is_now j holds) where
        between : List Entry
        between = r.before ++ r.first ∷ []

        p : Place j es between r.second r.later
        p = placed j es between r.second r.later (r.split ∙ sym (append_assoc r.before (r.first ∷ []) (r.second ∷ r.later)))

        now : List Entry
        now = p.before ++ r.second ∷ []

        is_now : es ≡ now ++ p.later
        is_now = p.split ∙ sym (append_assoc p.before (r.second ∷ []) p.later)

        own : of j now ≡ between ++ r.second ∷ []
        own = of_longer_mine j p.before r.second p.mine ∙ ap (λ xs. xs ++ r.second ∷ []) p.own

        after_first : HoldsLatch 0 Shared j between
        after_first = still_holds 0 Shared j 0 r.before r.first r.left.object r.holds

        holds : HoldsLatch 0 Shared j (of j now)
        holds = subst (HoldsLatch 0 Shared j) (sym own) (still_holds 0 Shared j 1 between r.second r.right.object after_first)

        left_is : value_from 0 0 (of 0 now) ≡ pair.left
        left_is = sym (value_is now p.later is_now 0) ∙ value_read c es now p.later 0 0 j pair.left (guarding 0) is_now (record {
          before = r.before;
          entry = r.first;
          since = r.second ∷ [];
          split = own ∙ append_assoc r.before (r.first ∷ []) (r.second ∷ []);
          asked = Shared;
          holds = r.holds;
          reads = r.left;
          inside = (inside_by 1 pair.right r.second r.right, tt);
          unwritten = (unwritten_by 0 1 pair.right r.second r.right, tt);
        })

        right_is : value_from 1 0 (of 0 now) ≡ pair.right
        right_is = sym (value_is now p.later is_now 1) ∙ value_read c es now p.later 0 1 j pair.right (guarding 1) is_now (record {
          before = between;
          entry = r.second;
          since = [];
          split = own;
          asked = Shared;
          holds = after_first;
          reads = r.right;
          inside = tt;
          unwritten = tt;
        })
