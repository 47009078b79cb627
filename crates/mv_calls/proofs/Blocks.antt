-- A block agrees with what its owner's entries say.
use Rattle.std.proofs.Common.{◌≡◌, ℕ, ◌==◌, Bool, true, false, List, cond, refl, sym, ◌∙◌, subst}
use Rattle.std.proofs.lemmas.Bool.{eqb-true, false≢true, and_parts}
use Rattle.mv_ecb.specs.declared.operation.EcbOp.{EcbOp}
use Rattle.mv_ecb.specs.declared.operation.EcbOp.TheVariants.{Arm, Extend, Settle, Clear, Post, Test}
use Rattle.mv_ecb.specs.declared.operation.EcbReply.{EcbReply}
use Rattle.mv_ecb.specs.declared.operation.EcbReply.TheVariants as ecb_reply
use Rattle.mv_ecb.specs.Table.{ecb_step}
use Rattle.mv_ecb.specs.Word.{EcbState, Zero, Waiting, Extended, Complete}
use Rattle.mv_machine.specs.declared.entry.Entry.{Entry}
use Rattle.mv_machine.specs.declared.entry.Object.{Object}
use Rattle.mv_machine.specs.declared.entry.Object.TheVariants.{Ecb, Element, Volume, Latches}
use Rattle.mv_machine.specs.declared.entry.Op.{Op}
use Rattle.mv_machine.specs.declared.entry.Op.TheVariants as op_on
use Rattle.mv_machine.specs.declared.entry.Reply.{Reply}
use Rattle.mv_machine.specs.declared.entry.Reply.TheVariants as reply_of
use Rattle.mv_machine.specs.Legal.{IsNext, Legal, next, after, of}
use Rattle.mv_config.specs.Setup.{Setup, owner_of}
use Rattle.mv_machine.specs.System.{System, advanced, moved, ecb_admitted}
use Rattle.mv_machine.proofs.EntryRuns.{entry_of}
use Rattle.mv_calls.specs.Keeping.{Kept, kept_after, kept_of, extended_with}
use Rattle.mv_calls.specs.Known.{BlockAgrees}
use Rattle.mv_calls.specs.Rest.{OpenWaits, waits_after, waits_from, no_waits, armed_with}
use Rattle.mv_calls.proofs.Folds.{either_same, known}

-- whether a block is armed after an operation on it
abbrev armed_by : EcbOp → Bool → Bool
armed_by Arm armed = true
armed_by Settle armed = false
armed_by op armed = armed

-- whether it is held extended after one
abbrev extended_by : EcbOp → EcbReply → Bool → Bool
extended_by (Extend x) ecb_reply.Armed extended = true
extended_by Clear reply extended = false
extended_by op reply extended = extended

module _ (c : Setup) (n : ℕ) where
  -- an operation of the owner
  by_owner : (k : ℕ) (op : EcbOp) (x : EcbState) (a e : Bool) → ecb_admitted c k n op ≡ true → BlockAgrees c n x a e
      → BlockAgrees c n (ecb_step op x).0 (armed_by op a) (extended_by op (ecb_step op x).1 e)
  by_owner k Arm Zero a e m h = (refl, h)
  by_owner k Arm Waiting a e m h = (refl, h.1)
  by_owner k Arm (Extended y) a e m h = h
  by_owner k Arm (Complete d) a e m h = tt
  by_owner k (Extend x) Zero a e m h = (refl, (and_parts _ _ (and_parts _ _ m).1).1)
  by_owner k (Extend x) Waiting a e m h = h
  by_owner k (Extend x) (Extended y) a e m h = h
  by_owner k (Extend x) (Complete d) a e m h = tt
  by_owner k Settle Zero a e m h = h
  by_owner k Settle Waiting a e m h = h.1
  by_owner k Settle (Extended y) a e m h = h
  by_owner k Settle (Complete d) a e m h = tt
  by_owner k Clear x a e m h = refl
  by_owner k (Post d) Zero a e m h = tt
  by_owner k (Post d) Waiting a e m h = tt
  by_owner k (Post d) (Extended y) a e m h = tt
  by_owner k (Post d) (Complete g) a e m h = tt
  by_owner k Test x a e m h = h

  -- one of another caller
  by_other : (j : ℕ) (op : EcbOp) (x : EcbState) (a e : Bool) → ecb_admitted c j n op ≡ true → (owner_of c n ≡ j → ⊥)
      → BlockAgrees c n x a e → BlockAgrees c n (ecb_step op x).0 a e
  by_other j Arm x a e m apart h = absurd (apart (eqb-true (owner_of c n) j m))
  by_other j (Extend y) x a e m apart h = absurd (apart (eqb-true (owner_of c n) j (and_parts _ _ m).0))
  by_other j Settle x a e m apart h = absurd (apart (eqb-true (owner_of c n) j m))
  by_other j Clear x a e m apart h = absurd (apart (eqb-true (owner_of c n) j m))
  by_other j (Post d) Zero a e m apart h = tt
  by_other j (Post d) Waiting a e m apart h = tt
  by_other j (Post d) (Extended z) a e m apart h = tt
  by_other j (Post d) (Complete g) a e m apart h = tt
  by_other j Test x a e m apart h = h

-- ---- the tables of what is known, at one block
-- the mark of block n after an operation on block m
armed_at : (armed : ℕ → Bool) (m n : ℕ) (op : EcbOp) → armed_with armed (Ecb m) (op_on.Ecb op) n ≡ cond (n == m) (armed_by op (armed n))
    (armed n)
armed_at armed m n Arm = refl
armed_at armed m n Settle = refl
armed_at armed m n (Extend x) = sym (either_same (n == m) (armed n))
armed_at armed m n Clear = sym (either_same (n == m) (armed n))
armed_at armed m n (Post d) = sym (either_same (n == m) (armed n))
armed_at armed m n Test = sym (either_same (n == m) (armed n))

-- and the other mark
extended_at : (held : ℕ → Bool) (m n : ℕ) (op : EcbOp) (x : EcbState)
    → extended_with held (Ecb m) (op_on.Ecb op) (reply_of.Ecb (ecb_step op x).1) n ≡ cond (n == m)
    (extended_by op (ecb_step op x).1 (held n)) (held n)
extended_at held m n Arm x = sym (either_same (n == m) (held n))
extended_at held m n Settle x = sym (either_same (n == m) (held n))
extended_at held m n (Extend y) Zero = refl
extended_at held m n (Extend y) Waiting = sym (either_same (n == m) (held n))
extended_at held m n (Extend y) (Extended z) = sym (either_same (n == m) (held n))
extended_at held m n (Extend y) (Complete c) = sym (either_same (n == m) (held n))
extended_at held m n Clear x = refl
extended_at held m n (Post d) x = sym (either_same (n == m) (held n))
extended_at held m n Test x = sym (either_same (n == m) (held n))

-- the state of block n after an event on block m
state_at_block : (s : System) (k m n : ℕ) (op : EcbOp)
    → ((moved s k (Ecb m) (op_on.Ecb op)).ecb n).state ≡ cond (n == m) (ecb_step op (s.ecb m).state).0 (s.ecb n).state
state_at_block s k m n op = go (n == m) where
  go : (b : Bool) → (cond b (advanced (s.ecb m) (ecb_step op (s.ecb m).state).0) (s.ecb n)).state ≡ cond b (ecb_step op (s.ecb m).state).0
      (s.ecb n).state
  go true = refl
  go false = refl

module _ (c : Setup) (n k : ℕ) (own : owner_of c n ≡ k) where
  -- block n agrees with what its owner keeps
  abbrev Knows : System → OpenWaits → Kept → Type 0
  Knows s w kept = BlockAgrees c n (s.ecb n).state (w.armed n) (kept.extended n)

  own_event : (s : System) (m : ℕ) (op : EcbOp) (w : OpenWaits) (kept : Kept) → ecb_admitted c k m op ≡ true → Knows s w kept → (b : Bool)
      → (n == m) ≡ b
      → BlockAgrees c n (cond b (ecb_step op (s.ecb m).state).0 (s.ecb n).state) (cond b (armed_by op (w.armed n)) (w.armed n))
      (cond b (extended_by op (ecb_step op (s.ecb m).state).1 (kept.extended n)) (kept.extended n))
  own_event s m op w kept a h true is =
      let same : m ≡ n = sym (eqb-true n m is) in
      subst (λ j. BlockAgrees c n (ecb_step op (s.ecb j).state).0 (armed_by op (w.armed n))
      (extended_by op (ecb_step op (s.ecb j).state).1 (kept.extended n))) (sym same)
      (by_owner c n k op (s.ecb n).state (w.armed n) (kept.extended n) (subst (λ j. ecb_admitted c k j op ≡ true) same a) h)
  own_event s m op w kept a h false is = h

  mine : (s : System) (o : Object) (p : ℕ) (op : Op) (r : Reply) (w : OpenWaits) (kept : Kept) → IsNext c s (entry_of k o p op r)
      → Knows s w kept
      → Knows (moved s k o op) (waits_after w o op r) (kept_after kept o op r)
  mine s (Ecb m) p (op_on.Ecb op) r w kept next h =
      let is : r ≡ reply_of.Ecb (ecb_step op (s.ecb m).state).1 = (let q = next.reply in cc) in
      rw is
      (subst (λ z. BlockAgrees c n z (armed_with w.armed (Ecb m) (op_on.Ecb op) n)
      (extended_with kept.extended (Ecb m) (op_on.Ecb op) (reply_of.Ecb (ecb_step op (s.ecb m).state).1) n))
      (sym (state_at_block s k m n op))
      (subst (λ z. BlockAgrees c n (cond (n == m) (ecb_step op (s.ecb m).state).0 (s.ecb n).state) z
      (extended_with kept.extended (Ecb m) (op_on.Ecb op) (reply_of.Ecb (ecb_step op (s.ecb m).state).1) n))
      (sym (armed_at w.armed m n op))
      (subst (λ z. BlockAgrees c n (cond (n == m) (ecb_step op (s.ecb m).state).0 (s.ecb n).state)
      (cond (n == m) (armed_by op (w.armed n)) (w.armed n)) z) (sym (extended_at kept.extended m n op (s.ecb m).state))
      (own_event s m op w kept (and_parts _ _ next.admits).1 h (n == m) refl))))
  mine s (Element m) p (op_on.Element op) r w kept next h = h
  mine s (Volume m) p (op_on.Volume op) r w kept next h = h
  mine s Latches p (op_on.Latch op) r w kept next h = h
  mine s o p op r w kept next h = absurd (false≢true next.admits)

  others_event : (s : System) (j m : ℕ) (op : EcbOp) (a e : Bool) → ecb_admitted c j m op ≡ true → (j ≡ k → ⊥)
      → BlockAgrees c n (s.ecb n).state a e → (b : Bool) → (n == m) ≡ b
      → BlockAgrees c n (cond b (ecb_step op (s.ecb m).state).0 (s.ecb n).state) a e
  others_event s j m op a e may apart h true is =
      let same : m ≡ n = sym (eqb-true n m is) in
      subst (λ i. BlockAgrees c n (ecb_step op (s.ecb i).state).0 a e) (sym same)
      (by_other c n j op (s.ecb n).state a e (subst (λ i. ecb_admitted c j i op ≡ true) same may) (λ q. apart (sym q ∙ own)) h)
  others_event s j m op a e may apart h false is = h

  others : (s : System) (j : ℕ) (o : Object) (p : ℕ) (op : Op) (r : Reply) (w : OpenWaits) (kept : Kept) → (j ≡ k → ⊥)
      → IsNext c s (entry_of j o p op r) → Knows s w kept → Knows (moved s j o op) w kept
  others s j (Ecb m) p (op_on.Ecb op) r w kept apart next h =
      subst (λ z. BlockAgrees c n z (w.armed n) (kept.extended n)) (sym (state_at_block s j m n op))
      (others_event s j m op (w.armed n) (kept.extended n) (and_parts _ _ next.admits).1 apart h (n == m) refl)
  others s j (Element m) p (op_on.Element op) r w kept apart next h = h
  others s j (Volume m) p (op_on.Volume op) r w kept apart next h = h
  others s j Latches p (op_on.Latch op) r w kept apart next h = h
  others s j o p op r w kept apart next h = absurd (false≢true next.admits)

  pub block_agrees : (es : List Entry) → Legal c es → BlockAgrees c n ((after c es).ecb n).state ((waits_from no_waits (of k es)).armed n)
      ((kept_of k (of k es)).extended n)
  block_agrees es l = known c k Knows
      (λ s e w kept same nx h. subst (λ j. Knows (moved s j e.object e.op) (waits_after w e.object e.op e.reply)
      (kept_after kept e.object e.op e.reply)) (sym same)
      (mine s e.object e.place e.op e.reply w kept (subst (λ j. IsNext c s (entry_of j e.object e.place e.op e.reply)) same nx) h))
      (λ s e w kept apart nx h. others s e.caller e.object e.place e.op e.reply w kept apart nx h)
      es l refl
