-- An element agrees with what its owner's entries say.
use Rattle.std.proofs.Common.{◌≡◌, ℕ, ◌==◌, Bool, true, false, List, cond, Some, refl, sym, ◌∙◌, subst, arith}
use Rattle.std.proofs.lemmas.Bool.{eqb-true, false≢true, and_parts}
use Rattle.mv_element.specs.declared.element.ElementState.{ElementState}
use Rattle.mv_element.specs.declared.operation.ElementOp.{ElementOp}
use Rattle.mv_element.specs.declared.operation.ElementOp.TheVariants as element_op
use Rattle.mv_element.specs.declared.operation.ElementReply.{ElementReply}
use Rattle.mv_element.specs.declared.operation.ElementReply.TheVariants as element_reply
use Rattle.mv_element.specs.Table.{element_step}
use Rattle.mv_machine.specs.declared.entry.Entry.{Entry}
use Rattle.mv_machine.specs.declared.entry.Object.{Object}
use Rattle.mv_machine.specs.declared.entry.Object.TheVariants.{Ecb, Element, Volume, Latches}
use Rattle.mv_machine.specs.declared.entry.Op.{Op}
use Rattle.mv_machine.specs.declared.entry.Op.TheVariants as op_on
use Rattle.mv_machine.specs.declared.entry.Reply.{Reply}
use Rattle.mv_machine.specs.declared.entry.Reply.TheVariants as reply_of
use Rattle.mv_machine.specs.Legal.{IsNext, Legal, next, after, of}
use Rattle.mv_config.specs.Setup.{Setup, element_owner}
use Rattle.mv_machine.specs.System.{System, advanced, moved, element_admitted}
use Rattle.mv_machine.proofs.EntryRuns.{entry_of}
use Rattle.mv_calls.specs.Keeping.{Kept, kept_after, kept_of, in_use_with, generation_after}
use Rattle.mv_calls.specs.Known.{ElementAgrees}
use Rattle.mv_calls.specs.Rest.{OpenWaits, waits_after, waits_from, no_waits, parked_with}
use Rattle.mv_calls.proofs.Folds.{either_same, known}

-- whether an element is in use after a reply on it
abbrev used_by : ElementReply → Bool → Bool
used_by (element_reply.Opened g) used = true
used_by element_reply.Closed used = false
used_by reply used = used

-- whether it is paused with after one
abbrev parked_by : ElementReply → Bool → Bool
parked_by element_reply.Parked parked = true
parked_by (element_reply.Given code next) parked = false
parked_by reply parked = parked

-- an operation of the owner
by_owner : (op : ElementOp) (x : ElementState) (u p : Bool) (g : ℕ) → ElementAgrees x u p g
    → ElementAgrees (element_step op x).0 (used_by (element_step op x).1 u) (parked_by (element_step op x).1 p)
    (generation_after g op (element_step op x).1)
by_owner element_op.Open x u p g h = grind arith
by_owner (element_op.Pause m) x u p g h = grind arith
by_owner (element_op.Resume m) x u p g h = grind arith
by_owner (element_op.Release m d) x u p g h = grind arith
by_owner (element_op.Close m) x u p g h = grind arith
by_owner element_op.Test x u p g h = h

-- one of another caller
by_other : (c : Setup) (j n : ℕ) (op : ElementOp) (x : ElementState) (u p : Bool) (g : ℕ) → element_admitted c j n op ≡ true
    → (element_owner c n ≡ j → ⊥) → ElementAgrees x u p g
    → ElementAgrees (element_step op x).0 u p g
by_other c j n op x u p g m apart h = grind arith

-- ---- the tables of what is known, at one element
-- the mark of element n after a reply on element m
in_use_at : (used : ℕ → Bool) (m n : ℕ) (r : ElementReply) → in_use_with used (Element m) (reply_of.Element r) n ≡ cond (n == m)
    (used_by r (used n)) (used n)
in_use_at used m n (element_reply.Opened g) = refl
in_use_at used m n element_reply.Closed = refl
in_use_at used m n r = sym (either_same (n == m) (used n))

-- and the other mark
parked_at : (parked : ℕ → Bool) (m n : ℕ) (r : ElementReply) → parked_with parked (Element m) (reply_of.Element r) n ≡ cond (n == m)
    (parked_by r (parked n)) (parked n)
parked_at parked m n element_reply.Parked = refl
parked_at parked m n (element_reply.Given code next) = refl
parked_at parked m n r = sym (either_same (n == m) (parked n))

-- the state of element n after an event on element m
state_at_element : (s : System) (k m n : ℕ) (op : ElementOp) → ((moved s k (Element m) (op_on.Element op)).element n).state ≡ cond (n == m)
    (element_step op (s.element m).state).0 (s.element n).state
state_at_element s k m n op = go (n == m) where
  go : (b : Bool) → (cond b (advanced (s.element m) (element_step op (s.element m).state).0) (s.element n)).state ≡ cond b
      (element_step op (s.element m).state).0 (s.element n).state
  go true = refl
  go false = refl

module _ (c : Setup) (n k : ℕ) (own : element_owner c n ≡ k) where
  -- element n agrees with what its owner keeps
  abbrev Knows : System → OpenWaits → Kept → Type 0
  Knows s w kept = ElementAgrees (s.element n).state (kept.in_use n) (w.parked n) (kept.generation n)

  own_event : (s : System) (m : ℕ) (op : ElementOp) (w : OpenWaits) (kept : Kept) → Knows s w kept → (b : Bool) → (n == m) ≡ b
      → ElementAgrees (cond b (element_step op (s.element m).state).0 (s.element n).state)
      (cond b (used_by (element_step op (s.element m).state).1 (kept.in_use n)) (kept.in_use n))
      (cond b (parked_by (element_step op (s.element m).state).1 (w.parked n)) (w.parked n))
      (cond b (generation_after (kept.generation m) op (element_step op (s.element m).state).1) (kept.generation n))
  own_event s m op w kept h true is =
      let same : m ≡ n = sym (eqb-true n m is) in
      subst (λ j. ElementAgrees (element_step op (s.element j).state).0 (used_by (element_step op (s.element j).state).1 (kept.in_use n))
      (parked_by (element_step op (s.element j).state).1 (w.parked n))
      (generation_after (kept.generation j) op (element_step op (s.element j).state).1)) (sym same)
      (by_owner op (s.element n).state (kept.in_use n) (w.parked n) (kept.generation n) h)
  own_event s m op w kept h false is = h

  mine : (s : System) (o : Object) (p : ℕ) (op : Op) (r : Reply) (w : OpenWaits) (kept : Kept) → IsNext c s (entry_of k o p op r)
      → Knows s w kept
      → Knows (moved s k o op) (waits_after w o op r) (kept_after kept o op r)
  mine s (Element m) p (op_on.Element op) r w kept next h =
      let y : ElementReply = (element_step op (s.element m).state).1 in
      let is : r ≡ reply_of.Element (element_step op (s.element m).state).1 = (let q = next.reply in cc) in
      let table : ElementAgrees ((moved s k (Element m) (op_on.Element op)).element n).state
      (in_use_with kept.in_use (Element m) (reply_of.Element (element_step op (s.element m).state).1) n)
      (parked_with w.parked (Element m) (reply_of.Element (element_step op (s.element m).state).1) n)
      (cond (n == m) (generation_after (kept.generation m) op (element_step op (s.element m).state).1) (kept.generation n)) =
      rw (
        state_at_element s k m n op,
        in_use_at kept.in_use m n (element_step op (s.element m).state).1,
        parked_at w.parked m n
            (element_step op (s.element m).state).1,
      )
      (own_event s m op w kept h (n == m) refl) in
      subst (λ z. Knows (moved s k (Element m) (op_on.Element op)) (waits_after w (Element m) (op_on.Element op) z)
      (kept_after kept (Element m) (op_on.Element op) z)) (sym is) table
  mine s (Ecb m) p (op_on.Ecb op) r w kept next h = h
  mine s (Volume m) p (op_on.Volume op) r w kept next h = volume_knows r next.reply where
    volume_knows : (z : Reply) → Some z ≡ Rattle.mv_machine.specs.System.reply_to s k (Volume m) (op_on.Volume op)
        → Knows s (waits_after w (Volume m) (op_on.Volume op) z) (kept_after kept (Volume m) (op_on.Volume op) z)
    volume_knows z e = h
  mine s Latches p (op_on.Latch op) r w kept next h = h
  mine s o p op r w kept next h = absurd (false≢true next.admits)

  others_event : (s : System) (j m : ℕ) (op : ElementOp) (u p : Bool) (g : ℕ) → element_admitted c j m op ≡ true → (j ≡ k → ⊥)
      → ElementAgrees (s.element n).state u p g → (b : Bool) → (n == m) ≡ b
      → ElementAgrees (cond b (element_step op (s.element m).state).0 (s.element n).state) u p g
  others_event s j m op u p g may apart h true is =
      let same : m ≡ n = sym (eqb-true n m is) in
      subst (λ i. ElementAgrees (element_step op (s.element i).state).0 u p g) (sym same)
      (by_other c j n op (s.element n).state u p g (subst (λ i. element_admitted c j i op ≡ true) same may) (λ q. apart (sym q ∙ own)) h)
  others_event s j m op u p g may apart h false is = h

  others : (s : System) (j : ℕ) (o : Object) (p : ℕ) (op : Op) (r : Reply) (w : OpenWaits) (kept : Kept) → (j ≡ k → ⊥)
      → IsNext c s (entry_of j o p op r) → Knows s w kept → Knows (moved s j o op) w kept
  others s j (Element m) p (op_on.Element op) r w kept apart next h =
      subst (λ z. ElementAgrees z (kept.in_use n) (w.parked n) (kept.generation n)) (sym (state_at_element s j m n op))
      (others_event s j m op (kept.in_use n) (w.parked n) (kept.generation n) (and_parts _ _ next.admits).1 apart h (n == m) refl)
  others s j (Ecb m) p (op_on.Ecb op) r w kept apart next h = h
  others s j (Volume m) p (op_on.Volume op) r w kept apart next h = h
  others s j Latches p (op_on.Latch op) r w kept apart next h = h
  others s j o p op r w kept apart next h = absurd (false≢true next.admits)

  pub element_agrees : (es : List Entry) → Legal c es → ElementAgrees ((after c es).element n).state ((kept_of k (of k es)).in_use n)
      ((waits_from no_waits (of k es)).parked n) ((kept_of k (of k es)).generation n)
  element_agrees es l = known c k Knows
      (λ s e w kept same nx h. subst (λ j. Knows (moved s j e.object e.op) (waits_after w e.object e.op e.reply)
      (kept_after kept e.object e.op e.reply)) (sym same)
      (mine s e.object e.place e.op e.reply w kept (subst (λ j. IsNext c s (entry_of j e.object e.place e.op e.reply)) same nx) h))
      (λ s e w kept apart nx h. others s e.caller e.object e.place e.op e.reply w kept apart nx h)
      es l (refl, (refl, refl))
