-- What is taken out of a block was posted to it, in that order, whatever else happens to it. Used by in_order.
use Rattle.std.proofs.Common.{◌≡◌, ℕ, true, List, [], ◌∷◌, ◌++◌, Option, Some, None, ◌⊎◌, inl, inr, refl, sym}
use Rattle.std.proofs.Common.{subst}
use Rattle.std.proofs.lemmas.Bool.{cases_eq, eq-eqb, ne_eqb, eqb-true, false≢true, and_parts}
use Rattle.mv_wait.specs.Prelude.{EcbOp, ecb_step, Entry, Object, Ecb, Element, Volume, Latches, Op, Reply, Legal, of, Setup, owner_of}
use Rattle.mv_wait.specs.Prelude.ecb_op.{Arm, Extend, Settle, Clear, Post, Test}
use Rattle.mv_wait.specs.Word.{EcbState, Zero, Waiting, Extended, Complete}
use Rattle.mv_wait.specs.Prelude.op_on
use Rattle.mv_wait.specs.Prelude.reply_of
use Rattle.mv_wait.specs.Legal.{IsNext, LegalFrom, next}
use Rattle.mv_wait.specs.System.{System, Cell, opening, ecb_admitted}
use Rattle.mv_wait.proofs.EntryRuns.{entry_of}
use Rattle.mv_wait.proofs.Places.{of_mine, of_other}
use Rattle.mv_handover.specs.Slots.{posts, seen_by, taken_by, takes_from, takes}
use Rattle.mv_handover.proofs.Lists.{IsWithin, within_add, within_second}

-- the code that a block is complete with
abbrev held : EcbState → List ℕ
held (Complete code) = code ∷ []
held _ = []

-- the code that an operation posts
abbrev posted : EcbOp → List ℕ
posted (Post code) = code ∷ []
posted _ = []

-- what was seen still stands in the block
abbrev Sees : Option ℕ → EcbState → Type 0
Sees None x = Unit {0}
Sees (Some code) x = x ≡ Complete code

-- ---- one operation on the block

within_then : (op : EcbOp) (x : EcbState) (seen : Option ℕ) (ts ps : List ℕ) → Sees seen x → IsWithin ts (held (ecb_step op x).0 ++ ps)
    → IsWithin (taken_by op seen ++ ts) (held x ++ (posted op ++ ps))
within_then Arm Zero seen ts ps h w = w
within_then Arm Waiting seen ts ps h w = w
within_then Arm (Extended y) seen ts ps h w = w
within_then Arm (Complete d) seen ts ps h w = w
within_then (Extend y) Zero seen ts ps h w = w
within_then (Extend y) Waiting seen ts ps h w = w
within_then (Extend y) (Extended z) seen ts ps h w = w
within_then (Extend y) (Complete d) seen ts ps h w = w
within_then Settle Zero seen ts ps h w = w
within_then Settle Waiting seen ts ps h w = w
within_then Settle (Extended y) seen ts ps h w = w
within_then Settle (Complete d) seen ts ps h w = w
within_then Clear Zero None ts ps h w = w
within_then Clear Waiting None ts ps h w = w
within_then Clear (Extended y) None ts ps h w = w
within_then Clear (Complete d) None ts ps h w = within_add ts ps d w
within_then Clear (Complete d) (Some code) ts ps h w = inl (cc h, w)
within_then Clear Zero (Some code) ts ps h w = absurd (cc h)
within_then Clear Waiting (Some code) ts ps h w = absurd (cc h)
within_then Clear (Extended y) (Some code) ts ps h w = absurd (cc h)
within_then (Post d) Zero seen ts ps h w = w
within_then (Post d) Waiting seen ts ps h w = w
within_then (Post d) (Extended y) seen ts ps h w = w
within_then (Post d) (Complete e) seen ts ps h w = within_second ts ps e d w
within_then Test x seen ts ps h w = w

sees_then : (op : EcbOp) (x : EcbState) (seen : Option ℕ) → Sees seen x
    → Sees (seen_by op (reply_of.Ecb (ecb_step op x).1) seen) (ecb_step op x).0
sees_then Settle (Complete d) seen h = refl
sees_then Settle Zero seen h = h
sees_then Settle Waiting None h = tt
sees_then Settle (Extended y) seen h = h
sees_then Clear x seen h = tt
sees_then Arm Zero None h = tt
sees_then Arm Waiting seen h = h
sees_then Arm (Extended y) seen h = h
sees_then Arm (Complete d) seen h = h
sees_then (Extend y) Zero None h = tt
sees_then (Extend y) Waiting seen h = h
sees_then (Extend y) (Extended z) seen h = h
sees_then (Extend y) (Complete d) seen h = h
sees_then (Post d) Zero None h = tt
sees_then (Post d) Waiting None h = tt
sees_then (Post d) (Extended y) None h = tt
sees_then (Post d) (Complete e) seen h = h
sees_then Test x seen h = h
sees_then op x (Some code) h = absurd (cc h)

-- ---- a history

module _ (c : Setup) (n : ℕ) where
  -- what is still taken out is within what stands in the block and what is still posted
  abbrev Goes : System → Option ℕ → List Entry → Type 0
  Goes s seen es = IsWithin (takes_from n seen (of (owner_of c n) es)) (held (s.ecb n).state ++ posts n es)

  -- however much was seen
  abbrev GoesOn : System → List Entry → Type 0
  GoesOn s es = (seen : Option ℕ) → Sees seen (s.ecb n).state → Goes s seen es

  -- an entry on the block, of its owner's or of another caller's
  on_block : (s : System) (es : List Entry) (k p : ℕ) (op : EcbOp) (r : Reply)
      → IsNext c s (entry_of k (Ecb n) p (op_on.Ecb op) r)
      → GoesOn (next s (entry_of k (Ecb n) p (op_on.Ecb op) r)) es → GoesOn s (entry_of k (Ecb n) p (op_on.Ecb op) r ∷ es)
  on_block s es k p op r h rest seen sees = by_owner (cases_eq k (owner_of c n)) where
    x : EcbState
    x = (s.ecb n).state

    reply_is : r ≡ reply_of.Ecb (ecb_step op x).1
    reply_is = cc h.reply

    posts_are : (op : EcbOp) → posts n (entry_of k (Ecb n) p (op_on.Ecb op) r ∷ es) ≡ posted op ++ posts n es
    posts_are (Post d) = rw (eq-eqb n n refl) refl
    posts_are Arm = refl
    posts_are (Extend y) = refl
    posts_are Settle = refl
    posts_are Clear = refl
    posts_are Test = refl

    state_is : ((next s (entry_of k (Ecb n) p (op_on.Ecb op) r)).ecb n).state ≡ (ecb_step op x).0
    state_is = rw (eq-eqb n n refl) refl

    after : (seen : Option ℕ) → Sees seen (ecb_step op x).0
        → IsWithin (takes_from n seen (of (owner_of c n) es)) (held (ecb_step op x).0 ++ posts n es)
    after seen sees = subst
        (λ y. IsWithin (takes_from n seen (of (owner_of c n) es)) (held y ++ posts n es)) state_is
        (rest seen (subst (λ y. Sees seen y) (sym state_is) sees))

    own : IsWithin (taken_by op seen ++ takes_from n (seen_by op r seen) (of (owner_of c n) es))
        (held x ++ posts n (entry_of k (Ecb n) p (op_on.Ecb op) r ∷ es))
    own = rw (posts_are op, reply_is)
        (within_then op x seen (takes_from n (seen_by op (reply_of.Ecb (ecb_step op x).1) seen) (of (owner_of c n) es)) (posts n es) sees
        (after (seen_by op (reply_of.Ecb (ecb_step op x).1) seen) (sees_then op x seen sees)))

    takes_own : takes_from n seen (entry_of k (Ecb n) p (op_on.Ecb op) r ∷ of (owner_of c n) es)
        ≡ taken_by op seen ++ takes_from n (seen_by op r seen) (of (owner_of c n) es)
    takes_own = rw (eq-eqb n n refl) refl

    -- another caller's operation neither settles nor clears
    same_seen : (op : EcbOp) → ecb_admitted c k n op ≡ true → (k ≡ owner_of c n → ⊥) → (r : Reply)
        → (taken_by op seen ≡ []) × (seen_by op r seen ≡ seen)
    same_seen Arm a other r = (refl, refl)
    same_seen (Extend y) a other r = (refl, refl)
    same_seen Settle a other r = absurd (other (sym (eqb-true (owner_of c n) k a)))
    same_seen Clear a other r = absurd (other (sym (eqb-true (owner_of c n) k a)))
    same_seen (Post d) a other r = (refl, refl)
    same_seen Test a other r = (refl, refl)

    by_owner : (k ≡ owner_of c n) ⊎ (k ≡ owner_of c n → ⊥) → Goes s seen (entry_of k (Ecb n) p (op_on.Ecb op) r ∷ es)
    by_owner (inl mine) =
        rw (of_mine (owner_of c n) (entry_of k (Ecb n) p (op_on.Ecb op) r) es mine, takes_own) own
    by_owner (inr other) =
        let same = same_seen op (and_parts _ _ h.admits).1 other r in
        rw (of_other (owner_of c n) (entry_of k (Ecb n) p (op_on.Ecb op) r) es other)
        (subst (λ ts. IsWithin ts (held x ++ posts n (entry_of k (Ecb n) p (op_on.Ecb op) r ∷ es)))
        ((λ i. same.0 i ++ takes_from n (same.1 i) (of (owner_of c n) es))) own)

  -- an entry that is not on the block
  passes : (s : System) (es : List Entry) (e : Entry) → ((next s e).ecb n ≡ s.ecb n) → (posts n (e ∷ es) ≡ posts n es)
      → ((seen : Option ℕ) (xs : List Entry) → takes_from n seen (e ∷ xs) ≡ takes_from n seen xs)
      → GoesOn (next s e) es → GoesOn s (e ∷ es)
  passes s es e state code takes rest seen sees = by_owner (cases_eq e.caller (owner_of c n)) where
    after : IsWithin (takes_from n seen (of (owner_of c n) es)) (held (s.ecb n).state ++ posts n (e ∷ es))
    after = rw code (subst
        (λ (cell : Cell EcbState). IsWithin (takes_from n seen (of (owner_of c n) es)) (held cell.state ++ posts n es)) state
        (rest seen (subst (λ (cell : Cell EcbState). Sees seen cell.state) (sym state) sees)))

    by_owner : (e.caller ≡ owner_of c n) ⊎ (e.caller ≡ owner_of c n → ⊥) → Goes s seen (e ∷ es)
    by_owner (inl mine) = rw (of_mine (owner_of c n) e es mine, takes seen (of (owner_of c n) es)) after
    by_owner (inr other) = rw (of_other (owner_of c n) e es other) after

  step : (s : System) (es : List Entry) (k : ℕ) (o : Object) (p : ℕ) (op : Op) (r : Reply) → IsNext c s (entry_of k o p op r)
      → GoesOn (next s (entry_of k o p op r)) es → GoesOn s (entry_of k o p op r ∷ es)
  step s es k (Ecb m) p (op_on.Ecb op) r h rest = by_block (cases_eq m n) where
    by_block : (m ≡ n) ⊎ (m ≡ n → ⊥) → GoesOn s (entry_of k (Ecb m) p (op_on.Ecb op) r ∷ es)
    by_block (inl same) =
        subst (λ b. IsNext c s (entry_of k (Ecb b) p (op_on.Ecb op) r) → GoesOn (next s (entry_of k (Ecb b) p (op_on.Ecb op) r)) es
        → GoesOn s (entry_of k (Ecb b) p (op_on.Ecb op) r ∷ es)) (sym same) (on_block s es k p op r) h rest
    by_block (inr other) =
        passes s es (entry_of k (Ecb m) p (op_on.Ecb op) r) (rw (ne_eqb n m (λ q. other (sym q))) refl) (elsewhere op)
        (λ seen xs. rw (ne_eqb m n other) refl) rest where
          elsewhere : (op : EcbOp) → posts n (entry_of k (Ecb m) p (op_on.Ecb op) r ∷ es) ≡ posts n es
          elsewhere (Post d) = rw (ne_eqb m n other) refl
          elsewhere Arm = refl
          elsewhere (Extend y) = refl
          elsewhere Settle = refl
          elsewhere Clear = refl
          elsewhere Test = refl
  step s es k (Element m) p (op_on.Element op) r h rest =
      passes s es (entry_of k (Element m) p (op_on.Element op) r) refl refl (λ seen xs. refl) rest
  step s es k (Volume m) p (op_on.Volume op) r h rest =
      passes s es (entry_of k (Volume m) p (op_on.Volume op) r) refl refl (λ seen xs. refl) rest
  step s es k Latches p (op_on.Latch op) r h rest = passes s es (entry_of k Latches p (op_on.Latch op) r) refl refl (λ seen xs. refl) rest
  step s es k o p op r h rest = absurd (false≢true h.admits)

  goes_on : (s : System) (es : List Entry) → LegalFrom c s es → GoesOn s es
  goes_on s [] l = λ seen sees. tt
  goes_on s (e ∷ es) l = step s es e.caller e.object e.place e.op e.reply l.0 (goes_on (next s e) es l.1)

  -- in a legal history what the owner takes out was posted
  pub taken_were_posted : (es : List Entry) → Legal c es → IsWithin (takes n (of (owner_of c n) es)) (posts n es)
  taken_were_posted es l = goes_on (opening c) es l None tt
