-- While a caller holds a latch, what it read of a volume that every caller guards by the latch is what the volume has. By the law of critical
-- sections.
use Rattle.std.proofs.Common.{◌≡◌, ℕ, ◌==◌, ◌&&◌, Bool, true, false, List, [], ◌∷◌, ◌++◌, inl, inr, refl, sym, ap, ◌∙◌, subst}
use Rattle.std.proofs.Common.{append_assoc}
use Rattle.std.specs.List.{AllByRecursion}
use Rattle.std.proofs.lemmas.Bool.{cases_eq, ne_eqb, false≢true}
use Rattle.std.proofs.lemmas.List.{append-nil}
use Rattle.mv_latch.specs.declared.operation.LatchOp.TheVariants.{Release, Purge}
use Rattle.mv_latch.specs.declared.request.Mode.{Mode}
use Rattle.mv_latch.specs.declared.request.Mode.TheVariants.{Exclusive}
use Rattle.mv_machine.specs.declared.entry.Entry.{Entry}
use Rattle.mv_machine.specs.declared.entry.Object.{Object}
use Rattle.mv_machine.specs.declared.entry.Object.TheVariants.{Volume, Latches}
use Rattle.mv_machine.specs.declared.entry.Op.{Op}
use Rattle.mv_machine.specs.declared.entry.Op.TheVariants as op_on
use Rattle.mv_machine.specs.Kept.{StandingRequest}
use Rattle.mv_machine.specs.Leaving.{takes_out, NoneTakesOut}
use Rattle.mv_machine.specs.Legal.{Legal, of}
use Rattle.mv_config.specs.Setup.{Setup}
use Rattle.mv_machine.specs.System.{opening}
use Rattle.mv_machine.proofs.Histories.{LegalFrom-front}
use Rattle.mv_machine.proofs.Places.{of_mine, of_other}
use Rattle.mv_calls.specs.Sections.{HasGrant, IsHolder, IsSection, IsGuarded, AreOwn, is_write}
use Rattle.mv_calls.proofs.Sections.{section_is_own, one_holder}
use Rattle.mv_guarded.specs.Guarded.{HoldsLatch, KeepsLatch, AreInside, IsGuarding, GuardsVolume, HasRead, IsOnlyWriter, IsUnwritten, value}
use Rattle.mv_guarded.proofs.Rules.{all_split, entry_keeps, Place, placed}
use Rattle.mv_guarded.proofs.Volumes.{stays_same, write_of, read_is_value}

and_never : (a b : Bool) → (a && (b && false)) ≡ false
and_never true true = refl
and_never true false = refl
and_never false b = refl

abbrev NoPurge : Object → Op → Type 0
NoPurge o op = (r : ℕ) → o ≡ Latches → op ≡ op_on.Latch (Purge r) → ⊥

-- another caller that purges no requestor takes out no request
keeps_out : (t : StandingRequest) (k : ℕ) (o : Object) (op : Op) → (k ≡ t.request.caller → ⊥) → NoPurge o op → takes_out t k o op ≡ false
keeps_out t k Latches (op_on.Latch (Release latch id conditional)) other none =
    ap (λ b. (latch == t.latch) && ((id == t.request.id) && b)) (ne_eqb k t.request.caller other)
    ∙ and_never (latch == t.latch) (id == t.request.id)
keeps_out t k Latches (op_on.Latch (Purge r)) other none = absurd (none r refl refl)
keeps_out t k o op other none = refl

-- nor does its own caller, unless it releases the latch
keeps_inside : (t : StandingRequest) (k : ℕ) (o : Object) (op : Op) → KeepsLatch t.latch op → NoPurge o op → takes_out t k o op ≡ false
keeps_inside t k Latches (op_on.Latch (Release latch id conditional)) inside none =
    ap (λ b. b && ((id == t.request.id) && (k == t.request.caller))) (ne_eqb latch t.latch inside)
keeps_inside t k Latches (op_on.Latch (Purge r)) inside none = absurd (none r refl refl)
keeps_inside t k o op inside none = refl

guarding_purges_none : (latch n k : ℕ) (log : List Entry) (o : Object) (op : Op) → IsGuarding latch n k log o op → NoPurge o op
guarding_purges_none latch n k log o op may r at is = subst (IsGuarding latch n k log o) is may

-- entries that purge no requestor, and among which its caller does not release its latch, do not take out this request
none_takes_out : (t : StandingRequest) (k : ℕ) → t.request.caller ≡ k → (es : List Entry)
    → AllByRecursion (λ e. NoPurge e.object e.op) es → AreInside t.latch (of k es) → NoneTakesOut t es
none_takes_out t k mine [] purges own = tt
none_takes_out t k mine (e ∷ es) purges own = elim (cases_eq e.caller k) [
  | inl is ↦
      let both : AreInside t.latch (e ∷ of k es) = subst (AreInside t.latch) (of_mine k e es is) own in
      (keeps_inside t e.caller e.object e.op both.0 purges.0, none_takes_out t k mine es purges.1 both.1)
  | inr other ↦ (
    keeps_out t e.caller e.object e.op (λ same. other (same ∙ mine)) purges.0,
    none_takes_out t k mine es purges.1 (subst (AreInside t.latch) (of_other k e es other) own),
  )
]

-- if all writes of a volume are one caller's
only_its_own : (k n : ℕ) (t : StandingRequest) (es : List Entry) → AreOwn is_write (Volume n) k t es → IsOnlyWriter k n es
only_its_own k n t [] all = tt
only_its_own k n t (e ∷ es) all = ((λ at write. (all.0 at write).0), only_its_own k n t es all.1)

-- and that caller's entries do not write it, no entry does
none_written : (k n : ℕ) (es : List Entry) → IsOnlyWriter k n es → IsUnwritten n (of k es) → IsUnwritten n es
none_written k n [] all own = tt
none_written k n (e ∷ es) all own = elim (cases_eq e.caller k) [
  | inl is ↦
      let both : IsUnwritten n (e ∷ of k es) = subst (IsUnwritten n) (of_mine k e es is) own in
      (both.0, none_written k n es all.1 both.1)
  | inr other ↦ (
    (λ at write. other (all.0 at write)),
    none_written k n es all.1 (subst (IsUnwritten n) (of_other k e es other) own),
  )
]

module _ (c : Setup) (es : List Entry) (latch n : ℕ) (g : GuardsVolume c es latch n) where
  may : (front : List Entry) (e : Entry) (later : List Entry) → es ≡ front ++ e ∷ later
      → IsGuarding latch n e.caller (of e.caller front) e.object e.op
  may = entry_keeps (IsGuarding latch n) c es g.legal g.guards

  purges_none : (front : List Entry) (e : Entry) (later : List Entry) → es ≡ front ++ e ∷ later → NoPurge e.object e.op
  purges_none front e later is =
      guarding_purges_none latch n e.caller (of e.caller front) e.object e.op (may front e later is)

  grant_holds : (before later : List Entry) (k : ℕ) (t : StandingRequest) → es ≡ before ++ later → HasGrant t (of k before)
      → IsHolder k t before
  grant_holds before later k t is granted = record {
    granted = granted;
    kept = λ w. purges_none w.before w.purge (w.later ++ later)
        (is ∙ ap (λ xs. xs ++ later) w.split ∙ append_assoc w.before (w.purge ∷ w.later) later) t.request.requestor w.object w.op;
  }

  legal_front : (before later : List Entry) → es ≡ before ++ later → Legal c before
  legal_front before later is = LegalFrom-front c (opening c) before later (subst (Legal c) is g.legal)

  guarded_front : (front later : List Entry) → es ≡ front ++ later → IsGuarded is_write latch (Volume n) front
  guarded_front front later is = λ before rest e split at write.
      let all : es ≡ before ++ e ∷ (rest ++ later) =
      is ∙ ap (λ xs. xs ++ later) split ∙ append_assoc before (e ∷ rest) later in
      let h : HoldsLatch latch Exclusive e.caller (of e.caller before) =
      subst (IsGuarding latch n e.caller (of e.caller before) e.object) (write_of e.op write).1 (may before e (rest ++ later) all) at in
      record {
        request = h.request;
        here = h.here;
        exclusive = h.mode;
        holder = grant_holds before (e ∷ (rest ++ later)) e.caller h.request all h.granted;
      }

  module _ (start inside later : List Entry) (k : ℕ) (asked : Mode) (is : es ≡ start ++ (inside ++ later))
      (holds : HoldsLatch latch asked k (of k start)) (own : AreInside latch (of k inside)) where
    is_inside : es ≡ (start ++ inside) ++ later
    is_inside = is ∙ sym (append_assoc start inside later)

    section : IsSection k holds.request start inside
    section = record {
      entered = grant_holds start (inside ++ later) k holds.request is holds.granted;
      stays = none_takes_out holds.request k holds.mine inside
          (all_split (λ e. NoPurge e.object e.op) start inside later (λ front e rest split. purges_none front e rest (is ∙ split)))
          (subst (λ m. AreInside m (of k inside)) (sym holds.here) own);
    }

    only_mine : IsOnlyWriter k n inside
    only_mine = only_its_own k n holds.request inside
        (section_is_own c k holds.request is_write (Volume n) start inside (legal_front (start ++ inside) later is_inside) section
        (subst (λ m. IsGuarded is_write m (Volume n) (start ++ inside)) (sym holds.here)
        (guarded_front (start ++ inside) later is_inside)))

    value_stays : IsUnwritten n (of k inside) → value c (start ++ inside) n ≡ value c start n
    value_stays none =
        stays_same c n start inside (legal_front (start ++ inside) later is_inside) (none_written k n inside only_mine none)

  value_is_read : (before later : List Entry) (k x : ℕ) → es ≡ before ++ later → HasRead latch n k x (of k before) → value c before n ≡ x
  value_is_read before later k x is r =
      ap (λ xs. value c xs n) p.split
      ∙ value_stays p.before (r.entry ∷ p.later) later k r.asked all (subst (HoldsLatch latch r.asked k) (sym p.own) r.holds)
      (subst (AreInside latch) (sym inside) (subst (KeepsLatch latch) (sym r.reads.op) tt, r.inside))
      (subst (IsUnwritten n) (sym inside) ((λ at write. false≢true (sym (ap is_write r.reads.op) ∙ write)), r.unwritten))
      ∙ sym (read_is_value c p.before r.entry p.later n x (subst (Legal c) p.split (legal_front before later is)) r.reads) where
        p : Place k before r.before r.entry r.since
        p = placed k before r.before r.entry r.since r.split

        all : es ≡ p.before ++ ((r.entry ∷ p.later) ++ later)
        all = is ∙ ap (λ xs. xs ++ later) p.split ∙ append_assoc p.before (r.entry ∷ p.later) later

        inside : of k (r.entry ∷ p.later) ≡ r.entry ∷ r.since
        inside = of_mine k r.entry p.later p.mine ∙ ap (λ xs. r.entry ∷ xs) p.others

-- ---- the law's clauses

pub grants : (c : Setup) (es before later : List Entry) (latch n k : ℕ) (t : StandingRequest) → GuardsVolume c es latch n
    → es ≡ before ++ later → HasGrant t (of k before) → IsHolder k t before
grants c es before later latch n k t g is granted = grant_holds c es latch n g before later k t is granted

pub guarded : (c : Setup) (es : List Entry) (latch n : ℕ) → GuardsVolume c es latch n → IsGuarded is_write latch (Volume n) es
guarded c es latch n g = guarded_front c es latch n g es [] (sym (append-nil es))

pub undisturbed : (c : Setup) (es start inside later : List Entry) (latch n k : ℕ) (asked : Mode) → GuardsVolume c es latch n
    → es ≡ start ++ (inside ++ later) → HoldsLatch latch asked k (of k start) → AreInside latch (of k inside) → IsOnlyWriter k n inside
undisturbed c es start inside later latch n k asked g is holds own = only_mine c es latch n g start inside later k asked is holds own

pub stays : (c : Setup) (es start inside later : List Entry) (latch n k : ℕ) (asked : Mode) → GuardsVolume c es latch n
    → es ≡ start ++ (inside ++ later) → HoldsLatch latch asked k (of k start) → AreInside latch (of k inside) → IsUnwritten n (of k inside)
    → value c (start ++ inside) n ≡ value c start n
stays c es start inside later latch n k asked g is holds own none =
    value_stays c es latch n g start inside later k asked is holds own none

pub value_read : (c : Setup) (es before later : List Entry) (latch n k x : ℕ) → GuardsVolume c es latch n → es ≡ before ++ later
    → HasRead latch n k x (of k before) → value c before n ≡ x
value_read c es before later latch n k x g is r = value_is_read c es latch n g before later k x is r

-- ---- two holders

-- two callers that hold the latch by their own logs, one of them alone, are the same caller
pub same_holder : (c : Setup) (es before later : List Entry) (latch n j k : ℕ) (asked : Mode) → GuardsVolume c es latch n
    → es ≡ before ++ later → HoldsLatch latch Exclusive j (of j before) → HoldsLatch latch asked k (of k before) → j ≡ k
same_holder c es before later latch n j k asked g is alone h =
    (one_holder c j k alone.request h.request before (legal_front c es latch n g before later is)
    (grants c es before later latch n j alone.request g is alone.granted) (grants c es before later latch n k h.request g is h.granted)
    (alone.here ∙ sym h.here) alone.mode).0
