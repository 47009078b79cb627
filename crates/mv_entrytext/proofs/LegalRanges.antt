-- The entries of a legal list are in their ranges.
use Rattle.std.proofs.Common.{◌≡◌, ℕ, ◌^◌, ◌≤◌, true, false, cond, eqb, ltb, ◌&&◌, List, [], ◌∷◌, length, sym, subst, arith}
use Rattle.std.specs.Prelude.{All}
use Rattle.std.specs.List.{AllByRecursion}
use Rattle.std.proofs.lemmas.List.Elements.{All-from_recursion, recursion_from_All}
use Rattle.std.proofs.lemmas.Bool.{and_parts, ltb-true, false≢true}
use Rattle.mv_ecb.specs.declared.operation.EcbOp.{EcbOp}
use Rattle.mv_ecb.specs.declared.operation.EcbOp.TheVariants as ecb_op_of
use Rattle.mv_ecb.specs.declared.operation.EcbReply.{EcbReply}
use Rattle.mv_ecb.specs.Word.{EcbState, Zero, Waiting, Extended, Complete}
use Rattle.mv_ecb.specs.Table.{ecb_step}
use Rattle.mv_element.specs.declared.element.ElementState.{ElementState}
use Rattle.mv_element.specs.declared.operation.ElementOp.{ElementOp}
use Rattle.mv_element.specs.declared.operation.ElementOp.TheVariants as element_op_of
use Rattle.mv_element.specs.declared.operation.ElementReply.{ElementReply}
use Rattle.mv_element.specs.Table.{element_step}
use Rattle.mv_machine.specs.declared.entry.Object.{Object}
use Rattle.mv_machine.specs.declared.entry.Object.TheVariants.{Ecb, Element, Volume, Latches}
use Rattle.mv_machine.specs.declared.entry.Op.{Op}
use Rattle.mv_machine.specs.declared.entry.Op.TheVariants as op_on
use Rattle.mv_machine.specs.declared.entry.Reply.{Reply}
use Rattle.mv_machine.specs.declared.entry.Reply.TheVariants as reply_of
use Rattle.mv_machine.specs.declared.entry.Entry.{Entry}
use Rattle.mv_config.specs.Setup.{Setup, element_count}
use Rattle.mv_machine.specs.System.{System, Cell, opening, ecb_admitted, element_admitted, advanced, with_at}
use Rattle.mv_machine.specs.Legal.{IsNext, next, after_from, LegalFrom, Legal}
use Rattle.mv_machine.specs.Elements.{FitsItsPlace}
use Rattle.mv_config.specs.Check.{IsValid}
use Rattle.mv_config.specs.Limits.{highest_place}
use Rattle.mv_machine.proofs.ElementRuns.{generation_fits}
use Rattle.mv_entrytext.specs.Fault.{HasJournal}
use Rattle.mv_operationtext.specs.Ranges.{highest_u32, highest_ecb_code, highest_release_code}
use Rattle.mv_operationtext.specs.EcbText.{IsEcbOpInRange, IsEcbReplyInRange}
use Rattle.mv_operationtext.specs.ElementText.{IsElementOpInRange, IsElementReplyInRange}
use Rattle.mv_operationtext.specs.EntryText.{IsEventInRange, IsInRange, IsTyped, entry_of}

-- ---- event control blocks

abbrev pub IsEcbBound : EcbState → Type 0
IsEcbBound Zero = Unit {0}
IsEcbBound Waiting = Unit {0}
IsEcbBound (Extended y) = (1 ≤ y) × (y ≤ highest_ecb_code)
IsEcbBound (Complete d) = d ≤ highest_ecb_code

ecb_op_fits : (c : Setup) (k n : ℕ) (op : EcbOp) → ecb_admitted c k n op ≡ true → IsEcbOpInRange op
ecb_op_fits c k n ecb_op_of.Arm h = tt
ecb_op_fits c k n (ecb_op_of.Extend x) h = (grind arith, grind arith)
ecb_op_fits c k n ecb_op_of.Settle h = tt
ecb_op_fits c k n ecb_op_of.Clear h = tt
ecb_op_fits c k n (ecb_op_of.Post d) h = omega (arith, ltb-true d (2 ^ 30) h)
ecb_op_fits c k n ecb_op_of.Test h = tt

ecb_fits : (op : EcbOp) (s : EcbState) → IsEcbOpInRange op → IsEcbBound s
    → IsEcbBound (ecb_step op s).0 × IsEcbReplyInRange (ecb_step op s).1
ecb_fits op s o b = (grind arith, grind arith)

-- ---- pause elements

element_op_fits : (c : Setup) (k n : ℕ) (op : ElementOp) → element_admitted c k n op ≡ true → IsElementOpInRange op
element_op_fits c k n element_op_of.Open h = tt
element_op_fits c k n (element_op_of.Pause g) h = tt
element_op_fits c k n (element_op_of.Resume g) h = tt
element_op_fits c k n (element_op_of.Release g d) h = omega (arith, ltb-true d (2 ^ 24) h)
element_op_fits c k n (element_op_of.Close g) h = tt
element_op_fits c k n element_op_of.Test h = tt

code_fits : (op : ElementOp) (s : ElementState) → IsElementOpInRange op → s.code ≤ highest_release_code
    → (element_step op s).0.code ≤ highest_release_code
code_fits op s o b = grind arith

element_fits : (op : ElementOp) (s : ElementState) (place : ℕ) → IsElementOpInRange op → s.code ≤ highest_release_code
    → FitsItsPlace (record { place = place; state = s }) → place ≤ highest_place → IsElementReplyInRange (element_step op s).1
element_fits op s place o b f le = grind arith

-- ---- along a legal list

pub record Bounds (s : System) : Type 0 where
  pub ecb : (n : ℕ) → IsEcbBound (s.ecb n).state
  pub element : (n : ℕ) → (s.element n).state.code ≤ highest_release_code

ecb_row : (c : Setup) (s : System) (k n p : ℕ) (op : EcbOp) (r : EcbReply)
    → IsNext c s (entry_of k (Ecb n) p (op_on.Ecb op) (reply_of.Ecb r)) → Bounds s → IsEcbOpInRange op × IsEcbReplyInRange r
ecb_row c s k n p op r h b =
    let fits = ecb_op_fits c k n op (and_parts (ltb k c.callers && ltb n (length c.owners)) (ecb_admitted c k n op) h.admits).1 in
    let is : r ≡ (ecb_step op (s.ecb n).state).1 = cc h.reply in
    (fits, subst (λ (x : EcbReply). IsEcbReplyInRange x) (sym is) (ecb_fits op (s.ecb n).state fits (b.ecb n)).1)

element_row : (c : Setup) (s : System) (k n p : ℕ) (op : ElementOp) (r : ElementReply)
    → IsNext c s (entry_of k (Element n) p (op_on.Element op) (reply_of.Element r)) → Bounds s → FitsItsPlace (s.element n)
    → p ≤ highest_place
    → IsElementOpInRange op × IsElementReplyInRange r
element_row c s k n p op r h b f le =
    let fits = element_op_fits c k n op (and_parts (ltb k c.callers && ltb n (element_count c)) (element_admitted c k n op) h.admits).1 in
    let is : r ≡ (element_step op (s.element n).state).1 = cc h.reply in
    let here : p ≡ (s.element n).place = h.place in (
      fits,
      subst (λ (x : ElementReply). IsElementReplyInRange x) (sym is)
          (element_fits op (s.element n).state (s.element n).place fits (b.element n) f (omega arith)),
    )

event_fits : (c : Setup) (s : System) (k : ℕ) (o : Object) (p : ℕ) (op : Op) (r : Reply) → IsNext c s (entry_of k o p op r) → Bounds s
    → ((n : ℕ) → FitsItsPlace (s.element n)) → p ≤ highest_place → IsEventInRange o op r
event_fits c s k (Ecb n) p (op_on.Ecb op) (reply_of.Ecb r) h b f le = ecb_row c s k n p op r h b
event_fits c s k (Element n) p (op_on.Element op) (reply_of.Element r) h b f le = element_row c s k n p op r h b (f n) le
event_fits c s k (Volume n) p (op_on.Volume op) (reply_of.Volume r) h b f le = tt
event_fits c s k Latches p (op_on.Latch op) (reply_of.Latch r) h b f le = tt
event_fits c s k (Ecb n) p (op_on.Ecb op) r h b f le = absurd (cc h.reply)
event_fits c s k (Element n) p (op_on.Element op) r h b f le = absurd (cc h.reply)
event_fits c s k (Volume n) p (op_on.Volume op) r h b f le = absurd (cc h.reply)
event_fits c s k Latches p (op_on.Latch op) r h b f le = absurd (cc h.reply)
event_fits c s k o p op r h b f le = absurd (false≢true h.admits)

at_each : {A : Type 0} (P : A → Type 0) (f : ℕ → A) (n : ℕ) (a : A) → P a → ((m : ℕ) → P (f m)) → (m : ℕ) → P (with_at f n a m)
at_each P f n a here there m = elim (eqb m n) as (λ b. P (cond b a (f m))) [ true ↦ here | false ↦ there m ]

bounds_next : (c : Setup) (s : System) (k : ℕ) (o : Object) (p : ℕ) (op : Op) (r : Reply) → IsNext c s (entry_of k o p op r) → Bounds s
    → Bounds (next s (entry_of k o p op r))
bounds_next c s k (Ecb n) p (op_on.Ecb op) r h b =
    let fits = ecb_op_fits c k n op (and_parts (ltb k c.callers && ltb n (length c.owners)) (ecb_admitted c k n op) h.admits).1 in
    record {
      ecb =
          at_each (λ (x : Cell EcbState). IsEcbBound x.state) s.ecb n (advanced (s.ecb n) (ecb_step op (s.ecb n).state).0)
          (ecb_fits op (s.ecb n).state fits (b.ecb n)).0 b.ecb;
      element = b.element;
    }
bounds_next c s k (Element n) p (op_on.Element op) r h b =
    let fits = element_op_fits c k n op (and_parts (ltb k c.callers && ltb n (element_count c)) (element_admitted c k n op) h.admits).1 in
    record {
      ecb = b.ecb;
      element =
          at_each (λ (x : Cell ElementState). x.state.code ≤ highest_release_code) s.element n
          (advanced (s.element n) (element_step op (s.element n).state).0) (code_fits op (s.element n).state fits (b.element n))
          b.element;
    }
bounds_next c s k (Volume n) p (op_on.Volume op) r h b = record { ecb = b.ecb; element = b.element }
bounds_next c s k Latches p (op_on.Latch op) r h b = record { ecb = b.ecb; element = b.element }
bounds_next c s k o p op r h b = absurd (false≢true h.admits)

-- whatever legal list follows, generations fit their places
abbrev pub KeepFitting : Setup → System → Type 0
KeepFitting c s = (es : List Entry) (n : ℕ) → LegalFrom c s es → FitsItsPlace ((after_from s es).element n)

abbrev pub HaveLowPlaces : List Entry → Type 0
HaveLowPlaces es = AllByRecursion (λ e. e.place ≤ highest_place) es

fits_from : (c : Setup) (s : System) (es : List Entry) → LegalFrom c s es → HaveLowPlaces es → Bounds s → KeepFitting c s
    → AllByRecursion IsInRange es
fits_from c s [] l p b k = tt
fits_from c s (e ∷ es) l p b k = (
  record { place = p.0; event = event_fits c s e.caller e.object e.place e.op e.reply l.0 b (λ n. k [] n tt) p.0 },
  fits_from c (next s e) es l.1 p.1 (bounds_next c s e.caller e.object e.place e.op e.reply l.0 b) (λ fs n m. k (e ∷ fs) n (l.0, m)),
)

legal_fits : (c : Setup) (es : List Entry) → Legal c es → HaveLowPlaces es → KeepFitting c (opening c) → AllByRecursion IsInRange es
legal_fits c es l p k = fits_from c (opening c) es l p (record { ecb = λ n. tt; element = λ n. omega arith }) k

pub legal_in_range : (c : Setup) (es : List Entry) → Legal c es → All (λ e. e.place ≤ highest_place) es → All IsInRange es
legal_in_range c es l p =
    All-from_recursion IsInRange es
    (legal_fits c es l (recursion_from_All (λ e. e.place ≤ highest_place) es p) (λ fs n m. generation_fits c fs n m))

pub legal_journal : (c : Setup) (es : List Entry) → IsValid c → Legal c es → All (λ e. e.place ≤ highest_place) es → All IsTyped es
    → length es ≤ highest_u32 → HasJournal c es
legal_journal c es v l p t n = record { valid = v; each = λ k d lt. (legal_in_range c es l p k d lt, t k d lt); count = n }
