-- A history and the pauses of an element's owner: while the element is paused or released, its generation is that of the owner's
-- last pause, where that was answered Parked.
use Rattle.std.proofs.Common.{◌≡◌, ◌≢◌, ℕ, Bool, true, false, List, [], ◌∷◌, Option, Some, None, inl, inr, refl, sym, ap, ◌∙◌, subst, arith}
use Rattle.std.proofs.lemmas.Bool.{false≢true, eq-eqb, ne_eqb, cases_eq}
use mathlib.Core.Logic.{dite}
use native.Mathlib.Decide.{ℕ_discrete}
use Rattle.mv_element.specs.declared.element.ElementState.{ElementState}
use Rattle.mv_element.specs.declared.element.Phase.{Phase}
use Rattle.mv_element.specs.declared.element.Phase.TheVariants.{Paused, Released}
use Rattle.mv_element.specs.declared.operation.ElementOp.{ElementOp}
use Rattle.mv_element.specs.declared.operation.ElementOp.TheVariants.{Pause}
use Rattle.mv_element.specs.declared.operation.ElementReply.{ElementReply}
use Rattle.mv_element.specs.declared.operation.ElementReply.TheVariants.{Parked}
use Rattle.mv_element.specs.Table.{element_step}
use Rattle.mv_machine.specs.declared.entry.Entry.{Entry}
use Rattle.mv_machine.specs.declared.entry.Object.{Object}
use Rattle.mv_machine.specs.declared.entry.Object.TheVariants.{Ecb, Element, Volume, Latches}
use Rattle.mv_machine.specs.declared.entry.Op.{Op}
use Rattle.mv_machine.specs.declared.entry.Op.TheVariants as op_on
use Rattle.mv_machine.specs.declared.entry.Reply.{Reply}
use Rattle.mv_machine.specs.declared.entry.Reply.TheVariants as reply_of
use Rattle.mv_machine.specs.Legal.{IsNext, LegalFrom, Legal, after, after_from, next, of}
use Rattle.mv_machine.specs.Owned.{owner_at}
use Rattle.mv_config.specs.Setup.{Setup, element_owner}
use Rattle.mv_machine.specs.System.{System, Cell, opening, moved, advanced}
use Rattle.mv_machine.proofs.EntryRuns.{entry_of}
use Rattle.mv_machine.proofs.Histories.{with_at-same, with_at-other}
use Rattle.mv_machine.proofs.Owners.{made_by_owner}
use Rattle.mv_machine.proofs.Places.{of_mine, of_other}
use Rattle.mv_machine.specs.Parked.{parked_by, parked_from, parked}
use Rattle.mv_element.specs.Element.{is_released}

-- a pause is on, and may be released
abbrev is_on : Phase → Bool
is_on Paused = true
is_on Released = true
is_on x = false

-- what the last pause says of a state
abbrev AgreesWith : Option ℕ → ElementState → Type 0
AgreesWith last z = (g : ℕ) → last ≡ Some g → is_on z.phase ≡ true → z.generation ≡ g

-- ---- one event

abbrev is_pause : ElementOp → Bool
is_pause (Pause g) = true
is_pause x = false

was_on : (x : ElementOp) (z : ElementState) → is_pause x ≡ false → is_on (element_step x z).0.phase ≡ true → is_on z.phase ≡ true
was_on x z other on = grind arith

same_pause : (x : ElementOp) (z : ElementState) → is_pause x ≡ false → is_on (element_step x z).0.phase ≡ true
    → (element_step x z).0.generation ≡ z.generation
same_pause x z other on = grind arith

parks_at : (g : ℕ) (z : ElementState) → (element_step (Pause g) z).1 ≡ Parked → (element_step (Pause g) z).0.generation ≡ g
parks_at g z parks = grind arith

-- a pause
pause_tells : (n g : ℕ) (last : Option ℕ) (z : ElementState) (m : ℕ) (r : ElementReply) → (element_step (Pause g) z).1 ≡ r
    → parked_by n last (Element n) (op_on.Element (Pause g)) (reply_of.Element r) ≡ Some m → (element_step (Pause g) z).0.generation ≡ m
pause_tells n g last z m Parked is e = let last_now : Some g ≡ Some m = rw (eq-eqb n n refl) at e in parks_at g z is ∙ cc last_now
pause_tells n g last z m r is e = let none : None ≡ Some m = rw (eq-eqb n n refl) at e in absurd (cc none)

-- another operation
others_tell : (last : Option ℕ) (x : ElementOp) (z : ElementState) → is_pause x ≡ false → AgreesWith last z
    → AgreesWith last (element_step x z).0
others_tell last x z other t = λ m e on. same_pause x z other on ∙ t m e (was_on x z other on)

step_tells : (n : ℕ) (last : Option ℕ) (x : ElementOp) (z : ElementState) → AgreesWith last z
    → AgreesWith (parked_by n last (Element n) (op_on.Element x) (reply_of.Element (element_step x z).1)) (element_step x z).0
step_tells n last (Pause g) z t = λ m e on. pause_tells n g last z m (element_step (Pause g) z).1 refl e
step_tells n last x z t = others_tell last x z refl t

-- one on another element says nothing
passes : (n m : ℕ) (last : Option ℕ) (x : ElementOp) (r : Reply) → m ≢ n → parked_by n last (Element m) (op_on.Element x) r ≡ last
passes n m last (Pause g) (reply_of.Element Parked) other = rw (ne_eqb m n other) refl
passes n m last (Pause g) r other = rw (ne_eqb m n other) refl
passes n m last x r other = refl

event_tells : (c : Setup) (s : System) (n : ℕ) (last : Option ℕ) (k : ℕ) (o : Object) (p : ℕ) (op : Op) (r : Reply)
    → IsNext c s (entry_of k o p op r)
    → AgreesWith last (s.element n).state → AgreesWith (parked_by n last o op r) ((moved s k o op).element n).state
event_tells c s n last k (Element m) p (op_on.Element x) r h t = elim (cases_eq n m) [
  | inl same ↦
      let reply : reply_of.Element (element_step x (s.element n).state).1 ≡ r =
      ap (λ z. reply_of.Element (element_step x (s.element z).state).1) same ∙ cc (h.reply) in
      let state : (element_step x (s.element n).state).0 ≡ ((moved s k (Element m) (op_on.Element x)).element n).state =
      ap (λ z. (element_step x (s.element z).state).0) same
      ∙ sym (ap (λ (y : Cell ElementState). y.state)
      (with_at-same s.element m (advanced (s.element m) (element_step x (s.element m).state).0) n same)) in
      subst (λ (z : Object × Reply × ElementState). AgreesWith (parked_by n last z.0 (op_on.Element x) z.1) z.2)
      (λ i. (Element (same i), reply i, state i))
      (step_tells n last x (s.element n).state t)
  | inr other ↦
      subst (λ (z : Option ℕ × Cell ElementState). AgreesWith z.0 z.1.state)
      (λ i. (
        sym (passes n m last x r (λ z. other (sym z))) i,
        sym
            (with_at-other s.element m (advanced (s.element m) (element_step x (s.element m).state).0) n other) i,
      )) t
]
event_tells c s n last k (Ecb m) p (op_on.Ecb x) r h t = t
event_tells c s n last k (Volume m) p (op_on.Volume x) r h t = t
event_tells c s n last k Latches p (op_on.Latch x) r h t = t
event_tells c s n last k o p op r h t = absurd (false≢true h.admits)

-- none but the owner pauses it
others_pass : (c : Setup) (s : System) (n : ℕ) (last : Option ℕ) (k : ℕ) (o : Object) (p : ℕ) (op : Op) (r : Reply)
    → IsNext c s (entry_of k o p op r)
    → k ≢ element_owner c n → parked_by n last o op r ≡ last
others_pass c s n last k (Element m) p (op_on.Element (Pause g)) r h not_owner = elim (cases_eq m n) [
  | inl same ↦
      let by : owner_at c (Element m) ≡ Some k = made_by_owner c s k (Element m) p (op_on.Element (Pause g)) r h refl in
      let own : element_owner c m ≡ k = cc by in
      absurd (not_owner (sym own ∙ ap (element_owner c) same))
  | inr other ↦ passes n m last (Pause g) r other
]
others_pass c s n last k o p op r h not_owner = refl

-- ---- a history

along_tells : (c : Setup) (n k : ℕ) (s : System) (es : List Entry) (last : Option ℕ) → element_owner c n ≡ k → LegalFrom c s es
    → AgreesWith last (s.element n).state
    → AgreesWith (parked_from n last (of k es)) ((after_from s es).element n).state
along_tells c n k s [] last own l t = t
along_tells c n k s (e ∷ es) last own l t =
    let then = event_tells c s n last e.caller e.object e.place e.op e.reply l.0 t in
    dite (ℕ_discrete e.caller k)
    (λ mine. subst (λ log. AgreesWith (parked_from n last log) ((after_from (next s e) es).element n).state) (sym (of_mine k e es mine))
    (along_tells c n k (next s e) es (parked_by n last e.object e.op e.reply) own l.1 then))
    (λ other. subst (λ log. AgreesWith (parked_from n last log) ((after_from (next s e) es).element n).state) (sym (of_other k e es other))
    (along_tells c n k (next s e) es last own l.1 (subst (λ y. AgreesWith y ((next s e).element n).state)
    (others_pass c s n last e.caller e.object e.place e.op e.reply l.0 (λ z. other (z ∙ own))) then)))

released_on : (x : Phase) → is_released x ≡ true → is_on x ≡ true
released_on Paused is = refl
released_on Released is = refl
released_on x is = absurd (false≢true is)

-- a released element has the generation of the pause that parked
pub released_pause : (c : Setup) (h : List Entry) (k n g : ℕ) → Legal c h → element_owner c n ≡ k → parked n (of k h) ≡ Some g
    → is_released ((after c h).element n).state.phase ≡ true → ((after c h).element n).state.generation ≡ g
released_pause c h k n g l own parks released =
    along_tells c n k (opening c) h None own l (λ m none on. absurd (cc none)) g parks
    (released_on ((after c h).element n).state.phase released)
