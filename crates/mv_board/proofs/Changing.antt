-- What an operation makes of a word.
use Rattle.std.proofs.Common.{◌≡◌, ◌≤◌, ◌<◌, ℕ, ◌+◌, ◌*◌, ◌^◌, Bool, true, false, Option, Some, None, List, refl, sym, ap, ◌∙◌, subst}
use Rattle.std.proofs.Common.{arith}
use Rattle.std.specs.Prelude.{option_map}
use Rattle.std.proofs.lemmas.Bool.{false≢true}
use Rattle.std.proofs.lemmas.Bool.Decides.{nat_tests}
use Rattle.mv_element.specs.declared.element.ElementState.{ElementState}
use Rattle.mv_element.specs.declared.operation.ElementOp.{ElementOp}
use Rattle.mv_element.specs.Table.{IsElementOp, element_step}
use Rattle.mv_machine.specs.declared.entry.Entry.{Entry}
use Rattle.mv_machine.specs.declared.entry.Object.{Object}
use Rattle.mv_machine.specs.declared.entry.Object.TheVariants.{Ecb, Element, Volume, Latches}
use Rattle.mv_machine.specs.declared.entry.Op.{Op}
use Rattle.mv_machine.specs.declared.entry.Op.TheVariants as op_on
use Rattle.mv_machine.specs.declared.entry.Reply.{Reply}
use Rattle.mv_machine.specs.declared.packing.WordState.{WordState}
use Rattle.mv_machine.specs.declared.packing.WordState.TheVariants as state
use Rattle.mv_machine.specs.Elements.{extra, only_if}
use Rattle.mv_machine.specs.Kept.{allowed}
use Rattle.mv_config.specs.Limits.{events_limit}
use Rattle.mv_machine.specs.Packing.{HasFields, HasOpFields, unpack, state_step, reply_in}
use Rattle.mv_config.specs.Setup.{Setup}
use Rattle.mv_machine.specs.System.{opening}
use Rattle.mv_machine.proofs.ElementRuns.{fits_next}
use Rattle.mv_machine.proofs.WordSteps.{fields_admitted}
use Rattle.mv_board.specs.Steps.{Meets}
use Rattle.mv_board.specs.View.{own}
use Rattle.mv_board.specs.declared.view.View.{View}
use Rattle.mv_board.specs.Words.{HasWord, fits, changed, test_of}
use Rattle.mv_board.proofs.Events.{changed_parts, changed_is}

-- ---- the numbers of an operation

pub fields_allowed : (c : Setup) (k : ℕ) (log : List Entry) (o : Object) (op : Op) → HasWord c o → allowed c k log o op ≡ true
    → HasOpFields op
fields_allowed c k log (Ecb n) op has a = fields_admitted c (opening c) k (Ecb n) op a
fields_allowed c k log (Element n) op has a = fields_admitted c (opening c) k (Element n) op a
fields_allowed c k log (Volume n) op has a = fields_admitted c (opening c) k (Volume n) op a
fields_allowed c k log Latches op has a = absurd has

pub test_fields : (o : Object) → HasOpFields (test_of o)
test_fields (Ecb n) = tt
test_fields (Element n) = tt
test_fields (Volume n) = tt
test_fields Latches = tt

-- ---- the state after it can be packed

code_kept : (op : ElementOp) (s : ElementState) → IsElementOp op → s.code < 2 ^ 24 → (element_step op s).0.code < 2 ^ 24
code_kept op s a b = grind arith

stepped : (r s : WordState × Reply) → Some r ≡ Some s → HasFields r.0 → HasFields s.0
stepped r s e h = let same : r ≡ s = cc e in subst (λ (z : WordState × Reply). HasFields z.0) same h

-- two events at least went into each generation, so that its number stays small
pub next_fields : (op : Op) (s next : WordState) (reply : Reply) (place : ℕ) → HasOpFields op → HasFields s → fits place s ≡ true
    → place < events_limit → state_step op s ≡ Some (next, reply) → HasFields next
next_fields (op_on.Element op) (state.Element s) next reply place has fields fit low e =
    let now : 2 * s.generation + extra s.phase ≤ place = grind (arith, nat_tests) in
    let f = fits_next (record { place = place; state = s }) op now in
    stepped _ (next, reply) e (omega arith, code_kept op s has fields.1)
next_fields (op_on.Ecb op) (state.Ecb s) next reply place has fields fit low e = stepped _ (next, reply) e tt
next_fields (op_on.Volume op) (state.Volume s) next reply place has fields fit low e = stepped _ (next, reply) e tt
next_fields op s next reply place has fields fit low e = absurd (cc e)

-- ---- what it read of the word

parts_of : (o : Object) (op : Op) (w place next : ℕ) (reply : Reply) (found : Option (ℕ × WordState)) → unpack o w ≡ found
    → changed o op w ≡ Some (place, next, reply) → (s : WordState) × (unpack o w ≡ Some (place, s)) × (reply_in op s ≡ Some reply)
parts_of o op w place next reply None is e = absurd (cc (rw is at e))
parts_of o op w place next reply (Some x) is e =
    let h = changed_parts o op w x.0 x.1 place next reply is e in
    (x.1, is ∙ ap (λ q. Some (q, x.1)) (sym h.0), ap (option_map (λ r. r.1)) h.1.steps)

-- the place before it, and its reply, are those of the word
pub read_parts : (o : Object) (op : Op) (w place next : ℕ) (reply : Reply) → changed o op w ≡ Some (place, next, reply)
    → (s : WordState) × (unpack o w ≡ Some (place, s)) × (reply_in op s ≡ Some reply)
read_parts o op w place next reply e = parts_of o op w place next reply (unpack o w) refl e

-- ---- a word that is met is one that an operation changes

found_in : (p place : ℕ) (found : Option WordState) (s : WordState)
    → option_map {U = ℕ × WordState} (λ t. (p, t)) found ≡ Some (place, s) → found ≡ Some s
found_in p place None s e = absurd (cc e)
found_in p place (Some t) s e =
    let a : ℕ × WordState = (p, t) in
    let b : ℕ × WordState = (place, s) in
    let same : a ≡ b = cc e in
    ap (λ (z : ℕ × WordState). Some z.1) same

alone : (fine : Bool) (t s : WordState) → only_if fine t ≡ Some s → t ≡ s
alone true t s e = cc e
alone false t s e = absurd (cc e)

element_alone : (found : Option ElementState) (s : WordState) → option_map (λ t. state.Element t) found ≡ Some s
    → (t : ElementState) × (state.Element t ≡ s)
element_alone None s e = absurd (cc e)
element_alone (Some t) s e = (t, cc e)

abbrev HasAnswer : Op → WordState → Type 0
HasAnswer op s = (r : WordState × Reply) × (state_step op s ≡ Some r)

-- an operation of the object's kind has an answer for each of its states
answers : (c : Setup) (k : ℕ) (log : List Entry) (o : Object) (op : Op) (w place : ℕ) (s : WordState) → HasWord c o
    → allowed c k log o op ≡ true → unpack o w ≡ Some (place, s) → HasAnswer op s
answers c k log (Ecb n) (op_on.Ecb op) w place s has may is =
    subst (HasAnswer (op_on.Ecb op)) (alone _ _ s (found_in _ place _ s is)) (_, refl)
answers c k log (Element n) (op_on.Element op) w place s has may is =
    subst (HasAnswer (op_on.Element op)) (element_alone _ s (found_in _ place _ s is)).1 (_, refl)
answers c k log (Volume n) (op_on.Volume op) w place s has may is =
    subst (HasAnswer (op_on.Volume op)) (alone _ _ s (found_in _ place _ s is)) (_, refl)
answers c k log Latches op w place s has may is = absurd has
answers c k log o op w place s has may is = absurd (false≢true may)

pub meets_changed : (c : Setup) (k : ℕ) (log : List Entry) (v : View) (o : Object) (op : Op) (w : ℕ) → HasWord c o
    → allowed c k log o op ≡ true → Meets v o w → 0 < (own v).left → changed o op w ≡ None → ⊥
meets_changed c k log v o op w has may m left none =
    let a = answers c k log o op w m.place m.state has may m.unpacks in
    let some = changed_is o op w m.place m.state a.0.0 a.0.1 m.unpacks (m.room left) m.fitting a.1 in
    cc (some, none)
