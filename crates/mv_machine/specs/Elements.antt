-- The order that every legal list of entries keeps at each pause element.
use Rattle.std.specs.Prelude.{◌≡◌, ℕ, ◌+◌, ◌*◌, ◌≤◌, ◌==◌, Bool, true, false, IsTrue, IfSome, List, [], ◌∷◌, ◌++◌, length, Option}
use Rattle.std.specs.Prelude.{Some, None, if◌then◌else◌}
use Rattle.std.specs.List.{filter_map, AllByRecursion}
use Rattle.mv_element.specs.declared.operation.ElementOp.{ElementOp}
use Rattle.mv_element.specs.declared.operation.ElementOp.TheVariants.{Open, Pause, Resume, Release, Close, Test}
use Rattle.mv_element.specs.declared.operation.ElementReply.{ElementReply}
use Rattle.mv_element.specs.declared.operation.ElementReply.TheVariants.{Given, Spent, Early, Woke, Closed}
use Rattle.mv_element.specs.declared.element.ElementState.{ElementState}
use Rattle.mv_element.specs.declared.element.Phase.{Phase}
use Rattle.mv_element.specs.declared.element.Phase.TheVariants.{Free, Reset, Prereleased, Paused, Released}
use Rattle.mv_machine.specs.declared.entry.Object.{Object}
use Rattle.mv_machine.specs.declared.entry.Object.TheVariants.{Element}
use Rattle.mv_machine.specs.declared.entry.Op.{Op}
use Rattle.mv_machine.specs.declared.entry.Op.TheVariants as op_on
use Rattle.mv_machine.specs.declared.entry.Reply.{Reply}
use Rattle.mv_machine.specs.declared.entry.Reply.TheVariants as reply_of
use Rattle.mv_machine.specs.declared.entry.Entry.{Entry}
use Rattle.mv_machine.specs.System.{Cell}

-- an event on one object of a known kind
pub record Event (O R : Type 0) : Type 0 where
  pub caller : ℕ
  pub place : ℕ
  pub op : O
  pub reply : R

-- an event on a pause element
abbrev pub ElementEvent : Type 0
ElementEvent = Event ElementOp ElementReply

-- an entry's fields as an event on this element, if they are one
abbrev pub element_event : ℕ → ℕ → Object → ℕ → Op → Reply → Option ElementEvent
element_event n k (Element m) p (op_on.Element op) (reply_of.Element r) =
    if m == n then Some (record { caller = k; place = p; op = op; reply = r }) else None
element_event n k _ p _ _ = None

-- an entry as an event on this element, if it is one
abbrev pub as_element_event : ℕ → Entry → Option ElementEvent
as_element_event n e = element_event n e.caller e.object e.place e.op e.reply

-- the events on one element, in order
abbrev pub element_events : ℕ → List Entry → List ElementEvent
element_events n es = filter_map (as_element_event n) es

-- a value if a test holds, otherwise none
abbrev pub only_if : {A : Type 0} → Bool → A → Option A
only_if b a = if b then Some a else None

-- the generation of the token that an operation was given, if it was given one
abbrev pub carried : ElementOp → Option ℕ
carried Open = None
carried (Pause g) = Some g
carried (Resume g) = Some g
carried (Release g d) = Some g
carried (Close g) = Some g
carried Test = None

-- the code that ended generation g, if the reply gave one
abbrev pub given_code : ℕ → ElementReply → Option ℕ
given_code g (Given code next) = only_if (next == g + 1) code
given_code g _ = None

-- whether a release was accepted
abbrev pub is_accepted : ElementReply → Bool
is_accepted Early = true
is_accepted Woke = true
is_accepted _ = false

-- the code of a release, if the operation is a release that carries g
abbrev pub carried_code : ℕ → ElementOp → Option ℕ
carried_code g (Release h d) = only_if (h == g) d
carried_code g _ = None

-- the code of a release of generation g, if the event is one and was accepted
abbrev pub accepted_code : ℕ → ElementEvent → Option ℕ
accepted_code g v = if is_accepted v.reply then carried_code g v.op else None

-- the codes of the accepted releases of generation g
abbrev pub releases : ℕ → List ElementEvent → List ℕ
releases g vs = filter_map (accepted_code g) vs

-- the codes that the pauses of generation g were given
abbrev pub givens : ℕ → List ElementEvent → List ℕ
givens g vs = filter_map (λ v. given_code g v.reply) vs

-- whether an operation is a close that carries g
abbrev pub closes : ℕ → ElementOp → Bool
closes g (Close h) = h == g
closes g _ = false

-- whether generation g of the element ended with this event
abbrev pub ends_by : ℕ → ElementOp → ElementReply → Bool
ends_by g op (Given code next) = next == g + 1
ends_by g op Closed = closes g op
ends_by g op _ = false

-- whether a reply is Spent
abbrev pub is_spent : ElementReply → Bool
is_spent (Spent g) = true
is_spent _ = false

-- if an event carries a generation of at most g, its reply is Spent
abbrev pub IsSpentUpTo : ℕ → ElementEvent → Type 0
IsSpentUpTo g v = IfSome (carried v.op) (λ h. h ≤ g → IsTrue (is_spent v.reply))

-- An element is orderly: each given code has its one release, no generation is given twice, no two releases of a generation are
-- accepted, and an operation on a generation that has ended gets the reply Spent.
pub record IsOrderlyElement (vs : List ElementEvent) : Type 0 where
  -- a pause that was given a code had exactly one accepted release of its generation, before it, with that code
  pub reached : (g code : ℕ) (before later : List ElementEvent) (v : ElementEvent) → vs ≡ before ++ v ∷ later
      → given_code g v.reply ≡ Some code → (releases g before ≡ code ∷ []) × (releases g later ≡ [])
  -- no generation is given twice
  pub once : (g : ℕ) → length (givens g vs) ≤ 1
  -- at most one release of a generation is accepted
  pub accepted : (g : ℕ) → length (releases g vs) ≤ 1
  -- after a generation has ended, an operation that carries it, or an earlier one, gets the reply Spent
  pub spent : (g : ℕ) (before later : List ElementEvent) (v : ElementEvent) → vs ≡ before ++ v ∷ later → IsTrue (ends_by g v.op v.reply)
      → AllByRecursion (IsSpentUpTo g) later

-- the least number of events that an element has had in its current generation, by its phase
abbrev pub extra : Phase → ℕ
extra Free = 0
extra Reset = 1
extra Prereleased = 2
extra Paused = 2
extra Released = 3

-- an element's place is at least twice its generation plus the extra of its phase: each generation takes at least two events
abbrev pub FitsItsPlace : Cell ElementState → Type 0
FitsItsPlace cell = 2 * cell.state.generation + extra cell.state.phase ≤ cell.place
