-- Programs: a task's next action, as a function of what it has observed of its own events so far. And calls: programs by what
-- their task keeps, which can be made one after the other.
use Rattle.std.specs.Prelude.{◌≡◌, List, [], ◌∷◌, map, Option, Some, None, Result, Ok, Err}
use Rattle.mv_ecb.specs.declared.operation.EcbReply.{EcbReply}
use Rattle.mv_element.specs.declared.operation.ElementReply.{ElementReply}
use Rattle.mv_latch.specs.declared.operation.LatchReply.{LatchReply}
use Rattle.mv_latch.specs.declared.operation.Wake.{Wake}
use Rattle.mv_machine.specs.declared.entry.Entry.{Entry}
use Rattle.mv_machine.specs.declared.entry.Object.{Object}
use Rattle.mv_machine.specs.declared.entry.Object.TheVariants.{Latches}
use Rattle.mv_machine.specs.declared.entry.Op.{Op}
use Rattle.mv_machine.specs.declared.entry.Op.TheVariants as op_on
use Rattle.mv_machine.specs.declared.entry.Reply.{Reply}
use Rattle.mv_machine.specs.declared.entry.Reply.TheVariants as reply_of
use Rattle.mv_machine.specs.declared.entry.VolumeReply.{VolumeReply}
use Rattle.mv_calls.specs.Keeping.{Kept, kept_after}
use Rattle.mv_calls.specs.Refusal.{Refusal}

-- what a task observes of an event of its own: the entry, and the wakes if the event is on the latch set
pub record Heard : Type 0 where
  pub entry : Entry
  pub wakes : List Wake

-- What a task does next: it makes an event, and continues by what it observes of that (Do); or it is done with an answer (Done).
-- Early is a wait that returned before what it waits for, and Wrong is a reply that cannot occur there.
pub data Program (A : Type 0) : Type 0 where
  Do : (object : Object) (op : Op) (next : Heard → Program A) → Program A
  Done : (answer : A) → Program A
  Early : Program A
  Wrong : Program A

-- ---- a program and what was observed

-- the next event of a program, if it has one
abbrev pub asks : {A : Type 0} → Program A → Option (Object × Op)
asks (Do o op next) = Some (o, op)
asks p = None

-- the residual program after the reply to its event; a program that is done makes no event, so any reply is wrong there
abbrev pub heard : {A : Type 0} → Program A → Heard → Program A
heard (Do o op next) h = next h
heard (Done a) h = Wrong
heard Early h = Early
heard Wrong h = Wrong

-- the residual program after all of these events
abbrev pub left : {A : Type 0} → Program A → List Heard → Program A
left p [] = p
left p (h ∷ hs) = left (heard p h) hs

-- each of these events is the program's next one after those before it
abbrev pub Says : {A : Type 0} → Program A → List Heard → Type 0
Says p [] = Unit {0}
Says p (h ∷ hs) = (asks p ≡ Some (h.entry.object, h.entry.op)) × Says (heard p h) hs

-- these are a program's events, and it is done on them with this answer
pub record IsDoneOn {A : Type 0} (p : Program A) (hs : List Heard) (answer : A) : Type 0 where
  pub says : Says p hs
  pub done : left p hs ≡ Done answer

-- ---- what a caller observes

-- the wakes of an event, from the wakes that are still to be shown: the first of them if the event is on the latch set
abbrev pub wakes_now : Object → Op → List (List Wake) → List Wake
wakes_now Latches (op_on.Latch op) (ws ∷ told) = ws
wakes_now o op told = []

-- the wakes that are still to be shown after an event
abbrev pub wakes_then : Object → Op → List (List Wake) → List (List Wake)
wakes_then Latches (op_on.Latch op) (ws ∷ told) = told
wakes_then o op told = told

-- a caller's entries, each entry on the latch set with its wakes
abbrev pub noted : List Entry → List (List Wake) → List Heard
noted [] told = []
noted (e ∷ es) told = record { entry = e; wakes = wakes_now e.object e.op told } ∷ noted es (wakes_then e.object e.op told)

-- the entries of what was observed
abbrev pub entries : List Heard → List Entry
entries hs = map (λ h. h.entry) hs

-- ---- replies by the kind of object. A reply of another kind cannot occur

-- goes on by a block's reply
abbrev pub on_ecb : {A : Type 0} → Reply → (EcbReply → Program A) → Program A
on_ecb (reply_of.Ecb r) f = f r
on_ecb r f = Wrong

-- goes on by an element's reply
abbrev pub on_element : {A : Type 0} → Reply → (ElementReply → Program A) → Program A
on_element (reply_of.Element r) f = f r
on_element r f = Wrong

-- goes on by a volume's reply
abbrev pub on_volume : {A : Type 0} → Reply → (VolumeReply → Program A) → Program A
on_volume (reply_of.Volume r) f = f r
on_volume r f = Wrong

-- goes on by a reply of the latch set
abbrev pub on_latch : {A : Type 0} → Reply → (LatchReply → Program A) → Program A
on_latch (reply_of.Latch r) f = f r
on_latch r f = Wrong

-- ---- programs one after the other

-- a program, and then the program that follows it by its answer
abbrev pub and_then : {A B : Type 0} → Program A → (A → Program B) → Program B
and_then (Do o op next) f = Do o op (λ h. and_then (next h) f)
and_then (Done a) f = f a
and_then Early f = Early
and_then Wrong f = Wrong

-- a call that may be refused without an event: the refusal, or otherwise the program
abbrev pub unless_refused : {A : Type 0} → Option Refusal → Program (Result A Refusal) → Program (Result A Refusal)
unless_refused None p = p
unless_refused (Some why) p = Done (Err why)

-- ---- calls one after the other. Each begins with what its task keeps when it begins

-- a call: a program for each thing that its task may keep when the call begins
abbrev pub Call : Type 0 → Type 0
Call A = Kept → Program A

-- the rest of a program that the task began with this kept, and then the call that follows it by its answer
abbrev pub going_on : {A B : Type 0} → Kept → Program A → (A → Call B) → Program B
going_on kept (Do o op next) f = Do o op (λ h. going_on (kept_after kept o op h.entry.reply) (next h) f)
going_on kept (Done a) f = f a kept
going_on kept Early f = Early
going_on kept Wrong f = Wrong

-- a call, and then the call that follows it by its answer
abbrev pub followed : {A B : Type 0} → Call A → (A → Call B) → Call B
followed call f kept = going_on kept (call kept) f

-- a call that makes no event, and is done with this answer
abbrev pub finished : {A : Type 0} → A → Call A
finished a kept = Done a

-- a call that is wrong at once: it follows an answer that cannot occur there
abbrev pub wrong : {A : Type 0} → Call A
wrong kept = Wrong

-- goes on by the answer of a call, and is wrong if the call was refused
abbrev pub unrefused : {A B : Type 0} → (A → Call B) → Result A Refusal → Call B
unrefused f (Ok a) = f a
unrefused f (Err why) = wrong

-- a call that should not be refused, and then the call that follows it by its answer
abbrev pub accepted : {A B : Type 0} → Call (Result A Refusal) → (A → Call B) → Call B
accepted call f = followed call (unrefused f)

-- a call for each of these, in order, and then the last call
abbrev pub for_each : {A B X : Type 0} → List X → (X → Call A) → Call B → Call B
for_each [] f last = last
for_each (x ∷ xs) f last = followed (f x) (λ a. for_each xs f last)
