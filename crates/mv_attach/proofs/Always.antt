-- What holds of each event that a program may say, whatever is answered, holds of each entry that its call makes. For programs
-- whose proofs go by what each task's log keeps to.
use Rattle.std.proofs.Common.{◌≡◌, ℕ, List, [], ◌∷◌, ◌++◌, Option, Some, None, Result, sym, subst}
use Rattle.std.specs.List.{AllByRecursion}
use Rattle.mv_ecb.specs.declared.operation.EcbReply.{EcbReply}
use Rattle.mv_element.specs.declared.operation.ElementReply.{ElementReply}
use Rattle.mv_latch.specs.declared.operation.LatchReply.{LatchReply}
use Rattle.mv_machine.specs.declared.entry.Entry.{Entry}
use Rattle.mv_machine.specs.declared.entry.Object.{Object}
use Rattle.mv_machine.specs.declared.entry.Op.{Op}
use Rattle.mv_machine.specs.declared.entry.Reply.{Reply}
use Rattle.mv_machine.specs.declared.entry.Reply.TheVariants as reply_of
use Rattle.mv_machine.specs.declared.entry.VolumeReply.{VolumeReply}
use Rattle.mv_machine.proofs.Lists.{all_append}
use Rattle.mv_board.specs.Faces.{CallerFace}
use Rattle.mv_calls.specs.Keeping.{kept_of}
use Rattle.mv_calls.specs.Program.{Program, Do, Done, Early, Wrong, Call, Heard, Says, entries, on_ecb, on_element, on_latch, on_volume}
use Rattle.mv_calls.specs.Program.{unless_refused}
use Rattle.mv_calls.specs.Refusal.{Refusal}
use Rattle.mv_wait.specs.Run.{IsServed}
use Rattle.mv_wait.proofs.OneBlock.{asked_is}

-- each event that the program may say is so
abbrev pub Always : {A : Type 0} → (Object → Op → Type 0) → Program A → Type 0
Always P (Do o op next) = P o op × ((h : Heard) → Always P (next h))
Always P (Done a) = Unit {0}
Always P Early = Unit {0}
Always P Wrong = Unit {0}

pub always_says : {A : Type 0} (P : Object → Op → Type 0) (p : Program A) (hs : List Heard) → Always P p → Says p hs
    → AllByRecursion (λ e. P e.object e.op) (entries hs)
always_says P p [] a s = tt
always_says P (Do o op next) (h ∷ hs) a s =
    let is = asked_is o h.entry.object op h.entry.op s.0 in
    (subst (λ x. P x h.entry.op) (sym is.0) (subst (λ x. P o x) (sym is.1) a.0), always_says P (next h) hs (a.1 h) s.1)
always_says P (Done x) (h ∷ hs) a s = absurd (cc s.0)
always_says P Early (h ∷ hs) a s = absurd (cc s.0)
always_says P Wrong (h ∷ hs) a s = absurd (cc s.0)

-- the entries by which a call lengthened its task's log, each of which is so
pub record Grown (P : Object → Op → Type 0) (t u : CallerFace) : Type 0 where
  pub more : List Entry
  pub logged : u.log ≡ t.log ++ more
  pub each : AllByRecursion (λ e. P e.object e.op) more

pub served_grown : {A : Type 0} (P : Object → Op → Type 0) (most : ℕ) (call : Call A) (Is : A → Type 0) (t u : CallerFace)
    → IsServed most call Is t u → Always P (call (kept_of t.number t.log)) → Grown P t u
served_grown P most call Is t u s a = record {
  more = entries s.made.events;
  logged = s.made.longer.logged;
  each = always_says P (call (kept_of t.number t.log)) s.made.events a s.made.done.says;
}

-- so what held of each entry of the log holds of each behind the call
pub served_keeps : {A : Type 0} (P : Object → Op → Type 0) (most : ℕ) (call : Call A) (Is : A → Type 0) (t u : CallerFace)
    → AllByRecursion (λ e. P e.object e.op) t.log → IsServed most call Is t u → Always P (call (kept_of t.number t.log))
    → AllByRecursion (λ e. P e.object e.op) u.log
served_keeps P most call Is t u held s a =
    let grown = served_grown P most call Is t u s a in
    subst (AllByRecursion (λ e. P e.object e.op)) (sym grown.logged) (all_append (λ e. P e.object e.op) t.log grown.more held grown.each)

-- ---- programs by their parts

pub always_ecb : {A : Type 0} (P : Object → Op → Type 0) (r : Reply) (f : EcbReply → Program A) → ((x : EcbReply) → Always P (f x))
    → Always P (on_ecb r f)
always_ecb P (reply_of.Ecb x) f a = a x
always_ecb P r f a = tt

pub always_element : {A : Type 0} (P : Object → Op → Type 0) (r : Reply) (f : ElementReply → Program A)
    → ((x : ElementReply) → Always P (f x))
    → Always P (on_element r f)
always_element P (reply_of.Element x) f a = a x
always_element P r f a = tt

pub always_latch : {A : Type 0} (P : Object → Op → Type 0) (r : Reply) (f : LatchReply → Program A) → ((x : LatchReply) → Always P (f x))
    → Always P (on_latch r f)
always_latch P (reply_of.Latch x) f a = a x
always_latch P r f a = tt

pub always_volume : {A : Type 0} (P : Object → Op → Type 0) (r : Reply) (f : VolumeReply → Program A)
    → ((x : VolumeReply) → Always P (f x))
    → Always P (on_volume r f)
always_volume P (reply_of.Volume x) f a = a x
always_volume P r f a = tt

pub always_unless : {A : Type 0} (P : Object → Op → Type 0) (why : Option Refusal) (p : Program (Result A Refusal)) → Always P p
    → Always P (unless_refused why p)
always_unless P None p a = a
always_unless P (Some why) p a = tt
