-- The entries of one call have one number.
use Rattle.std.proofs.Common.{◌≡◌, ℕ, List, [], ◌∷◌, ◌++◌, refl, sym, ap, ◌∙◌}
use Rattle.std.proofs.lemmas.Option.{some_pair_parts}
use Rattle.std.specs.List.{AllByRecursion}
use Rattle.mv_machine.specs.declared.entry.Entry.{Entry}
use Rattle.mv_machine.specs.declared.entry.Object.{Object}
use Rattle.mv_machine.specs.declared.entry.Op.{Op}
use Rattle.mv_config.specs.Setup.{Setup}
use Rattle.mv_machine.specs.System.{opening}
use Rattle.mv_calls.specs.Keeping.{kept_of}
use Rattle.mv_calls.specs.Program.{Program, Do, Done, Early, Wrong, Heard, Says, entries}
use Rattle.mv_calls.proofs.call_numbers.Calls.{begins}
use Rattle.mv_calls.proofs.call_numbers.Folds.{groups, numbered_all, groups-append, groups-length, numbers_heard}
use Rattle.mv_calls.proofs.call_numbers.Stays.{event, then_numbered, StaysTo, Anything, Begins}
use Rattle.mv_calls.specs.Numbers.{Numbering, unnumbered, calls}
use Rattle.mv_calls.specs.OneCall.{IsOneCall, HasOneNumber}
use Rattle.mv_calls.specs.Services.{program}

-- what holds of every event on this object with this operation holds of one that was heard
at_event : (P : Heard → Type 0) (o : Object) (op : Op) (h : Heard) → (o ≡ h.entry.object) × (op ≡ h.entry.op)
    → P (event h.entry.caller o h.entry.place op h.entry.reply h.wakes) → P h
at_event P o op h e p = rw (sym e.0, sym e.1) p

-- these numbers are all this one
abbrev AreAll : ℕ → List ℕ → Type 0
AreAll g ns = AllByRecursion (λ n. n ≡ g) ns

-- Where each event that a program may say keeps the group, all that it says have the one number.
says_one : {A : Type 0} (c : Setup) (t : Numbering) (p : Program A) (hs : List Heard) (g : ℕ) → t.group ≡ g → StaysTo c Anything t p
    → Says p hs → AreAll g (groups c t hs)
says_one c t p [] g q s says = tt
says_one c t (Do o op next) (h ∷ hs) g q s says = (
  kept.0 ∙ q,
  says_one c (then_numbered c t h) (next h) hs g (kept.0 ∙ q) kept.1 says.1,
) where
  kept : ((then_numbered c t h).group ≡ t.group) × StaysTo c Anything (then_numbered c t h) (next h)
  kept = at_event (λ x. ((then_numbered c t x).group ≡ t.group) × StaysTo c Anything (then_numbered c t x) (next x)) o op h
      (some_pair_parts o h.entry.object op h.entry.op says.0) (s h.entry.caller h.entry.place h.entry.reply h.wakes)
says_one c t (Done a) (h ∷ hs) g q s says = absurd (cc says.0)
says_one c t Early (h ∷ hs) g q s says = absurd (cc says.0)
says_one c t Wrong (h ∷ hs) g q s says = absurd (cc says.0)

-- a list of numbers, all of which are one
record IsOne (ns : List ℕ) : Type 0 where
  number : ℕ
  same : AreAll number ns

-- The same of a call from its first event on, whatever went before.
begins_one : {A : Type 0} (c : Setup) (t : Numbering) (p : Program A) (hs : List Heard) → Begins c p → Says p hs → IsOne (groups c t hs)
begins_one c t p [] b says = record { number = 0; same = tt }
begins_one c t (Do o op next) (h ∷ hs) b says = record {
  number = (then_numbered c t h).group;
  same = (refl, says_one c (then_numbered c t h) (next h) hs (then_numbered c t h).group refl stays says.1);
} where
  stays : StaysTo c Anything (then_numbered c t h) (next h)
  stays = at_event (λ x. StaysTo c Anything (then_numbered c t x) (next x)) o op h
      (some_pair_parts o h.entry.object op h.entry.op says.0) (b t h.entry.caller h.entry.place h.entry.reply h.wakes)
begins_one c t (Done a) (h ∷ hs) b says = absurd (cc says.0)
begins_one c t Early (h ∷ hs) b says = absurd (cc says.0)
begins_one c t Wrong (h ∷ hs) b says = absurd (cc says.0)

-- In a legal history the entries of one call have one number.
pub one_number : (c : Setup) (k : ℕ) (es : List Entry) (old piece : List Heard) → IsOneCall c k es old piece
    → HasOneNumber k es (calls c es) old piece
one_number c k es old piece call = record {
  before = groups c unnumbered old;
  mine = groups c (numbered_all c unnumbered old) piece;
  after = groups c (numbered_all c (numbered_all c unnumbered old) piece) call.later;
  split = numbers_heard c (opening c) (λ n. unnumbered) k es ∙ ap (λ hs. groups c unnumbered hs) call.split
      ∙ groups-append c unnumbered old (piece ++ call.later)
      ∙ ap (λ gs. groups c unnumbered old ++ gs) (groups-append c (numbered_all c unnumbered old) piece call.later);
  skipped = groups-length c unnumbered old;
  all = groups-length c (numbered_all c unnumbered old) piece;
  number = one.number;
  same = one.same;
} where
  one : IsOne (groups c (numbered_all c unnumbered old) piece)
  one = begins_one c (numbered_all c unnumbered old) (program c call.service (kept_of k (entries old))) piece
      (begins c call.service (kept_of k (entries old)) call.single) call.done.says
