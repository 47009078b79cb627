-- Calls that were made, one after the other: two that follow each other make one, and a whole task that was made is done on
-- what it heard. For contracts of calls.
use Rattle.std.proofs.Common.{◌≡◌, ℕ, List, [], ◌∷◌, ◌++◌, ◌+◌, ◌≤◌, length, refl, sym, ap, ◌∙◌}
use Rattle.std.proofs.Common.{subst, arith, append_assoc, length-append}
use Rattle.mv_latch.specs.declared.operation.Wake.{Wake}
use Rattle.mv_machine.specs.declared.entry.Entry.{Entry}
use Rattle.mv_machine.specs.declared.entry.Object.{Object}
use Rattle.mv_machine.specs.declared.entry.Object.TheVariants.{Latches}
use Rattle.mv_machine.specs.declared.entry.Op.{Op}
use Rattle.mv_machine.specs.declared.entry.Op.TheVariants as op_on
use Rattle.mv_calls.specs.Keeping.{Kept, kept_after, kept_from, kept_of, nothing_kept}
use Rattle.mv_calls.specs.Made.{told_with, told_by, HasItsWakes, HaveTheirWakes, IsLongerBy, IsMade}
use Rattle.mv_calls.specs.Program.{Call, Heard, IsDoneOn, entries, noted, wakes_now, wakes_then, and_then, followed}
use Rattle.mv_calls.specs.Rest.{OpenWaits, waits_after, waits_from}
use Rattle.mv_calls.proofs.Programs.{followed_done, and_then_done}

-- what is kept of two lists
pub kept_from-append : (kept : Kept) (xs ys : List Entry) → kept_from kept (xs ++ ys) ≡ kept_from (kept_from kept xs) ys
kept_from-append kept [] ys = refl
kept_from-append kept (x ∷ xs) ys = kept_from-append (kept_after kept x.object x.op x.reply) xs ys

-- the caller stays the same
pub kept_caller : (kept : Kept) (es : List Entry) → (kept_from kept es).caller ≡ kept.caller
kept_caller kept [] = refl
kept_caller kept (e ∷ es) = kept_caller (kept_after kept e.object e.op e.reply) es

-- the waits that are open behind two lists
pub waits_from-append : (w : OpenWaits) (xs ys : List Entry) → waits_from w (xs ++ ys) ≡ waits_from (waits_from w xs) ys
waits_from-append w [] ys = refl
waits_from-append w (x ∷ xs) ys = waits_from-append (waits_after w x.object x.op x.reply) xs ys

-- the entries of two lists of events
pub entries-append : (xs ys : List Heard) → entries (xs ++ ys) ≡ entries xs ++ entries ys
entries-append [] ys = refl
entries-append (x ∷ xs) ys = ap (λ es. x.entry ∷ es) (entries-append xs ys)

-- what is told with two lists
pub told_by-append : (xs ys : List Heard) → told_by (xs ++ ys) ≡ told_by xs ++ told_by ys
told_by-append [] ys = refl
told_by-append (x ∷ xs) ys =
    ap (λ t. told_with x.entry.object x.entry.op x.wakes ++ t) (told_by-append xs ys)
    ∙ sym (append_assoc (told_with x.entry.object x.entry.op x.wakes) (told_by xs) (told_by ys))

-- two lists of events whose wakes are their own
pub wakes-append : (xs ys : List Heard) → HaveTheirWakes xs → HaveTheirWakes ys → HaveTheirWakes (xs ++ ys)
wakes-append [] ys w v = v
wakes-append (x ∷ xs) ys w v = (w.0, wakes-append xs ys w.1 v)

-- of what is told with an event and later, the next are the event's own wakes, and the rest is told later
told_next : (o : Object) (op : Op) (ws : List Wake) (told : List (List Wake)) → HasItsWakes o op ws
    → (wakes_now o op (told_with o op ws ++ told) ≡ ws) × (wakes_then o op (told_with o op ws ++ told) ≡ told)
told_next Latches (op_on.Latch op) ws told w = (refl, refl)
told_next o op ws told w = (sym w, refl)

-- events are read off their entries and what is told with them
pub noted_again : (hs : List Heard) → HaveTheirWakes hs → noted (entries hs) (told_by hs) ≡ hs
noted_again [] w = refl
noted_again (h ∷ hs) w =
    ap (λ ws. record { entry = h.entry; wakes = ws } ∷ noted (entries hs) (wakes_then h.entry.object h.entry.op (told_by (h ∷ hs))))
    (told_next h.entry.object h.entry.op h.wakes (told_by hs) w.0).0
    ∙ ap (λ t. h ∷ noted (entries hs) t) (told_next h.entry.object h.entry.op h.wakes (told_by hs) w.0).1
    ∙ ap (λ gs. h ∷ gs) (noted_again hs w.1)

-- ---- what lengthened a log and then lengthened it again
pub longer_then : (xs ys : List Heard) (l m n : List Entry) (t u v : List (List Wake)) → IsLongerBy xs l m t u → IsLongerBy ys m n u v
    → IsLongerBy (xs ++ ys) l n t v
longer_then xs ys l m n t u v x y = record {
  wakes = wakes-append xs ys x.wakes y.wakes;
  logged = y.logged ∙ ap (λ es. es ++ entries ys) x.logged ∙ append_assoc l (entries xs) (entries ys)
      ∙ ap (λ es. l ++ es) (sym (entries-append xs ys));
  told = y.told ∙ ap (λ ws. ws ++ told_by ys) x.told ∙ append_assoc t (told_by xs) (told_by ys)
      ∙ ap (λ ws. t ++ ws) (sym (told_by-append xs ys));
}

-- and has as many events as both
few_then : (xs ys : List Heard) (i j : ℕ) → length xs ≤ i → length ys ≤ j → length (xs ++ ys) ≤ i + j
few_then xs ys i j x y = let both : length (xs ++ ys) ≡ length xs + length ys = length-append xs ys in omega arith

-- a call that was made, and the one that followed it
pub made_followed : {A B : Type 0} (i j : ℕ) (call : Call A) (f : A → Call B) (k : ℕ) (l m n : List Entry)
    (t u v : List (List Wake)) (a : A) (b : B)
    → IsMade i call k l m t u a → IsMade j (f a) k m n u v b → IsMade (i + j) (followed call f) k l n t v b
made_followed i j call f k l m n t u v a b x y = record {
  began = x.began;
  events = x.events ++ y.events;
  longer = longer_then x.events y.events l m n t u v x.longer y.longer;
  few = few_then x.events y.events i j x.few y.few;
  done = followed_done call f (kept_of k l) x.events y.events a b x.done
      (subst (λ kept. IsDoneOn (f a kept) y.events b)
      (ap (λ es. kept_of k es) x.longer.logged ∙ kept_from-append (nothing_kept k) l (entries x.events)) y.done);
  rest = y.rest;
}

-- A call that was made as the first part of a call, as the purge of an end of a job, and the rest of that call, as its post. The
-- rest is the same, begun with what was kept before both.
pub made_within : {A B : Type 0} (i j : ℕ) (call : Call A) (f : A → Call B) (k : ℕ) (l m n : List Entry)
    (t u v : List (List Wake)) (a : A) (b : B)
    → f a (kept_of k m) ≡ f a (kept_of k l)
    → IsMade i call k l m t u a → IsMade j (f a) k m n u v b
    → IsMade (i + j) (λ kept. and_then (call kept) (λ c. f c kept)) k l n t v b
made_within i j call f k l m n t u v a b same x y = record {
  began = x.began;
  events = x.events ++ y.events;
  longer = longer_then x.events y.events l m n t u v x.longer y.longer;
  few = few_then x.events y.events i j x.few y.few;
  done = and_then_done (call (kept_of k l)) (λ c. f c (kept_of k l)) x.events y.events a b x.done
      (subst (λ p. IsDoneOn p y.events b) same y.done);
  rest = y.rest;
}
