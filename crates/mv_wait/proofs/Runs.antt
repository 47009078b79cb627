-- Runs of programs, one after the other.
use Rattle.std.proofs.Common.{◌≡◌, ℕ, ◌+◌, ◌≤◌, List, [], ◌∷◌, ◌++◌, Some, refl, sym, ap, ◌∙◌, subst, append_assoc, arith}
use Rattle.std.proofs.Common.{length-append}
use Rattle.std.proofs.lemmas.List.{append-nil}
use Rattle.mv_machine.specs.declared.entry.Entry.{Entry}
use Rattle.mv_machine.specs.declared.entry.Object.{Object}
use Rattle.mv_machine.specs.declared.entry.Object.TheVariants.{Ecb, Element, Volume, Latches}
use Rattle.mv_machine.specs.declared.entry.Op.{Op}
use Rattle.mv_machine.specs.declared.entry.Reply.{Reply}
use Rattle.mv_board.specs.declared.view.Sight.{Sight}
use Rattle.mv_board.specs.Faces.{CallerFace, IsSame, HappenedAt, Happened, Shows, LooksAt, Found}
use Rattle.mv_calls.specs.Made.{told_by, told_with, HasItsWakes}
use Rattle.mv_calls.specs.Keeping.{kept_of}
use Rattle.mv_calls.specs.Program.{Program, Done, Call, Heard, Says, left, asks, heard, entries}
use Rattle.mv_calls.specs.Rest.{IsAtRest}
use Rattle.mv_calls.proofs.Making.{entries-append, told_by-append, wakes-append}
use Rattle.mv_calls.proofs.Programs.{left-append, Says-append}
use Rattle.mv_wait.specs.Run.{Went, Runs, IsServed}

pub same_caller : (t : CallerFace) → IsSame t t
same_caller t = record { table = refl; about = refl; number = refl }

pub same_then : (t u v : CallerFace) → IsSame t u → IsSame u v → IsSame t v
same_then t u v p q = record { table = q.table ∙ p.table; about = q.about ∙ p.about; number = q.number ∙ p.number }

-- nothing was done
pub went_none : (t : CallerFace) → Went [] t t
went_none t = record {
  same = same_caller t;
  wakes = tt;
  logged = sym (append-nil t.log);
  told = sym (append-nil t.told);
  left = omega arith;
  met = ([], sym (append-nil t.met));
}

pub went_then : (xs ys : List Heard) (t u v : CallerFace) → Went xs t u → Went ys u v → Went (xs ++ ys) t v
went_then xs ys t u v p q = record {
  same = same_then t u v p.same q.same;
  wakes = wakes-append xs ys p.wakes q.wakes;
  logged = q.logged ∙ (ap (λ es. es ++ entries ys) p.logged
      ∙ (append_assoc t.log (entries xs) (entries ys) ∙ ap (λ es. t.log ++ es) (sym (entries-append xs ys))));
  told = q.told ∙ (ap (λ ws. ws ++ told_by ys) p.told
      ∙ (append_assoc t.told (told_by xs) (told_by ys) ∙ ap (λ ws. t.told ++ ws) (sym (told_by-append xs ys))));
  left = (let a = p.left in let b = q.left in let n = length-append xs ys in omega arith);
  met = (p.met.0 ++ q.met.0, q.met.1 ∙ (ap (λ ms. ms ++ q.met.0) p.met.1 ∙ append_assoc t.met p.met.0 q.met.0));
}

-- a look at a word is no event
pub went_look : (t : CallerFace) (o : Object) (w : ℕ) (u : CallerFace) → Found t o w u → Went [] t u
went_look t o w u f = record {
  same = f.same;
  wakes = tt;
  logged = f.log ∙ sym (append-nil t.log);
  told = f.told ∙ sym (append-nil t.told);
  left = (let e = f.left in omega arith);
  met = (_, f.met);
}

-- ---- one event on an object with a word

-- the object has a word
abbrev pub IsWord : Object → Type 0
IsWord Latches = ⊥
IsWord o = Unit {0}

abbrev pub entry_of : CallerFace → Object → ℕ → Op → Reply → Entry
entry_of t o place op reply = record { caller = t.number; object = o; place = place; op = op; reply = reply }

abbrev pub heard_of : CallerFace → Object → ℕ → Op → Reply → Heard
heard_of t o place op reply = record { entry = entry_of t o place op reply; wakes = [] }

told_same : (t u : CallerFace) (o : Object) → IsWord o → Shows o t u → u.told ≡ t.told
told_same t u (Ecb n) w s = s.0
told_same t u (Element n) w s = s.0
told_same t u (Volume n) w s = s.0
told_same t u Latches w s = absurd w

met_more : (t u : CallerFace) (o : Object) → IsWord o → LooksAt o t u → (more : List Sight) × (u.met ≡ t.met ++ more)
met_more t u (Ecb n) w l = (l.0, l.1)
met_more t u (Element n) w l = (l.0, l.1)
met_more t u (Volume n) w l = (l.0, l.1)
met_more t u Latches w l = absurd w

no_wakes : (o : Object) (op : Op) → IsWord o → HasItsWakes o op []
no_wakes (Ecb n) op w = refl
no_wakes (Element n) op w = refl
no_wakes (Volume n) op w = refl
no_wakes Latches op w = absurd w

none_told : (o : Object) (op : Op) → IsWord o → told_with o op [] ≡ []
none_told (Ecb n) op w = refl
none_told (Element n) op w = refl
none_told (Volume n) op w = refl
none_told Latches op w = absurd w

pub went_word : (t : CallerFace) (o : Object) (place : ℕ) (op : Op) (reply : Reply) (u : CallerFace) → IsWord o
    → HappenedAt t o place op reply u
    → Went (heard_of t o place op reply ∷ []) t u
went_word t o place op reply u w h = record {
  same = h.same;
  wakes = (no_wakes o op w, tt);
  logged = h.logged;
  told = told_same t u o w h.shown ∙ sym (ap (λ ws. t.told ++ (ws ++ [])) (none_told o op w) ∙ append-nil t.told);
  left = h.left;
  met = met_more t u o w h.met;
}

-- ---- programs

-- nothing of the program was run
pub runs_none : {A : Type 0} (p : Program A) (t : CallerFace) → Runs 0 p p t t
runs_none p t = record { events = []; went = went_none t; few = omega arith; says = tt; leaves = refl }

pub runs_then : {A : Type 0} (m n : ℕ) (p q r : Program A) (t u v : CallerFace) → Runs m p q t u → Runs n q r u v → Runs (m + n) p r t v
runs_then m n p q r t u v x y = record {
  events = x.events ++ y.events;
  went = went_then x.events y.events t u v x.went y.went;
  few = (let a = x.few in let b = y.few in let e = length-append x.events y.events in omega arith);
  says = Says-append p x.events y.events x.says (subst (λ s. Says s y.events) (sym x.leaves) y.says);
  leaves = left-append p x.events y.events ∙ (ap (λ s. left s y.events) x.leaves ∙ y.leaves);
}

-- more may have been made
pub runs_within : {A : Type 0} (m n : ℕ) (p q : Program A) (t u : CallerFace) → m ≤ n → Runs m p q t u → Runs n p q t u
runs_within m n p q t u le x =
    record { events = x.events; went = x.went; few = (let a = x.few in omega arith); says = x.says; leaves = x.leaves }

-- what was met or seen ready makes no difference
pub runs_look : {A : Type 0} (n : ℕ) (p q : Program A) (t u v : CallerFace) → Runs n p q t u → Went [] u v → Runs n p q t v
runs_look n p q t u v x w = record {
  events = x.events;
  went = subst (λ hs. Went hs t v) (append-nil x.events) (went_then x.events [] t u v x.went w);
  few = x.few;
  says = x.says;
  leaves = x.leaves;
}

-- one event on a word that the program says
pub runs_word : {A : Type 0} (p q : Program A) (t : CallerFace) (o : Object) (op : Op) (reply : Reply) (u : CallerFace) → IsWord o
    → Happened t o op reply u
    → asks p ≡ Some (o, op) → ((h : Heard) → h.entry.reply ≡ reply → heard p h ≡ q) → Runs 1 p q t u
runs_word p q t o op reply u w h a next = record {
  events = heard_of t o h.0 op reply ∷ [];
  went = went_word t o h.0 op reply u w h.1;
  few = omega arith;
  says = (a, tt);
  leaves = next (heard_of t o h.0 op reply) refl;
}

-- without an event the log is the same
pub went_log : (t u : CallerFace) → Went [] t u → u.log ≡ t.log
went_log t u w = w.logged ∙ append-nil t.log

-- ---- whole calls

-- a call that began at rest, and whose program was run to its end
pub serves : {A : Type 0} (most : ℕ) (call : Call A) (Is : A → Type 0) (t u : CallerFace) (a : A) → IsAtRest t.log → Is a
    → Runs most (call (kept_of t.number t.log)) (Done a) t u → IsAtRest u.log → IsServed most call Is t u
serves most call Is t u a began is runs rest = record {
  answer = a;
  is = is;
  made = record {
    began = began;
    events = runs.events;
    longer = record { wakes = runs.went.wakes; logged = runs.went.logged; told = runs.went.told };
    few = runs.few;
    done = record { says = runs.says; done = runs.leaves };
    rest = rest;
  };
  same = runs.went.same;
  left = runs.went.left;
  met = runs.went.met;
}

-- what a call that was served did, from the caller as it came to the caller as it left
pub went_of : {A : Type 0} (most : ℕ) (call : Call A) (Is : A → Type 0) (t u : CallerFace) → (s : IsServed most call Is t u)
    → Went s.made.events t u
went_of most call Is t u s = record {
  same = s.same;
  wakes = s.made.longer.wakes;
  logged = s.made.longer.logged;
  told = s.made.longer.told;
  left = s.left;
  met = s.met;
}

-- and what was served is a run
pub served_runs : {A : Type 0} (most : ℕ) (call : Call A) (Is : A → Type 0) (t u : CallerFace) → (s : IsServed most call Is t u)
    → Runs most (call (kept_of t.number t.log)) (Done s.answer) t u
served_runs most call Is t u s = record {
  events = s.made.events;
  went = went_of most call Is t u s;
  few = s.made.few;
  says = s.made.done.says;
  leaves = s.made.done.done;
}
