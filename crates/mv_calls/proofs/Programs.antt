-- Programs over lists of what was heard, and programs one after the other.
use Rattle.std.proofs.Common.{◌≡◌, List, [], ◌∷◌, ◌++◌, Some, refl, ap, ◌∙◌}
use Rattle.std.proofs.lemmas.Option.{some_pair_parts}
use Rattle.mv_machine.specs.declared.entry.Object.{Object}
use Rattle.mv_machine.specs.declared.entry.Op.{Op}
use Rattle.mv_calls.specs.Keeping.{Kept, kept_after, kept_from}
use Rattle.mv_calls.specs.Program.{Program, Do, Done, Early, Wrong, Heard, Call, asks, heard, left, Says, IsDoneOn, entries}
use Rattle.mv_calls.specs.Program.{and_then}
use Rattle.mv_calls.specs.Program.{going_on, followed}

-- what is left after two lists
pub left-append : {A : Type 0} (p : Program A) (xs ys : List Heard) → left p (xs ++ ys) ≡ left (left p xs) ys
left-append p [] ys = refl
left-append p (x ∷ xs) ys = left-append (heard p x) xs ys

-- a program says two lists, the second behind the first
pub Says-append : {A : Type 0} (p : Program A) (xs ys : List Heard) → Says p xs → Says (left p xs) ys → Says p (xs ++ ys)
Says-append p [] ys s t = t
Says-append p (x ∷ xs) ys s t = (s.0, Says-append (heard p x) xs ys s.1 t)

-- ---- a program that was begun is followed by a call

-- one step of it, with what is kept after that
pub one_on : {A B : Type 0} (kept : Kept) (o : Object) (op : Op) (next : Heard → Program A) (f : A → Call B) (h : Heard)
    → asks (Do o op next) ≡ Some (h.entry.object, h.entry.op)
    → heard (going_on kept (Do o op next) f) h ≡ going_on (kept_after kept h.entry.object h.entry.op h.entry.reply) (next h) f
one_on kept o op next f h e =
    let q : (o ≡ h.entry.object) × (op ≡ h.entry.op) = some_pair_parts o h.entry.object op h.entry.op e in
    ap (λ o'. going_on (kept_after kept o' op h.entry.reply) (next h) f) q.0
    ∙ ap (λ op'. going_on (kept_after kept h.entry.object op' h.entry.reply) (next h) f) q.1

-- what is left of both after the events of both
pub going_on_left : {A B : Type 0} (kept : Kept) (p : Program A) (f : A → Call B) (xs ys : List Heard) (a : A) → Says p xs
    → left p xs ≡ Done a
    → left (going_on kept p f) (xs ++ ys) ≡ left (f a (kept_from kept (entries xs))) ys
going_on_left kept p f [] ys a s d = ap (λ q. left (going_on kept q f) ys) d
going_on_left kept (Do o op next) f (x ∷ xs) ys a s d =
    ap (λ q. left q (xs ++ ys)) (one_on kept o op next f x s.0)
    ∙ going_on_left (kept_after kept x.entry.object x.entry.op x.entry.reply) (next x) f xs ys a s.1 d
going_on_left kept (Done b) f (x ∷ xs) ys a s d = absurd (cc s.0)
going_on_left kept Early f (x ∷ xs) ys a s d = absurd (cc s.0)
going_on_left kept Wrong f (x ∷ xs) ys a s d = absurd (cc s.0)

-- a program says what an equal one says
pub same_says : {A : Type 0} (p q : Program A) (hs : List Heard) → p ≡ q → Says q hs → Says p hs
same_says p q hs e s = rw e s

-- both say the events of both
pub going_on_says : {A B : Type 0} (kept : Kept) (p : Program A) (f : A → Call B) (xs ys : List Heard) (a : A) → Says p xs
    → left p xs ≡ Done a
    → Says (f a (kept_from kept (entries xs))) ys → Says (going_on kept p f) (xs ++ ys)
going_on_says kept p f [] ys a s d t = same_says (going_on kept p f) (f a kept) ys (ap (λ q. going_on kept q f) d) t
going_on_says kept (Do o op next) f (x ∷ xs) ys a s d t = (
  s.0,
  same_says (heard (going_on kept (Do o op next) f) x) (going_on (kept_after kept x.entry.object x.entry.op x.entry.reply) (next x) f)
      (xs ++ ys) (one_on kept o op next f x s.0)
      (going_on_says (kept_after kept x.entry.object x.entry.op x.entry.reply) (next x) f xs ys a s.1 d t),
)
going_on_says kept (Done b) f (x ∷ xs) ys a s d t = absurd (cc s.0)
going_on_says kept Early f (x ∷ xs) ys a s d t = absurd (cc s.0)
going_on_says kept Wrong f (x ∷ xs) ys a s d t = absurd (cc s.0)

-- A call that is done on these, and the call that follows it done on those: the two in order are done on all.
pub followed_done : {A B : Type 0} (call : Call A) (f : A → Call B) (kept : Kept) (xs ys : List Heard) (a : A) (b : B)
    → IsDoneOn (call kept) xs a → IsDoneOn (f a (kept_from kept (entries xs))) ys b → IsDoneOn (followed call f kept) (xs ++ ys) b
followed_done call f kept xs ys a b d e = record {
  says = going_on_says kept (call kept) f xs ys a d.says d.done e.says;
  done = going_on_left kept (call kept) f xs ys a d.says d.done ∙ e.done;
}

-- ---- the same of two programs of one call

-- what is left
pub and_then_left : {A B : Type 0} (p : Program A) (f : A → Program B) (xs ys : List Heard) (a : A) → Says p xs → left p xs ≡ Done a
    → left (and_then p f) (xs ++ ys) ≡ left (f a) ys
and_then_left p f [] ys a s d = ap (λ q. left (and_then q f) ys) d
and_then_left (Do o op next) f (x ∷ xs) ys a s d = and_then_left (next x) f xs ys a s.1 d
and_then_left (Done b) f (x ∷ xs) ys a s d = absurd (cc s.0)
and_then_left Early f (x ∷ xs) ys a s d = absurd (cc s.0)
and_then_left Wrong f (x ∷ xs) ys a s d = absurd (cc s.0)

-- what both say
pub and_then_says : {A B : Type 0} (p : Program A) (f : A → Program B) (xs ys : List Heard) (a : A) → Says p xs → left p xs ≡ Done a
    → Says (f a) ys → Says (and_then p f) (xs ++ ys)
and_then_says p f [] ys a s d t = same_says (and_then p f) (f a) ys (ap (λ q. and_then q f) d) t
and_then_says (Do o op next) f (x ∷ xs) ys a s d t = (s.0, and_then_says (next x) f xs ys a s.1 d t)
and_then_says (Done b) f (x ∷ xs) ys a s d t = absurd (cc s.0)
and_then_says Early f (x ∷ xs) ys a s d t = absurd (cc s.0)
and_then_says Wrong f (x ∷ xs) ys a s d t = absurd (cc s.0)

-- both are done
pub and_then_done : {A B : Type 0} (p : Program A) (f : A → Program B) (xs ys : List Heard) (a : A) (b : B) → IsDoneOn p xs a
    → IsDoneOn (f a) ys b → IsDoneOn (and_then p f) (xs ++ ys) b
and_then_done p f xs ys a b d e = record {
  says = and_then_says p f xs ys a d.says d.done e.says;
  done = and_then_left p f xs ys a d.says d.done ∙ e.done;
}
