-- A call that a task has run a part of: calls one after the other, and what is left to do.
use Rattle.std.proofs.Common.{◌≡◌, ℕ, ◌+◌, ◌≤◌, List, [], ◌∷◌, ◌++◌, refl, sym, ap, ◌∙◌, subst, arith}
use Rattle.mv_board.specs.Faces.{BoardFace, CallerFace, IsOf, IsSame}
use Rattle.mv_calls.specs.Keeping.{Kept, kept_after, kept_from, kept_of, nothing_kept}
use Rattle.mv_calls.specs.Program.{Program, Do, Done, Wrong, Call, Heard, Says, left, entries, heard, going_on, followed, finished}
use Rattle.mv_calls.specs.Program.{wrong}
use Rattle.mv_calls.specs.Rest.{IsAtRest}
use Rattle.mv_calls.proofs.Making.{kept_from-append}
use Rattle.mv_calls.proofs.Programs.{one_on, same_says, left-append, Says-append}
use Rattle.mv_wait.specs.Run.{IsServed}
use Rattle.mv_wait.proofs.Runs.{served_runs, went_none, went_then}
use Rattle.mv_work.specs.Ran.{Ran, RanOut, Leads}

-- ---- what was served was run

pub served_ran : {A : Type 0} {most : ℕ} {call : Call A} {Is : A → Type 0} {t u : CallerFace} (s : IsServed most call Is t u)
    → Ran call (Done s.answer) t u
served_ran {A} {most} {call} {Is} {t} {u} s =
    let runs = served_runs most call Is t u s in
    record { events = runs.events; went = runs.went; says = runs.says; leaves = runs.leaves; quiet = s.made.rest }

-- with an answer that is known
pub served_as : {A : Type 0} {most : ℕ} {call : Call A} {a : A} {t u : CallerFace} → IsServed most call (λ b. b ≡ a) t u
    → Ran call (Done a) t u
served_as {A} {most} {call} {a} {t} {u} s = subst (λ b. Ran call (Done b) t u) s.is (served_ran s)

-- it was of no more events than it may need
pub served_few : {A : Type 0} {most : ℕ} {call : Call A} {Is : A → Type 0} {t u : CallerFace} → IsServed most call Is t u
    → t.left ≤ u.left + most
served_few s = let few = s.made.few in let left = s.left in omega arith

-- the same task is of the same board
pub still_of : (b : BoardFace) {t u : CallerFace} → IsOf b t → IsSame t u → IsOf b u
still_of b of same = (same.table ∙ of.0, same.about ∙ of.1)

-- ---- runs one after the other

-- what the task keeps after a call
kept_then : {A : Type 0} {call : Call A} {q : Program A} {t u : CallerFace} (r : Ran call q t u)
    → kept_of u.number u.log ≡ kept_from (kept_of t.number t.log) (entries r.events)
kept_then {A} {call} {q} {t} {u} r = ap (λ k. kept_of k u.log) r.went.same.number ∙ ap (λ es. kept_of t.number es) r.went.logged
    ∙ kept_from-append (nothing_kept t.number) t.log (entries r.events)

-- nothing was done
pub ran_nothing : {A : Type 0} (call : Call A) {q : Program A} {t : CallerFace} → call (kept_of t.number t.log) ≡ q → IsAtRest t.log
    → Ran call q t t
ran_nothing call {q} {t} is quiet = record { events = []; went = went_none t; says = tt; leaves = is; quiet = quiet }

-- what is left of a program is left of it with whatever was to follow
left_on : {A B : Type 0} (kept : Kept) (p : Program A) (f : A → Call B) (xs : List Heard) (r : Program A) → Says p xs → left p xs ≡ r
    → Says (going_on kept p f) xs × (left (going_on kept p f) xs ≡ going_on (kept_from kept (entries xs)) r f)
left_on kept p f [] r s d = (tt, ap (λ q. going_on kept q f) d)
left_on kept (Do o op next) f (x ∷ xs) r s d =
    let later = left_on (kept_after kept x.entry.object x.entry.op x.entry.reply) (next x) f xs r s.1 d in
    let one = one_on kept o op next f x s.0 in (
      (
        s.0,
        same_says (heard (going_on kept (Do o op next) f) x)
            (going_on (kept_after kept x.entry.object x.entry.op x.entry.reply) (next x) f) xs one later.0,
      ),
      ap (λ q. left q xs) one ∙ later.1,
    )
left_on kept p f (x ∷ xs) r s d = absurd (cc s.0)

-- a call was run up to this program, and then what is to follow that
ran_on : {A B : Type 0} {call : Call A} {p : Program A} {q : Program B} {t u v : CallerFace} → Ran call p t u → (f : A → Call B)
    → (later : Call B) → going_on (kept_of u.number u.log) p f ≡ later (kept_of u.number u.log) → Ran later q u v
    → Ran (followed call f) q t v
ran_on {call = call} {p = p} {t = t} x f later so y =
    let on = left_on (kept_of t.number t.log) (call (kept_of t.number t.log)) f x.events p x.says x.leaves in
    let is = on.1 ∙ sym (ap (λ kept. going_on kept p f) (kept_then x)) ∙ so in record {
      events = x.events ++ y.events;
      went = went_then x.events y.events t _ _ x.went y.went;
      says = Says-append (followed call f (kept_of t.number t.log)) x.events y.events on.0 (subst (λ p. Says p y.events) (sym is) y.says);
      leaves = left-append (followed call f (kept_of t.number t.log)) x.events y.events ∙ ap (λ p. left p y.events) is ∙ y.leaves;
      quiet = y.quiet;
    }

-- a call that was done, and what followed it
pub ran_followed : {A B : Type 0} {call : Call A} {a : A} {q : Program B} {t u v : CallerFace} → Ran call (Done a) t u
    → (f : A → Call B) → Ran (f a) q u v → Ran (followed call f) q t v
ran_followed {a = a} x f y = ran_on x f (f a) refl y

-- and where nothing did
pub ran_last : {A B : Type 0} {call : Call A} {a : A} {q : Program B} {t u : CallerFace} → Ran call (Done a) t u → (f : A → Call B)
    → f a (kept_of u.number u.log) ≡ q → Ran (followed call f) q t u
ran_last {A} {B} {call} {a} x f is = ran_followed x f (ran_nothing (f a) is x.quiet)

-- a call that went wrong is wrong with whatever was to follow
pub ran_astray : {A B : Type 0} {call : Call A} {t u : CallerFace} → Ran call Wrong t u → (f : A → Call B)
    → Ran (followed call f) Wrong t u
ran_astray x f = ran_on x f wrong refl (ran_nothing wrong refl x.quiet)

-- ---- what is left to do of a call

pub leads_all : {A : Type 0} (whole : Call A) (t : CallerFace) → Leads whole whole t t
leads_all whole t q v r = r

-- the task is the same
pub leads_same : {A : Type 0} {whole later : Call A} {t u : CallerFace} → Leads whole later t u → IsAtRest u.log → IsSame t u
leads_same {later = later} {u = u} k quiet = (k (later (kept_of u.number u.log)) u (ran_nothing later refl quiet)).went.same

-- the next call of the later part was done
pub leads_on : {A B : Type 0} {whole : Call B} {call : Call A} {a : A} {t u v : CallerFace} (f : A → Call B)
    → Leads whole (followed call f) t u → Ran call (Done a) u v → Leads whole (f a) t v
leads_on f k x q w r = k q w (ran_followed x f r)

-- and went astray
pub leads_astray : {A B : Type 0} {whole : Call B} {call : Call A} {t u v : CallerFace} (f : A → Call B)
    → Leads whole (followed call f) t u → Ran call Wrong u v → Ran whole Wrong t v
leads_astray {A} {B} {whole} {call} {t} {u} {v} f k x = k Wrong v (ran_astray x f)

-- nothing is left to do
pub leads_done : {A : Type 0} {whole : Call A} {a : A} {t u : CallerFace} → Leads whole (finished a) t u → IsAtRest u.log
    → Ran whole (Done a) t u
leads_done {A} {whole} {a} {t} {u} k quiet = k (Done a) u (ran_nothing (finished a) refl quiet)

-- the later part of the later part
pub leads_then : {A : Type 0} {whole later last : Call A} {t u v : CallerFace} → Leads whole later t u → Leads later last u v
    → Leads whole last t v
leads_then k l q w r = k q w (l q w r)

-- a call was run up to this later part of it: so it was with whatever is to follow
pub leads_under : {A B : Type 0} {call later : Call A} {t u : CallerFace} (f : A → Call B) → Leads call later t u → IsAtRest u.log
    → Leads (followed call f) (followed later f) t u
leads_under {later = later} {u = u} f k quiet q v y =
    ran_on (k (later (kept_of u.number u.log)) u (ran_nothing later refl quiet)) f (followed later f) refl y

-- ---- all events were made

pub out_done : {A : Type 0} {call : Call A} {a : A} {t u : CallerFace} → Ran call (Done a) t u → RanOut call a t u
out_done {A} {call} {a} r = record { last = Done a; over = refl; ran = r }

pub out_wrong : {A : Type 0} {call : Call A} (a : A) {t u : CallerFace} → Ran call Wrong t u → RanOut call a t u
out_wrong a r = record { last = Wrong; over = tt; ran = r }

-- what is left to do was run out: so was the whole
pub leads_out : {A : Type 0} {whole later : Call A} {a : A} {t u v : CallerFace} → Leads whole later t u → RanOut later a u v
    → RanOut whole a t v
leads_out {A} {whole} {later} {a} {t} {u} {v} k r = record { last = r.last; over = r.over; ran = k r.last v r.ran }

-- what is left to do is foreseen nowhere
pub astray : {A : Type 0} {whole later : Call A} {t u : CallerFace} → Leads whole later t u → later ≡ wrong → IsAtRest u.log
    → Ran whole Wrong t u
astray {later = later} {u = u} k is quiet = k Wrong u (ran_nothing later (ap (λ call. call (kept_of u.number u.log)) is) quiet)
