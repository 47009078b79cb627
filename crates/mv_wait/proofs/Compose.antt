-- Calls within calls, and calls one after the other.
use Rattle.std.proofs.Common.{◌≡◌, ℕ, ◌+◌, ◌≤◌, ◌++◌, refl, sym, ap, ◌∙◌, subst, arith, length-append}
use Rattle.mv_board.specs.Faces.{BoardFace, CallerFace, IsOf, IsFresh}
use Rattle.mv_config.specs.Setup.{Setup}
use Rattle.mv_config.specs.Reach.{reach}
use Rattle.mv_calls.specs.declared.outcomes.PostAnswer.{PostAnswer}
use Rattle.mv_calls.specs.Keeping.{Kept, kept_from, kept_of, nothing_kept}
use Rattle.mv_calls.specs.Posts.{post, wake_posted}
use Rattle.mv_calls.specs.Program.{Program, Done, Call, Says, and_then, left, entries, followed}
use Rattle.mv_calls.specs.Rest.{IsAtRest}
use Rattle.mv_calls.proofs.Making.{kept_from-append}
use Rattle.mv_calls.proofs.Programs.{and_then_says, and_then_left, going_on_left, going_on_says}
use Rattle.std.specs.Prelude.{Some}
use Rattle.mv_wait.specs.Run.{Runs, IsServed, MayCall}
use Rattle.mv_wait.proofs.Runs.{went_then, served_runs}

-- a program of a call, and the one that follows it in the same call
pub runs_and_then : {A B : Type 0} (m n : ℕ) (p : Program A) (f : A → Program B) (a : A) (q : Program B) (t u v : CallerFace)
    → Runs m p (Done a) t u → Runs n (f a) q u v
    → Runs (m + n) (and_then p f) q t v
runs_and_then m n p f a q t u v x y = record {
  events = x.events ++ y.events;
  went = went_then x.events y.events t u v x.went y.went;
  few = (let i = x.few in let j = y.few in let e = length-append x.events y.events in omega arith);
  says = and_then_says p f x.events y.events a x.says x.leaves y.says;
  leaves = and_then_left p f x.events y.events a x.says x.leaves ∙ y.leaves;
}

-- a call that was run to its end, and what was run of the one that follows it
pub runs_followed : {A B : Type 0} (i j : ℕ) (call : Call A) (f : A → Call B) (a : A) (q : Program B) (t u v : CallerFace)
    → Runs i (call (kept_of t.number t.log)) (Done a) t u → Runs j (f a (kept_of u.number u.log)) q u v
    → Runs (i + j) (followed call f (kept_of t.number t.log)) q t v
runs_followed i j call f a q t u v x y = record {
  events = x.events ++ y.events;
  went = went_then x.events y.events t u v x.went y.went;
  few = (let m = x.few in let n = y.few in let e = length-append x.events y.events in omega arith);
  says = going_on_says (kept_of t.number t.log) (call (kept_of t.number t.log)) f x.events y.events a x.says x.leaves
      (subst (λ k. Says (f a k) y.events) then y.says);
  leaves = going_on_left (kept_of t.number t.log) (call (kept_of t.number t.log)) f x.events y.events a x.says x.leaves
      ∙ sym (ap (λ k. left (f a k) y.events) then) ∙ y.leaves;
} where
  then : kept_of u.number u.log ≡ kept_from (kept_of t.number t.log) (entries x.events)
  then = ap (λ k. kept_of k u.log) x.went.same.number ∙ ap (λ es. kept_of t.number es) x.went.logged
      ∙ kept_from-append (nothing_kept t.number) t.log (entries x.events)

-- a post that a wake or an end of a job asks for, and what follows it. The post looks at nothing that is kept
pub post_within_call : {A : Type 0} (c : Setup) (e code n : ℕ) (kept : Kept) (Is : PostAnswer → Type 0) (last q : Program A)
    (t u v : CallerFace)
    → IsServed (reach c e) (post c e code) Is t u → Runs n last q u v → Runs (reach c e + n) (wake_posted c (Some e) code kept last) q t v
post_within_call c e code n kept Is last q t u v s y =
    runs_and_then (reach c e) n (post c e code kept) (λ p. last) s.answer q t u v (served_runs (reach c e) (post c e code) Is t u s) y

-- a task that was served is still of its station
pub still_served : {A : Type 0} (b : BoardFace) (most : ℕ) (call : Call A) (Is : A → Type 0) (t u : CallerFace)
    → IsServed most call Is t u → IsOf b t → IsOf b u
still_served b most call Is t u s of = (s.same.table ∙ of.0, s.same.about ∙ of.1)

-- and the same task
pub served_number : {A : Type 0} (most : ℕ) (call : Call A) (Is : A → Type 0) (t u : CallerFace) → IsServed most call Is t u
    → u.number ≡ t.number
served_number most call Is t u s = s.same.number

-- and at rest
pub served_rest : {A : Type 0} (most : ℕ) (call : Call A) (Is : A → Type 0) (t u : CallerFace) → IsServed most call Is t u → IsAtRest u.log
served_rest most call Is t u s = s.made.rest

-- and has lost no more events than the call may need
pub served_left : {A : Type 0} (most : ℕ) (call : Call A) (Is : A → Type 0) (t u : CallerFace) → IsServed most call Is t u
    → t.left ≤ u.left + most
served_left most call Is t u s = let few = s.made.few in let left = s.left in omega arith

-- all of this, for whoever makes one call after another
pub ruleset served = (still_served, served_number, served_rest, served_left)

-- ---- the head of a call

-- a task that may begin a call of n events may begin one of fewer
pub may_less : (b : BoardFace) (m n : ℕ) (t : CallerFace) → MayCall b n t → m ≤ n → MayCall b m t
may_less b m n t may le = let left = may.left in record { board = may.board; rest = may.rest; left = omega arith }

-- after a call, the task may begin one of the events that the call did not need
pub may_still : {A : Type 0} (b : BoardFace) (most m n : ℕ) (call : Call A) (Is : A → Type 0) (t u : CallerFace)
    → IsServed most call Is t u → MayCall b n t → m + most ≤ n → MayCall b m u
may_still b most m n call Is t u s may le =
    let less = served_left most call Is t u s in
    let left = may.left in record {
      board = still_served b most call Is t u s may.board;
      rest = served_rest most call Is t u s;
      left = omega arith;
    }

-- a new task may begin a call of all events that are left to it
pub may_fresh : (b : BoardFace) (k n : ℕ) (t : CallerFace) → IsFresh b k t → n ≤ t.left → MayCall b n t
may_fresh b k n t fresh le = record {
  board = fresh.board;
  rest = subst IsAtRest (sym fresh.log) (record { armed = λ n. refl; parked = λ n. refl; queued = λ latch id. refl });
  left = le;
}
