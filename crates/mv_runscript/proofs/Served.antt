-- Services and calls that a task was served with, one after the other.
use Rattle.std.proofs.Common.{◌≡◌, ℕ, ◌+◌, ◌≤◌, sym, ap, ◌∙◌, subst, arith}
use Rattle.mv_board.specs.Faces.{CallerFace}
use Rattle.mv_calls.specs.Keeping.{kept_of}
use Rattle.mv_calls.specs.Program.{Done, Call, followed, finished}
use Rattle.mv_calls.specs.Rest.{IsAtRest}
use Rattle.mv_wait.specs.Run.{Runs, IsServed}
use Rattle.mv_script.specs.declared.answer.Answer.{Answer}
use Rattle.mv_wait.proofs.Compose.{runs_followed}
use Rattle.mv_wait.proofs.Runs.{runs_none, runs_within, serves, served_runs}

-- more may be said of the answer, and more events allowed
pub served_so : {A : Type 0} (most more : ℕ) (call : Call A) (Is As : A → Type 0) (t u : CallerFace) → most ≤ more
    → ((a : A) → Is a → As a) → IsServed most call Is t u → IsServed more call As t u
served_so most more call Is As t u le so s =
    serves more call As t u s.answer s.made.began (so s.answer s.is)
    (runs_within most more (call (kept_of t.number t.log)) (Done s.answer) t u le (served_runs most call Is t u s)) s.made.rest

-- nothing was done
pub served_none : {A : Type 0} (call : Call A) (a : A) (Is : A → Type 0) (t : CallerFace) → call (kept_of t.number t.log) ≡ Done a → Is a
    → IsAtRest t.log → IsServed 0 call Is t t
served_none call a Is t ends is quiet =
    serves 0 call Is t t a quiet is
    (subst (λ q. Runs 0 (call (kept_of t.number t.log)) q t t) ends (runs_none (call (kept_of t.number t.log)) t)) quiet

-- a call that was done, and what followed it
pub served_followed : {A B : Type 0} (i j : ℕ) (call : Call A) (f : A → Call B) (a : A) (Is : B → Type 0) (t u v : CallerFace)
    → IsServed i call (λ b. b ≡ a) t u → IsServed j (f a) Is u v → IsServed (i + j) (followed call f) Is t v
served_followed i j call f a Is t u v s r =
    serves (i + j) (followed call f) Is t v r.answer s.made.began r.is
    (runs_followed i j call f a (Done r.answer) t u v
    (subst (λ b. Runs i (call (kept_of t.number t.log)) (Done b) t u) s.is (served_runs i call (λ b. b ≡ a) t u s))
    (served_runs j (f a) Is u v r)) r.made.rest

-- a call that was done, and an answer that is made of its own
pub served_then : {A B : Type 0} (most : ℕ) (call : Call A) (g : A → B) (Is : A → Type 0) (As : B → Type 0) (t u : CallerFace)
    (s : IsServed most call Is t u) → As (g s.answer) → IsServed most (followed call (λ a. finished (g a))) As t u
served_then most call g Is As t u s is =
    serves most (followed call (λ a. finished (g a))) As t u (g s.answer) s.made.began is
    (runs_within (most + 0) most (followed call (λ a. finished (g a)) (kept_of t.number t.log)) (Done (g s.answer)) t u (omega arith)
    (runs_followed most 0 call (λ a. finished (g a)) s.answer (Done (g s.answer)) t u u (served_runs most call Is t u s)
    (runs_none (Done (g s.answer)) u))) s.made.rest

-- a service whose answer is known, and what that is as the answer of a call
pub served_with : {A : Type 0} {most : ℕ} {call : Call A} {f : A → Answer} {a : A} {reply : Answer} {t u : CallerFace} → reply ≡ f a
    → IsServed most call (λ b. b ≡ a) t u → IsServed most call (λ b. f b ≡ reply) t u
served_with {A} {most} {call} {f} {a} {reply} {t} {u} is s =
    served_so most most call (λ b. b ≡ a) (λ b. f b ≡ reply) t u (omega arith) (λ b same. ap f same ∙ sym is) s
