-- Calls one after the other, each of which was served.
use Rattle.std.proofs.Common.{ℕ, ◌+◌, arith}
use Rattle.mv_board.specs.Faces.{CallerFace}
use Rattle.mv_calls.specs.Keeping.{kept_of}
use Rattle.mv_calls.specs.Program.{Program, Done, Call, followed, finished}
use Rattle.mv_wait.specs.Run.{Runs, IsServed}
use Rattle.mv_wait.proofs.Compose.{runs_followed}
use Rattle.mv_wait.proofs.Runs.{runs_none, runs_within, served_runs}

-- a call that was served, and what was run of the one that follows it
pub served_first : {A B : Type 0} (i j : ℕ) (call : Call A) (f : A → Call B) (Is : A → Type 0) (q : Program B) (t u v : CallerFace)
    → (s : IsServed i call Is t u) → Runs j (f s.answer (kept_of u.number u.log)) q u v
    → Runs (i + j) (followed call f (kept_of t.number t.log)) q t v
served_first i j call f Is q t u v s y = runs_followed i j call f s.answer q t u v (served_runs i call Is t u s) y

-- nothing follows but the answer
pub served_last : {A B : Type 0} (i : ℕ) (call : Call A) (b : B) (Is : A → Type 0) (t u : CallerFace) → IsServed i call Is t u
    → Runs i (followed call (λ a. finished b) (kept_of t.number t.log)) (Done b) t u
served_last i call b Is t u s =
    runs_within (i + 0) i (followed call (λ a. finished b) (kept_of t.number t.log)) (Done b) t u (omega arith)
    (served_first i 0 call (λ a. finished b) Is (Done b) t u u s (runs_none (Done b) u))
