-- The futures of polled calls: what a poll requires, for which sources they wait, and which answers they may give.
use Rattle.std.specs.Prelude.{◌≡◌, ℕ, ◌⊎◌, false, List, ◌∷◌, length, Result}
use Rattle.futures.specs.declared.task.source.Source.{Source}
use Rattle.futures.specs.declared.task.Poll.{Poll}
use Rattle.futures.specs.declared.task.Poll.TheVariants.{Ready, Pending}
use Rattle.mv_config.specs.Setup.{Setup}
use Rattle.mv_board.specs.declared.watch.Watch.{Watch}
use Rattle.mv_board.specs.Faces.{BoardFace, CallerFace, IsOf}
use Rattle.mv_calls.specs.declared.outcomes.Given.{Given}
use Rattle.mv_pause.specs.declared.pausing.PauseRefusal.{PauseRefusal}
use Rattle.mv_wait.specs.Ready.{has_ready}
use Rattle.mv_wait.specs.declared.waiting.WaitRefusal.{WaitRefusal}
use Rattle.mv_polled.specs.Pausing.{PauseFace, IsPauseAt, IsPaused}
use Rattle.mv_polled.specs.Waiting.{WaitFace, IsWaitAt, IsWaited}

-- P holds of the answer of a poll of a future, or Q holds if there is no answer yet
abbrev pub MatchPoll : {A : Type 0} → Poll A → (A → Type 0) → Type 0 → Type 0
MatchPoll (Ready a) P Q = P a
MatchPoll Pending P Q = Q

-- a wait may be polled by its future, which has a source for each of its blocks
pub record MayPollWait (b : BoardFace) (t : CallerFace) (w : WaitFace) (sources : List Source) : Type 0 where
  pub task : IsOf b t
  pub stage : (t0 : CallerFace) × IsWaitAt b.config w t0 t
  pub each : length sources ≡ length w.ecbs

-- s is the source of a block that is not ready
abbrev pub NeedsBlock : List Watch → List ℕ → List Source → ℕ → Type 0
NeedsBlock ready (e ∷ es) (x ∷ xs) s = ((has_ready ready e ≡ false) × (s ≡ x.id)) ⊎ NeedsBlock ready es xs s
NeedsBlock ready es xs s = ⊥

-- An answer that the wait may have from its present stage: some continuation of it, which need not be this task's, ends with this
-- answer. That this task made the events of the wait's program, with this answer, is what IsWaited of the new call and the new
-- task says.
abbrev pub GivesWait : Setup → CallerFace → WaitFace → Result (Unit {0}) WaitRefusal → Type 0
GivesWait c t w r = (t0 : CallerFace) → IsWaitAt c w t0 t
    → (v : WaitFace) × (u : CallerFace) × (v.count ≡ w.count) × (v.ecbs ≡ w.ecbs) × IsWaited c v r t0 u

-- a pause may be polled by its future
pub record MayPollPause (b : BoardFace) (t : CallerFace) (p : PauseFace) : Type 0 where
  pub task : IsOf b t
  pub stage : (t0 : CallerFace) × IsPauseAt b.config p t0 t

-- an answer that the pause may have from its present stage, by some continuation of it
abbrev pub GivesPause : Setup → CallerFace → PauseFace → Result Given PauseRefusal → Type 0
GivesPause c t p r = (t0 : CallerFace) → IsPauseAt c p t0 t
    → (q : PauseFace) × (u : CallerFace) × (q.token ≡ p.token) × IsPaused c q r t0 u
