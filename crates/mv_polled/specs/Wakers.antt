-- The wakers that the futures of calls leave for their sources, and how a ring takes them.
use Rattle.std.specs.Prelude.{◌≡◌, ℕ, ◌<◌, ◌==◌, false, List, length, map, get_or, Option, None, IsSome, ◌⊎◌, if◌then◌else◌}
use Rattle.futures.specs.Task.{Hears}
use Rattle.futures.specs.declared.task.context.Context.{Context}
use Rattle.futures.specs.declared.task.waker.Waker.{Waker}
use Rattle.mv_board.specs.declared.watch.Watch.{Watch}
use Rattle.mv_board.specs.declared.watch.Watch.TheVariants as watch
use Rattle.mv_wait.specs.Ready.{has_ready}
use Rattle.mv_polled.specs.Keys.{key_of}

-- a place for the waker of each block, all of them empty
abbrev pub no_wakers : List ℕ → List (Option Waker)
no_wakers es = map (λ e. None) es

-- the poll is registered with every source, as it is once it has asked for another poll
abbrev pub HearsAll : Context → Type 0
HearsAll cx = (s : ℕ) → Hears cx s

-- Each of the first n blocks that is not ready has a waker at its place, or the poll has asked for another poll, as it
-- does if there is no memory for a waker.
abbrev pub HaveWakers : ℕ → List Watch → List ℕ → List (Option Waker) → Context → Type 0
HaveWakers n ready es wakers cx =
    (k : ℕ) → k < n → has_ready ready (get_or es k 0) ≡ false → IsSome (get_or wakers k None) ⊎ HearsAll cx

-- what a ring leaves of the waker for a key: nothing if that key is rung, otherwise the waker
abbrev pub waker_left : ℕ → ℕ → Option Waker → Option Waker
waker_left rung own waker = if own == rung then None else waker

-- A key was rung: the wakers of the blocks with this key were taken, and all others are unchanged.
pub record AreRung (rung : ℕ) (es : List ℕ) (old new : List (Option Waker)) : Type 0 where
  pub each : (k : ℕ) → k < length es → get_or new k None ≡ waker_left rung (key_of (watch.Ecb (get_or es k 0))) (get_or old k None)
  pub size : length new ≡ length old
