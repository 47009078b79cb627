-- A round: the tasks of one station, from its opening to its closing. Here `can_start` and `has_done` are the ghost members of a `Work`.
use Rattle.std.specs.Prelude.{◌≡◌, ℕ, ◌<◌, ◌≤◌, List, length, slice_index_or}
use Rattle.std.specs.List.{AllByRecursion}
use Rattle.mv_wait.specs.Prelude.{Setup, Entry, BoardFace, CallerFace, AreInOrder, IsIn, Legal, after, events_limit}
use Rattle.mv_machine.specs.Prelude.{KeepsBudgets}
use Rattle.mv_board.specs.Faces.{AreHeld}

-- on any new station of this configuration each task can start, in the room with its number
pub record CanRun {W Room : Type 0} (can_start : W → BoardFace → ℕ → Room → Type 0) (c : Setup) (work : W) (rooms : List Room)
    : Type 0 where
  pub count : length rooms ≡ c.callers
  pub start : (b : BoardFace) (k : ℕ) (room : Room) → b.config ≡ c → k < length rooms → can_start work b k (slice_index_or rooms k room)

-- all tasks of a station of this configuration have done this work; these are their rooms, the numbers in the volumes, and the history
pub record IsRound {W Room : Type 0} (can_start : W → BoardFace → ℕ → Room → Type 0)
    (has_done : W → BoardFace → ℕ → Room → CallerFace → Room → Type 0) (c : Setup) (work : W) (rooms : List Room) (volumes : List ℕ)
    (es : List Entry) : Type 0 where
  pub station : BoardFace
  pub config : station.config ≡ c
  pub tasks : List CallerFace
  pub order : AreInOrder station 0 tasks
  pub all : length tasks ≡ c.callers
  pub count : length rooms ≡ c.callers
  -- each task from the room that it could start in
  pub done : (k : ℕ) (room : Room) (task : CallerFace) → k < c.callers
      → (old : Room) × can_start work station k old
      × has_done work station k old (slice_index_or tasks k task) (slice_index_or rooms k room)
  -- the station, when it was closed
  pub legal : Legal c es
  pub budgets : KeepsBudgets c es
  pub few : length es ≤ events_limit
  pub callers : AllByRecursion (IsIn c es) tasks
  pub held : AreHeld c (after c es) volumes
