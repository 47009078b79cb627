-- The requests that a task keeps.
use Rattle.std.specs.Prelude.{ℕ, ◌==◌, Bool}
use Rattle.std.specs.List.{list_any}
use Rattle.mv_board.specs.Faces.{CallerFace}
use Rattle.mv_calls.specs.Keeping.{kept_of}

-- whether a request of this number stands, by the task's log
abbrev pub stands : CallerFace → ℕ → Bool
stands t id = list_any (λ r. r.request.id == id) (kept_of t.number t.log).requests
