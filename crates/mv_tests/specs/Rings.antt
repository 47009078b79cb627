-- What the executor of the tests keeps of a task between two polls.
use Rattle.std.specs.Prelude.{Option, IfSome}
use Rattle.mv_board.specs.Faces.{BoardFace, CallerFace, IsOf}
use Rattle.mv_polled.specs.Pausing.{PauseFace, IsPauseAt}
use Rattle.mv_polled.specs.Waiting.{WaitFace, IsWaitAt}

-- this is a task of the station, and the call in which it waits, if there is one, may be polled
abbrev pub MayGoOn : BoardFace → CallerFace → Option WaitFace → Option PauseFace → Type 0
MayGoOn b t wait pause = IsOf b t × IfSome wait (λ w. (t0 : CallerFace) × IsWaitAt b.config w t0 t)
    × IfSome pause (λ p. (t0 : CallerFace) × IsPauseAt b.config p t0 t)
