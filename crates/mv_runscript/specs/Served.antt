-- The services that a task has made, with the answers that the calls of a script show.
use Rattle.std.specs.Prelude.{◌≡◌}
use Rattle.mv_board.specs.Faces.{CallerFace}
use Rattle.mv_calls.specs.Keeping.{kept_of}
use Rattle.mv_calls.specs.Services.{Service, most_events}
use Rattle.mv_calls.specs.Services as service
use Rattle.mv_config.specs.Setup.{Setup}
use Rattle.mv_wait.specs.Run.{IsServed}
use Rattle.mv_script.specs.declared.answer.Answer.{Answer}
use Rattle.mv_script.specs.Answered.{answer_to}

-- the task has made this service, and a call that uses it has this answer
abbrev pub MakesService : Setup → Service → Answer → CallerFace → CallerFace → Type 0
MakesService c s answer t u = IsServed (most_events c (kept_of t.number t.log) s) (service.program c s) (λ a. answer_to s a ≡ answer) t u
