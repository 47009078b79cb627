-- The parts of a transfer, and the reasons for which it is refused.
use Rattle.std.specs.Prelude.{◌≡◌, ℕ, List, Option, Some, None, Result, Ok, Err}
use Rattle.mv_element.specs.declared.element.Token.{Token}
use Rattle.mv_element.specs.declared.operation.ElementOp.TheVariants.{Release}
use Rattle.mv_element.specs.declared.operation.ElementReply.TheVariants as element_reply
use Rattle.mv_machine.specs.declared.entry.Entry.{Entry}
use Rattle.mv_config.specs.Setup.{Setup}
use Rattle.mv_board.specs.Faces.{CallerFace}
use Rattle.mv_calls.specs.Keeping.{kept_of}
use Rattle.mv_calls.specs.Pauses.{pause_current, transfer_refusal}
use Rattle.mv_calls.specs.Program.{Done}
use Rattle.mv_calls.specs.Refusal.{Refusal}
use Rattle.mv_calls.specs.Refusal as refusal
use Rattle.mv_wait.specs.Run.{Runs}
use Rattle.mv_pause.specs.Answers.{transfer_answer, transfer_refused}
use Rattle.mv_pause.specs.Pausing.{IsGiven}
use Rattle.mv_pause.specs.Replies.{HappenedOn}
use Rattle.mv_calls.specs.declared.outcomes.Given.{Given}
use Rattle.mv_calls.specs.declared.outcomes.ReleaseAnswer.{ReleaseAnswer}
use Rattle.mv_pause.specs.declared.releasing.ReleaseRefusal.{ReleaseRefusal}
use Rattle.mv_pause.specs.declared.releasing.ReleaseRefusal.TheVariants as release_refusal
use Rattle.mv_pause.specs.declared.transferring.TransferRefusal.{TransferRefusal}
use Rattle.mv_pause.specs.declared.transferring.TransferRefusal.TheVariants as refused

-- how many events the pause of a transfer makes at most: two if there is a current token, otherwise none
abbrev pub pause_cost : Option Token → ℕ
pause_cost None = 0
pause_cost (Some t) = 2

-- the second part of a transfer was made: the pause with the current token, if there is one
abbrev pub IsPausedBy : Setup → Option Token → Option Given → CallerFace → CallerFace → Type 0
IsPausedBy c current result t u =
    Runs (pause_cost current) (pause_current c current (kept_of t.number t.log)) (Done (transfer_answer (Ok result))) t u

-- the answer of a transfer has what its pause was given, exactly if there is a current token
abbrev pub IsGivenTo : Option Token → Option Given → List Entry → Type 0
IsGivenTo None given log = given ≡ None
IsGivenTo (Some token) None log = ⊥
IsGivenTo (Some token) (Some given) log = IsGiven token given log

-- the reason for which a transfer is refused after its release of the target had this answer, if there is one
abbrev pub target_refused : Result ReleaseAnswer ReleaseRefusal → Option Refusal
target_refused (Ok answer) = None
target_refused (Err (release_refusal.Spent now)) = Some (refusal.TargetSpent now)
target_refused (Err release_refusal.Already) = Some refusal.TargetAlready

-- the transfer is refused because of its current token, and the task made no event
abbrev pub IsTransferRefused : Setup → Option Token → CallerFace → TransferRefusal → CallerFace → Type 0
IsTransferRefused c current t why u = (transfer_refusal c current (kept_of t.number t.log) ≡ Some (transfer_refused why)) × (u ≡ t)

-- The reason for which a transfer failed: it is refused without an event, or its one event is a release of the target that was
-- refused. Either way no task was released, and the caller did not pause.
abbrev pub IsTransferCause : Setup → Option Token → Token → ℕ → CallerFace → TransferRefusal → CallerFace → Type 0
IsTransferCause c current target code t refused.NotOwner u = IsTransferRefused c current t refused.NotOwner u
IsTransferCause c current target code t (refused.Spent now) u = IsTransferRefused c current t (refused.Spent now) u
IsTransferCause c current target code t (refused.TargetSpent now) u =
    (transfer_refusal c current (kept_of t.number t.log) ≡ None)
    × HappenedOn target t (Release target.generation code) (element_reply.Spent now) u
IsTransferCause c current target code t refused.TargetAlready u =
    (transfer_refusal c current (kept_of t.number t.log) ≡ None)
    × HappenedOn target t (Release target.generation code) element_reply.Already u
