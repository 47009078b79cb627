-- A check, by what its confirm was answered.
use Rattle.std.proofs.Common.{◌≡◌, ℕ, refl, subst}
use Rattle.mv_latch.specs.declared.operation.LatchOp.TheVariants.{Confirm}
use Rattle.mv_latch.specs.declared.operation.LatchReply.{LatchReply}
use Rattle.mv_latch.specs.declared.operation.LatchReply.TheVariants as latch_reply
use Rattle.mv_machine.specs.declared.entry.Object.TheVariants.{Latches}
use Rattle.mv_machine.specs.declared.entry.Op.TheVariants as op_on
use Rattle.mv_machine.specs.declared.entry.Reply.{Reply}
use Rattle.mv_board.specs.Faces.{CallerFace, Happened}
use Rattle.mv_calls.specs.LatchCalls.{check_latch, checked}
use Rattle.mv_calls.specs.Program.{Done}
use Rattle.mv_calls.specs.Rest.{IsAtRest}
use Rattle.mv_wait.specs.Run.{IsServed}
use Rattle.mv_wait.proofs.LatchSteps.{latch_runs}
use Rattle.mv_wait.proofs.Runs.{serves}
use Rattle.mv_calls.specs.declared.outcomes.Standing.{Standing}
use Rattle.mv_calls.specs.declared.outcomes.Standing.TheVariants as standing
use Rattle.mv_latchset.specs.Obtaining.{IsAnswered}
use Rattle.mv_latchset.specs.Replies.{HasStanding}
use Rattle.mv_latchset.proofs.Resting.{confirm_rests}

checked_by : (latch id : ℕ) (t u : CallerFace) (r : LatchReply) (s : Standing) → IsAnswered (Confirm latch id) r t u
    → checked r ≡ Done s → IsAtRest t.log → IsServed 1 (check_latch latch id) (λ a. a ≡ s) t u
checked_by latch id t u r s h goes rest =
    serves 1 (check_latch latch id) (λ a. a ≡ s) t u s rest refl
    (latch_runs (λ ws. checked) (Done s) t u (Confirm latch id) r h goes) (confirm_rests t u latch id r h rest)

pub check_served : (latch id : ℕ) (t u : CallerFace) (reply : Reply) (s : Standing)
    → Happened t Latches (op_on.Latch (Confirm latch id)) reply u → HasStanding reply s → IsAtRest t.log
    → IsServed 1 (check_latch latch id) (λ a. a ≡ s) t u
check_served latch id t u reply standing.Granted h has rest =
    checked_by latch id t u (latch_reply.Granted has.0) standing.Granted
    (subst (λ r. Happened t Latches (op_on.Latch (Confirm latch id)) r u) has.1 h) refl rest
check_served latch id t u reply standing.Waiting h has rest =
    checked_by latch id t u latch_reply.Waiting standing.Waiting
    (subst (λ r. Happened t Latches (op_on.Latch (Confirm latch id)) r u) has h) refl rest
check_served latch id t u reply standing.Gone h has rest =
    checked_by latch id t u latch_reply.Gone standing.Gone
    (subst (λ r. Happened t Latches (op_on.Latch (Confirm latch id)) r u) has h) refl rest
