-- One post of a call, and the blocks that are still to be posted after it.
use Rattle.std.specs.Prelude.{◌≡◌, ℕ, ◌<◌, ◌≤◌, ◌+◌, List, ◌++◌, length, reverse, Option, Some, None}
use Rattle.std.specs.List.{AllByRecursion}
use Rattle.mv_config.specs.Limits.{events_limit}
use Rattle.mv_config.specs.Reach.{reach, total}
use Rattle.mv_ecb.specs.declared.operation.EcbOp.TheVariants.{Post}
use Rattle.mv_ecb.specs.declared.operation.EcbReply.{EcbReply}
use Rattle.mv_ecb.specs.declared.operation.EcbReply.TheVariants as ecb_reply
use Rattle.mv_machine.specs.declared.entry.Object.TheVariants.{Ecb}
use Rattle.mv_machine.specs.declared.entry.Op.TheVariants as op_on
use Rattle.mv_machine.specs.declared.entry.Reply.{Reply}
use Rattle.mv_machine.specs.declared.entry.Reply.TheVariants as reply_of
use Rattle.mv_config.specs.Setup.{Setup}
use Rattle.mv_board.specs.Faces.{CallerFace, Happened}
use Rattle.mv_calls.specs.declared.outcomes.PostAnswer.{PostAnswer}
use Rattle.mv_calls.specs.declared.outcomes.PostAnswer.TheVariants as answer
use Rattle.mv_calls.specs.Posts.{posted_next}

-- the answer that a reply to a post gives
abbrev pub answer_in : Reply → Option PostAnswer
answer_in (reply_of.Ecb ecb_reply.Posted) = Some answer.Posted
answer_in (reply_of.Ecb (ecb_reply.Woke exit)) = Some answer.Woke
answer_in (reply_of.Ecb (ecb_reply.Already code)) = Some (answer.Already code)
answer_in reply = None

-- the exit that a reply to a post runs, or 0
abbrev pub exit_in : Reply → ℕ
exit_in (reply_of.Ecb (ecb_reply.Woke exit)) = exit
exit_in reply = 0

-- the targets ts of an exit of block e exist and have higher numbers, and posting all of them and e makes at most `reach c e`
-- events, if that number is exact (at most `events_limit`)
pub record Leads (c : Setup) (e : ℕ) (ts : List ℕ) : Type 0 where
  pub up : AllByRecursion (λ t. (e < t) × (t < length c.owners)) ts
  pub cost : reach c e ≤ events_limit → total (reach c) ts + 1 ≤ reach c e

-- the block e was posted with this code, and the targets of the exit that this runs were added to the pending blocks, the first
-- target last
pub record PostedOne (c : Setup) (code e : ℕ) (t : CallerFace) (before : List ℕ) (result : PostAnswer) (u : CallerFace)
    (since : List ℕ) : Type 0 where
  pub reply : EcbReply
  pub answer : answer_in (reply_of.Ecb reply) ≡ Some result
  pub event : Happened t (Ecb e) (op_on.Ecb (Post code)) (reply_of.Ecb reply) u
  pub few : t.left ≤ events_limit
  pub leads : Leads c e (posted_next c reply)
  pub pending : since ≡ before ++ reverse (posted_next c reply)
