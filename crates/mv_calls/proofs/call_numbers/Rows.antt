-- Worked rows of the call numbers, by computing them: legal histories with their numbers, and calls in them.
use Rattle.std.proofs.Common.{◌≡◌, ℕ, true, List, [], ◌∷◌, take, drop, Ok, refl}
use Rattle.mv_ecb.specs.declared.operation.EcbOp.TheVariants as ecb_op
use Rattle.mv_ecb.specs.declared.operation.EcbReply.TheVariants as ecb_reply
use Rattle.mv_element.specs.declared.operation.ElementOp.TheVariants as element_op
use Rattle.mv_element.specs.declared.operation.ElementReply.TheVariants as element_reply
use Rattle.mv_latch.specs.declared.operation.LatchOp.TheVariants as latch_op
use Rattle.mv_latch.specs.declared.operation.LatchReply.TheVariants as latch_reply
use Rattle.mv_latch.specs.declared.request.LatchForm.TheVariants.{Conditional, Waiting, Posted}
use Rattle.mv_latch.specs.declared.request.Mode.TheVariants.{Shared, Exclusive}
use Rattle.mv_machine.specs.declared.entry.Entry.{Entry}
use Rattle.mv_machine.specs.Legal.{Legal}
use Rattle.mv_config.specs.Setup.{Setup}
use Rattle.mv_machine.specs.System.{opening}
use Rattle.mv_calls.specs.Program.{Heard}
use Rattle.mv_calls.specs.declared.outcomes.PostAnswer.TheVariants.{Woke}
use Rattle.mv_calls.specs.Runs.{heard_in}
use Rattle.mv_calls.specs.Numbers.{calls}
use Rattle.mv_calls.specs.OneCall.{IsOneCall}
use Rattle.mv_calls.specs.Services.{Post, ReleaseLatch}
use Rattle.mv_calls.proofs.Examples as examples
use Rattle.mv_calls.proofs.Computed.{answers, claims, legal_by, one_task, two_tasks, three_tasks, at_block, at_element, at_latches}

-- a legal history, and its call numbers
record IsNumbered (c : Setup) (es : List Entry) (ns : List ℕ) : Type 0 where
  legal : Legal c es
  numbers : calls c es ≡ ns

-- by computing what the machine answers, and the numbers
numbered : {c : Setup} {es : List Entry} {ns : List ℕ} → answers c (opening c) es ≡ claims es → calls c es ≡ ns → IsNumbered c es ns
numbered {c = c} {es = es} answered counted = record { legal = legal_by c es answered; numbers = counted }

-- A task waits on a block that another posts, and releases the other's pause. No number depends on what stands between.
nine : IsNumbered (three_tasks (1 ∷ []) [])
    (
    at_block 1 0 0 ecb_op.Arm ecb_reply.Armed
    ∷ at_element 2 8 0 element_op.Open (element_reply.Opened 0)
    ∷ at_block 2 0 1 (ecb_op.Post 0) (ecb_reply.Woke 0)
    ∷ at_block 1 0 2 ecb_op.Settle (ecb_reply.Complete 0)
    ∷ at_block 1 0 3 ecb_op.Clear (ecb_reply.Word 1073741824)
    ∷ at_element 2 8 1 (element_op.Pause 0) element_reply.Parked
    ∷ at_element 1 8 2 (element_op.Release 0 0) element_reply.Woke
    ∷ at_element 2 8 3 (element_op.Resume 0) (element_reply.Given 0 1)
    ∷ at_element 2 8 4 (element_op.Close 1) element_reply.Closed
    ∷ []
    )
    (0 ∷ 0 ∷ 1 ∷ 0 ∷ 1 ∷ 2 ∷ 2 ∷ 2 ∷ 3 ∷ [])
nine = numbered refl refl

-- a wait on two blocks arms both and settles both in one call; the next wait is another
two_blocks : IsNumbered (one_task (0 ∷ 0 ∷ []) [])
    (
    at_block 0 0 0 ecb_op.Arm ecb_reply.Armed
    ∷ at_block 0 1 0 ecb_op.Arm ecb_reply.Armed
    ∷ at_block 0 0 1 ecb_op.Settle ecb_reply.Open
    ∷ at_block 0 1 1 ecb_op.Settle ecb_reply.Open
    ∷ at_block 0 0 2 ecb_op.Arm ecb_reply.Armed
    ∷ []
    )
    (0 ∷ 0 ∷ 0 ∷ 0 ∷ 1 ∷ [])
two_blocks = numbered refl refl

-- what the task of an exit hears as a post runs it
abbrev exit_heard : List Heard
exit_heard = heard_in examples.one_exit 0 examples.exit_posts

-- a post that runs an exit is one call, and each test is one
exit_runs : IsNumbered examples.one_exit examples.exit_posts (0 ∷ 1 ∷ 2 ∷ 2 ∷ 2 ∷ 3 ∷ 4 ∷ [])
exit_runs = numbered refl refl

-- it is such a call as the law speaks of
post_is_one_call : IsOneCall examples.one_exit 0 examples.exit_posts (take 2 exit_heard)
    (take 3 (drop 2 exit_heard))
post_is_one_call = record {
  legal = exit_runs.legal;
  later = drop 5 exit_heard;
  split = refl;
  rest = record { armed = λ n. refl; parked = λ n. refl; queued = λ latch id. refl };
  service = Post 0 8;
  single = tt;
  answer = Woke;
  done = record { says = (refl, (refl, (refl, tt))); done = refl };
}

-- an exit within an exit is posted depth first; a post of the same block behind it is another call
exits_in_exits : IsNumbered
    (two_tasks (0 ∷ 0 ∷ 0 ∷ 0 ∷ []) (record { source = 0; targets = 1 ∷ 3 ∷ [] } ∷ record { source = 1; targets = 2 ∷ [] } ∷ []))
    (
    at_block 0 0 0 (ecb_op.Extend 1) ecb_reply.Armed
    ∷ at_block 0 1 0 (ecb_op.Extend 2) ecb_reply.Armed
    ∷ at_block 1 0 1 (ecb_op.Post 5) (ecb_reply.Woke 1)
    ∷ at_block 1 1 1 (ecb_op.Post 5) (ecb_reply.Woke 2)
    ∷ at_block 1 2 0 (ecb_op.Post 5) ecb_reply.Posted
    ∷ at_block 1 3 0 (ecb_op.Post 5) ecb_reply.Posted
    ∷ at_block 1 3 1 (ecb_op.Post 5) (ecb_reply.Already 5)
    ∷ []
    )
    (0 ∷ 1 ∷ 0 ∷ 0 ∷ 0 ∷ 0 ∷ 1 ∷ [])
exits_in_exits = numbered refl refl

-- a transfer releases another's pause and parks
transfer : IsNumbered (two_tasks [] [])
    (
    at_element 0 0 0 element_op.Open (element_reply.Opened 0)
    ∷ at_element 1 4 0 element_op.Open (element_reply.Opened 0)
    ∷ at_element 1 4 1 (element_op.Pause 0) element_reply.Parked
    ∷ at_element 0 4 2 (element_op.Release 0 7) element_reply.Woke
    ∷ at_element 1 4 3 (element_op.Resume 0) (element_reply.Given 7 1)
    ∷ at_element 0 0 1 (element_op.Pause 0) element_reply.Parked
    ∷ at_element 1 0 2 (element_op.Release 0 3) element_reply.Woke
    ∷ at_element 0 0 3 (element_op.Resume 0) (element_reply.Given 3 1)
    ∷ []
    )
    (0 ∷ 0 ∷ 1 ∷ 1 ∷ 1 ∷ 1 ∷ 2 ∷ 1 ∷ [])
transfer = numbered refl refl

-- a release that its caller follows at once with a pause counts as one call with it; behind a refused release a pause is the next
release_and_pause : IsNumbered (one_task [] [])
    (
    at_element 0 0 0 element_op.Open (element_reply.Opened 0)
    ∷ at_element 0 0 1 (element_op.Release 0 3) element_reply.Early
    ∷ at_element 0 0 2 (element_op.Pause 0) (element_reply.Given 3 1)
    ∷ at_element 0 0 3 (element_op.Release 0 4) (element_reply.Spent 1)
    ∷ at_element 0 0 4 (element_op.Pause 1) element_reply.Parked
    ∷ []
    )
    (0 ∷ 1 ∷ 1 ∷ 2 ∷ 3 ∷ [])
release_and_pause = numbered refl refl

-- an obtain that waits confirms once; a check behind it is another call
obtain_waits : IsNumbered (two_tasks [] [])
    (
    at_latches 0 0 (latch_op.Obtain 0 1 Exclusive Conditional) (latch_reply.Granted 0)
    ∷ at_latches 1 1 (latch_op.Obtain 0 2 Exclusive Waiting) (latch_reply.Queued 1)
    ∷ at_latches 0 2 (latch_op.Release 0 0 true) (latch_reply.Released 1)
    ∷ at_latches 1 3 (latch_op.Confirm 0 1) (latch_reply.Granted 1)
    ∷ at_latches 1 4 (latch_op.Confirm 0 1) (latch_reply.Granted 1)
    ∷ []
    )
    (0 ∷ 0 ∷ 1 ∷ 0 ∷ 1 ∷ [])
obtain_waits = numbered refl refl

-- what one task with one block hears as a release of a latch posts it
abbrev release_heard : List Heard
release_heard = heard_in (one_task (0 ∷ []) []) 0 examples.grant_posts

-- a release of a latch posts the block of the request that it grants, in one call
release_posts : IsNumbered (one_task (0 ∷ []) []) examples.grant_posts (0 ∷ 1 ∷ 2 ∷ 3 ∷ 3 ∷ 4 ∷ 5 ∷ 6 ∷ [])
release_posts = numbered refl refl

-- which is such a call too
release_is_one_call : IsOneCall (one_task (0 ∷ []) []) 0 examples.grant_posts
    (take 3 release_heard) (take 2 (drop 3 release_heard))
release_is_one_call = record {
  legal = release_posts.legal;
  later = drop 5 release_heard;
  split = refl;
  rest = record { armed = λ n. refl; parked = λ n. refl; queued = λ latch id. refl };
  service = ReleaseLatch 0 0 true;
  single = tt;
  answer = Ok 1;
  done = record { says = (refl, (refl, tt)); done = refl };
}

-- a purge posts the blocks of those that waited
purge_posts : IsNumbered (one_task (0 ∷ []) [])
    (
    at_latches 0 0 (latch_op.Obtain 0 1 Exclusive Conditional) (latch_reply.Granted 0)
    ∷ at_latches 0 1 (latch_op.Obtain 0 9 Shared (Posted 0)) (latch_reply.Queued 1)
    ∷ at_latches 0 2 (latch_op.Purge 9) (latch_reply.Purged 1 0)
    ∷ at_block 0 0 0 (ecb_op.Post 1) ecb_reply.Posted
    ∷ at_block 0 0 1 ecb_op.Test (ecb_reply.Word 1073741825)
    ∷ []
    )
    (0 ∷ 1 ∷ 2 ∷ 2 ∷ 3 ∷ [])
purge_posts = numbered refl refl
