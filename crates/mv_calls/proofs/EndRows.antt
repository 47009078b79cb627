-- Ends of jobs and tasks: histories in which each call is done on its entries with its answer, by computing them.
use Rattle.std.proofs.Common.{[], ◌∷◌, Some, None, Ok, Err, refl}
use Rattle.mv_ecb.specs.declared.operation.EcbOp.TheVariants as ecb_op
use Rattle.mv_ecb.specs.declared.operation.EcbReply.TheVariants as ecb_reply
use Rattle.mv_element.specs.Element.{free}
use Rattle.mv_element.specs.declared.operation.ElementOp.TheVariants as element_op
use Rattle.mv_element.specs.declared.operation.ElementReply.TheVariants as element_reply
use Rattle.mv_latch.specs.declared.operation.LatchOp.TheVariants as latch_op
use Rattle.mv_latch.specs.declared.operation.LatchReply.TheVariants as latch_reply
use Rattle.mv_latch.specs.declared.request.LatchForm.TheVariants.{Conditional, Posted}
use Rattle.mv_latch.specs.declared.request.Mode.TheVariants.{Exclusive}
use Rattle.mv_calls.specs.LatchCalls.{GrantedAs, PendingAs}
use Rattle.mv_calls.specs.Pauses.{token_of}
use Rattle.mv_calls.specs.Refusal as refusal
use Rattle.mv_calls.specs.Services.{Allocate, Deallocate, TestElement, Obtain, EndOfJob, EndOfTask}
use Rattle.mv_calls.proofs.Examples as examples
use Rattle.mv_calls.proofs.Computed.{does, IsRow, row, one_task, at_block, at_element, at_latches}

-- A task without a mother ends: its element is closed, and its requestor purged.
task_ended : IsRow (one_task [] []) 0 examples.task_ends
    (
    does Allocate 1 (Ok (token_of 0 0))
    ∷ does (Obtain 0 5 Exclusive Conditional) 1 (Ok (GrantedAs 0))
    ∷ does (EndOfTask 5 None 0) 2 (record { removed = 1; granted = 0 })
    ∷ does (TestElement 0) 1 (free 1)
    ∷ does (Deallocate (token_of 0 0)) 1 (Err (refusal.Spent 1))
    ∷ []
    )
task_ended = row refl refl

-- A task with two elements ends, and its mother's block is posted last.
mother_posted : IsRow (one_task (0 ∷ []) []) 0
    (
    at_element 0 0 0 element_op.Open (element_reply.Opened 0)
    ∷ at_latches 0 0 (latch_op.Obtain 0 5 Exclusive Conditional) (latch_reply.Granted 0)
    ∷ at_element 0 1 0 element_op.Open (element_reply.Opened 0)
    ∷ at_element 0 0 1 (element_op.Close 0) element_reply.Closed
    ∷ at_element 0 1 1 (element_op.Close 0) element_reply.Closed
    ∷ at_latches 0 1 (latch_op.Purge 5) (latch_reply.Purged 1 0)
    ∷ at_block 0 0 0 (ecb_op.Post 7) ecb_reply.Posted
    ∷ []
    )
    (
    does Allocate 1 (Ok (token_of 0 0))
    ∷ does (Obtain 0 5 Exclusive Conditional) 1 (Ok (GrantedAs 0))
    ∷ does Allocate 1 (Ok (token_of 1 0))
    ∷ does (EndOfTask 5 (Some 0) 7) 4 (record { removed = 1; granted = 0 })
    ∷ []
    )
mother_posted = row refl refl

-- A job ends: its requestor is purged, the block of a request that this grants is posted with 0, and then its own with its code.
job_ended : IsRow (one_task (0 ∷ 0 ∷ []) []) 0
    (
    at_latches 0 0 (latch_op.Obtain 0 3 Exclusive Conditional) (latch_reply.Granted 0)
    ∷ at_latches 0 1 (latch_op.Obtain 0 4 Exclusive (Posted 0)) (latch_reply.Queued 1)
    ∷ at_latches 0 2 (latch_op.Purge 3) (latch_reply.Purged 1 1)
    ∷ at_block 0 0 0 (ecb_op.Post 0) ecb_reply.Posted
    ∷ at_block 0 1 0 (ecb_op.Post 5) ecb_reply.Posted
    ∷ []
    )
    (
    does (Obtain 0 3 Exclusive Conditional) 1 (Ok (GrantedAs 0))
    ∷ does (Obtain 0 4 Exclusive (Posted 0)) 1 (Ok (PendingAs 1))
    ∷ does (EndOfJob 3 1 5) 3 (record { removed = 1; granted = 1 })
    ∷ []
    )
job_ended = row refl refl
