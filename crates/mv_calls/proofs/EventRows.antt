-- Tables of events: histories in which each call is done on its entries with its answer, by computing them.
use Rattle.std.proofs.Common.{◌≡◌, false, [], ◌∷◌, Ok, Err, refl}
use Rattle.mv_ecb.specs.declared.operation.EcbOp.TheVariants as ecb_op
use Rattle.mv_ecb.specs.declared.operation.EcbReply.TheVariants as ecb_reply
use Rattle.mv_latch.specs.declared.operation.LatchOp.TheVariants as latch_op
use Rattle.mv_latch.specs.declared.operation.LatchReply.TheVariants as latch_reply
use Rattle.mv_latch.specs.declared.request.LatchForm.TheVariants.{Conditional, Waiting}
use Rattle.mv_latch.specs.declared.request.Mode.TheVariants.{Exclusive}
use Rattle.mv_machine.specs.declared.entry.VolumeOp.TheVariants as volume_op
use Rattle.mv_machine.specs.declared.entry.VolumeReply.TheVariants as volume_reply
use Rattle.mv_calls.specs.declared.table.TableRefusal.TheVariants as table_refused
use Rattle.mv_calls.specs.Events.{EnteredAt, WasComplete}
use Rattle.mv_calls.specs.declared.outcomes.PostAnswer.TheVariants as answer
use Rattle.mv_calls.specs.Refusal as refusal
use Rattle.mv_calls.specs.Services.{Post, WriteVolume, PostEvent, NextEvent}
use Rattle.mv_calls.specs.Table.{IsTableOf, table_refusal}
use Rattle.std.specs.Prelude.{Some}
use Rattle.mv_calls.proofs.Computed.{does, IsRow, row, one_task, two_tasks, at_block, at_volume, at_latches}
use Rattle.mv_calls.proofs.Examples.{three, six_blocks, mine, theirs, events_handed_out}

checked : IsTableOf (one_task six_blocks []) three
checked = refl

-- of two reasons the first is told: the blocks of a table meet before its latch is asked for
meeting : table_refusal (one_task six_blocks []) (record three { slots = 2; latch = 9 }) ≡ Some table_refused.BadRange
meeting = refl

-- Event 2 is posted, then event 0; event 2 is not counted again. The events come in the order of their completion.
handed_out_in_order : IsRow (one_task six_blocks []) 0 events_handed_out
    (
    does (PostEvent three 2 7) 6 (Ok (EnteredAt 0))
    ∷ does (PostEvent three 0 9) 6 (Ok (EnteredAt 1))
    ∷ does (PostEvent three 2 1) 3 (Ok (WasComplete 7))
    ∷ does (NextEvent three 0) 3 (Ok (record { index = 2; word = 1073741831 }))
    ∷ does (NextEvent three 1) 3 (Ok (record { index = 0; word = 1073741833 }))
    ∷ does (NextEvent three 3) 0 (Err refusal.Drained)
    ∷ []
    )
handed_out_in_order = row refl refl

-- What others wrote and posted is told: a volume with a number that is no position, and a slot with a code that is no index.
broken_and_strange : IsRow (one_task six_blocks []) 0
    (
    at_volume 0 0 0 (volume_op.Write 3) volume_reply.Stored
    ∷ at_latches 0 0 (latch_op.Obtain 0 mine Exclusive Waiting) (latch_reply.Granted 0)
    ∷ at_block 0 1 0 (ecb_op.Post 5) ecb_reply.Posted
    ∷ at_volume 0 0 1 volume_op.Read (volume_reply.Value 3)
    ∷ at_latches 0 1 (latch_op.Release 0 0 false) (latch_reply.Released 0)
    ∷ at_block 0 3 0 (ecb_op.Post 40) ecb_reply.Posted
    ∷ at_block 0 3 1 ecb_op.Arm (ecb_reply.Complete 40)
    ∷ at_block 0 3 2 ecb_op.Settle (ecb_reply.Complete 40)
    ∷ []
    )
    (
    does (WriteVolume 0 3) 1 tt
    ∷ does (PostEvent three 1 5) 4 (Err (refusal.Broken 3))
    ∷ does (Post 3 40) 1 answer.Posted
    ∷ does (NextEvent three 0) 2 (Err (refusal.Strange 40))
    ∷ []
    )
broken_and_strange = row refl refl

-- A purge takes out the request of a post that waits, and nothing was posted.
purged_while_waiting : IsRow (two_tasks six_blocks []) 1
    (
    at_latches 0 0 (latch_op.Obtain 0 9 Exclusive Conditional) (latch_reply.Granted 0)
    ∷ at_latches 1 1 (latch_op.Obtain 0 theirs Exclusive Waiting) (latch_reply.Queued 1)
    ∷ at_latches 0 2 (latch_op.Purge theirs) (latch_reply.Purged 1 0)
    ∷ at_latches 1 3 (latch_op.Confirm 0 1) latch_reply.Gone
    ∷ []
    )
    (
    does (PostEvent three 1 5) 2 (Err refusal.Purged)
    ∷ []
    )
purged_while_waiting = row refl refl

-- One that has the latch goes on, and its release finds the request gone.
purged_while_holding : IsRow (two_tasks six_blocks []) 1
    (
    at_latches 1 0 (latch_op.Obtain 0 theirs Exclusive Waiting) (latch_reply.Granted 0)
    ∷ at_block 1 1 0 (ecb_op.Post 5) ecb_reply.Posted
    ∷ at_latches 0 1 (latch_op.Purge theirs) (latch_reply.Purged 1 0)
    ∷ at_volume 1 0 0 volume_op.Read (volume_reply.Value 0)
    ∷ at_volume 1 0 1 (volume_op.Write 1) volume_reply.Stored
    ∷ at_block 1 3 0 (ecb_op.Post 1) ecb_reply.Posted
    ∷ at_latches 1 2 (latch_op.Release 0 0 false) latch_reply.Gone
    ∷ []
    )
    (
    does (PostEvent three 1 5) 6 (Ok (EnteredAt 0))
    ∷ does (NextEvent three 0) 0 (Err refusal.NotOwner)
    ∷ []
    )
purged_while_holding = row refl refl
