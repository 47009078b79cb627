-- Histories that are worked by hand: a configuration and its legal history, which the rows of calls, those of call numbers, those of
-- scripts and those of tables of events are made of.
use Rattle.std.proofs.Common.{ℕ, false, List, [], ◌∷◌, true}
use Rattle.mv_ecb.specs.declared.operation.EcbOp.TheVariants as ecb_op
use Rattle.mv_ecb.specs.declared.operation.EcbReply.TheVariants as ecb_reply
use Rattle.mv_element.specs.Element.{free}
use Rattle.mv_element.specs.declared.operation.ElementOp.TheVariants as element_op
use Rattle.mv_element.specs.declared.operation.ElementReply.TheVariants as element_reply
use Rattle.mv_latch.specs.declared.operation.LatchOp.TheVariants as latch_op
use Rattle.mv_latch.specs.declared.operation.LatchReply.TheVariants as latch_reply
use Rattle.mv_latch.specs.declared.request.LatchForm.TheVariants.{Conditional, Posted, Waiting}
use Rattle.mv_latch.specs.declared.request.Mode.TheVariants.{Exclusive}
use Rattle.mv_machine.specs.declared.entry.Entry.{Entry}
use Rattle.mv_machine.specs.declared.entry.VolumeOp.TheVariants as volume_op
use Rattle.mv_machine.specs.declared.entry.VolumeReply.TheVariants as volume_reply
use Rattle.mv_config.specs.Setup.{Setup}
use Rattle.mv_calls.specs.declared.table.Table.{Table}
use Rattle.mv_calls.proofs.Computed.{one_task, at_block, at_element, at_volume, at_latches}

-- two of one task's three blocks are posted before its wait for two of them, which leaves the other open
abbrev pub posted_before : List Entry
posted_before =
    at_block 0 0 0 (ecb_op.Post 7) ecb_reply.Posted
    ∷ at_block 0 2 0 (ecb_op.Post 9) ecb_reply.Posted
    ∷ at_block 0 0 1 ecb_op.Arm (ecb_reply.Complete 7)
    ∷ at_block 0 1 0 ecb_op.Arm ecb_reply.Armed
    ∷ at_block 0 2 1 ecb_op.Arm (ecb_reply.Complete 9)
    ∷ at_block 0 0 2 ecb_op.Settle (ecb_reply.Complete 7)
    ∷ at_block 0 1 1 ecb_op.Settle ecb_reply.Open
    ∷ at_block 0 2 2 ecb_op.Settle (ecb_reply.Complete 9)
    ∷ at_block 0 1 2 ecb_op.Test (ecb_reply.Word 0)
    ∷ []

-- one task, and an exit from the first of its three blocks to the others
abbrev pub one_exit : Setup
one_exit = one_task (0 ∷ 0 ∷ 0 ∷ []) (record { source = 0; targets = 1 ∷ 2 ∷ [] } ∷ [])

-- a post that runs this exit, whose second target was complete before
abbrev pub exit_posts : List Entry
exit_posts =
    at_block 0 2 0 (ecb_op.Post 3) ecb_reply.Posted
    ∷ at_block 0 0 0 (ecb_op.Extend 1) ecb_reply.Armed
    ∷ at_block 0 0 1 (ecb_op.Post 8) (ecb_reply.Woke 1)
    ∷ at_block 0 1 0 (ecb_op.Post 8) ecb_reply.Posted
    ∷ at_block 0 2 1 (ecb_op.Post 8) (ecb_reply.Already 3)
    ∷ at_block 0 1 1 ecb_op.Test (ecb_reply.Word 1073741832)
    ∷ at_block 0 2 2 ecb_op.Test (ecb_reply.Word 1073741827)
    ∷ []

-- one post of a task's one block
abbrev pub one_post : List Entry
one_post = at_block 0 0 0 (ecb_op.Post 5) ecb_reply.Posted ∷ []

-- a task waits for its block, and another one's post wakes it
abbrev pub post_wakes : List Entry
post_wakes =
    at_block 0 0 0 ecb_op.Arm ecb_reply.Armed
    ∷ at_block 1 0 1 (ecb_op.Post 3) (ecb_reply.Woke 0)
    ∷ at_block 0 0 2 ecb_op.Settle (ecb_reply.Complete 3)
    ∷ []

-- a release of a latch posts the block of the request that it grants
abbrev pub grant_posts : List Entry
grant_posts =
    at_latches 0 0 (latch_op.Obtain 0 1 Exclusive Conditional) (latch_reply.Granted 0)
    ∷ at_latches 0 1 (latch_op.Obtain 0 2 Exclusive (Posted 0)) (latch_reply.Queued 1)
    ∷ at_block 0 0 0 ecb_op.Test (ecb_reply.Word 0)
    ∷ at_latches 0 2 (latch_op.Release 0 0 true) (latch_reply.Released 1)
    ∷ at_block 0 0 1 (ecb_op.Post 0) ecb_reply.Posted
    ∷ at_block 0 0 2 ecb_op.Test (ecb_reply.Word 1073741824)
    ∷ at_latches 0 3 (latch_op.Confirm 0 1) (latch_reply.Granted 1)
    ∷ at_latches 0 4 (latch_op.Release 0 0 true) latch_reply.Gone
    ∷ []

-- a task ends with an element in use and a request that stands, and then tests the element and closes it
abbrev pub task_ends : List Entry
task_ends =
    at_element 0 0 0 element_op.Open (element_reply.Opened 0)
    ∷ at_latches 0 0 (latch_op.Obtain 0 5 Exclusive Conditional) (latch_reply.Granted 0)
    ∷ at_element 0 0 1 (element_op.Close 0) element_reply.Closed
    ∷ at_latches 0 1 (latch_op.Purge 5) (latch_reply.Purged 1 0)
    ∷ at_element 0 0 2 element_op.Test (element_reply.State (free 1))
    ∷ at_element 0 0 3 (element_op.Close 0) (element_reply.Spent 1)
    ∷ []

-- three events and a slot for each, of task 0
abbrev pub three : Table
three = record { owner = 0; latch = 0; volume = 0; events = 0; slots = 3; size = 3 }

abbrev pub six_blocks : List ℕ
six_blocks = 0 ∷ 0 ∷ 0 ∷ 0 ∷ 0 ∷ 0 ∷ []

-- the requestors of tasks 0 and 1
abbrev pub mine : ℕ
mine = 9223372036854775808

abbrev pub theirs : ℕ
theirs = 9223372036854775809

-- one task posts events 2 and 0 of this table, and event 2 again, and takes both
abbrev pub events_handed_out : List Entry
events_handed_out =
    at_latches 0 0 (latch_op.Obtain 0 mine Exclusive Waiting) (latch_reply.Granted 0)
    ∷ at_block 0 2 0 (ecb_op.Post 7) ecb_reply.Posted
    ∷ at_volume 0 0 0 volume_op.Read (volume_reply.Value 0)
    ∷ at_volume 0 0 1 (volume_op.Write 1) volume_reply.Stored
    ∷ at_block 0 3 0 (ecb_op.Post 2) ecb_reply.Posted
    ∷ at_latches 0 1 (latch_op.Release 0 0 false) (latch_reply.Released 0)
    ∷ at_latches 0 2 (latch_op.Obtain 0 mine Exclusive Waiting) (latch_reply.Granted 2)
    ∷ at_block 0 0 0 (ecb_op.Post 9) ecb_reply.Posted
    ∷ at_volume 0 0 2 volume_op.Read (volume_reply.Value 1)
    ∷ at_volume 0 0 3 (volume_op.Write 2) volume_reply.Stored
    ∷ at_block 0 4 0 (ecb_op.Post 0) ecb_reply.Posted
    ∷ at_latches 0 3 (latch_op.Release 0 2 false) (latch_reply.Released 0)
    ∷ at_latches 0 4 (latch_op.Obtain 0 mine Exclusive Waiting) (latch_reply.Granted 4)
    ∷ at_block 0 2 1 (ecb_op.Post 1) (ecb_reply.Already 7)
    ∷ at_latches 0 5 (latch_op.Release 0 4 false) (latch_reply.Released 0)
    ∷ at_block 0 3 1 ecb_op.Arm (ecb_reply.Complete 2)
    ∷ at_block 0 3 2 ecb_op.Settle (ecb_reply.Complete 2)
    ∷ at_block 0 2 2 ecb_op.Test (ecb_reply.Word 1073741831)
    ∷ at_block 0 4 1 ecb_op.Arm (ecb_reply.Complete 0)
    ∷ at_block 0 4 2 ecb_op.Settle (ecb_reply.Complete 0)
    ∷ at_block 0 0 1 ecb_op.Test (ecb_reply.Word 1073741833)
    ∷ []
