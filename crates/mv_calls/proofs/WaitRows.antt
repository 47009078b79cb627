-- Waits, posts, exits and volumes: histories in which each call is done on its entries with its answer, by computing them.
use Rattle.std.proofs.Common.{◌≡◌, List, [], ◌∷◌, take, drop, Some, Ok, Err, refl}
use Rattle.mv_ecb.specs.declared.operation.EcbOp.TheVariants as ecb_op
use Rattle.mv_ecb.specs.declared.operation.EcbReply.TheVariants as ecb_reply
use Rattle.mv_machine.specs.declared.entry.Entry.{Entry}
use Rattle.mv_machine.specs.declared.entry.Object.TheVariants.{Ecb}
use Rattle.mv_machine.specs.declared.entry.Op.TheVariants as op_on
use Rattle.mv_machine.specs.declared.entry.VolumeOp.TheVariants as volume_op
use Rattle.mv_machine.specs.declared.entry.VolumeReply.TheVariants as volume_reply
use Rattle.mv_machine.specs.Legal.{Legal, after}
use Rattle.mv_machine.specs.Packing.{word_at}
use Rattle.mv_config.specs.Setup.{Setup}
use Rattle.mv_calls.specs.Keeping.{nothing_kept, kept_of}
use Rattle.mv_calls.specs.declared.outcomes.PostAnswer.TheVariants as answer
use Rattle.mv_calls.specs.declared.outcomes.PostAnswer.{PostAnswer}
use Rattle.mv_calls.specs.Program.{Early, Wrong, IsDoneOn, asks, left, noted}
use Rattle.mv_calls.specs.Refusal as refusal
use Rattle.mv_calls.specs.Runs.{heard_in}
use Rattle.mv_calls.specs.Services.{program, Wait, Post, TryPost, Clear, Extend, TestEcb, ReadVolume, WriteVolume}
use Rattle.mv_calls.proofs.Examples as examples
use Rattle.mv_calls.proofs.Computed.{does, IsRow, row, legal_by, one_task, two_tasks, at_block, at_volume}
use Rattle.mv_calls.specs.declared.outcomes.WaitSlot.TheVariants as wait_slot

-- Two blocks are posted before the wait that is for two of three, and the third is not waited for any more then.
posted_before : IsRow (one_task (0 ∷ 0 ∷ 0 ∷ []) []) 0 examples.posted_before
    (
    does (Post 0 7) 1 answer.Posted
    ∷ does (Post 2 9) 1 answer.Posted
    ∷ does (Wait 2 (0 ∷ 1 ∷ 2 ∷ [])) 6 (Ok (wait_slot.Complete 7 ∷ wait_slot.Open ∷ wait_slot.Complete 9 ∷ []))
    ∷ does (TestEcb 1) 1 0
    ∷ []
    )
posted_before = row refl refl

-- Waits that make no event: for none of none, for more than there are, and with a block twice.
refused_waits : IsRow (one_task (0 ∷ []) []) 0 []
    (
    does (Wait 0 []) 0 (Ok [])
    ∷ does (Wait 2 (0 ∷ [])) 0 (Err refusal.TooMany)
    ∷ does (Wait 1 (0 ∷ 0 ∷ [])) 0 (Err (refusal.Doubled 1))
    ∷ []
    )
refused_waits = row refl refl

-- A post that starts an exit posts its two targets; the second was complete before. A wait for an extended block is refused.
exits_posted : IsRow examples.one_exit 0 examples.exit_posts
    (
    does (Post 2 3) 1 answer.Posted
    ∷ does (Extend 0 1) 1 (Ok tt)
    ∷ does (Wait 1 (0 ∷ [])) 0 (Err (refusal.ExtendedAt 0))
    ∷ does (Post 0 8) 3 answer.Woke
    ∷ does (TestEcb 1) 1 1073741832
    ∷ does (TestEcb 2) 1 1073741827
    ∷ []
    )
exits_posted = row refl refl

-- An exit whose target starts an exit of its own: that one is posted before the next target. Extends that are refused, and clears.
exits_in_exits : IsRow
    (one_task (0 ∷ 0 ∷ 0 ∷ []) (record { source = 0; targets = 1 ∷ 2 ∷ [] } ∷ record { source = 1; targets = 2 ∷ [] } ∷ [])) 0
    (
    at_block 0 0 0 (ecb_op.Extend 1) ecb_reply.Armed
    ∷ at_block 0 1 0 (ecb_op.Extend 2) ecb_reply.Armed
    ∷ at_block 0 0 1 (ecb_op.Post 8) (ecb_reply.Woke 1)
    ∷ at_block 0 1 1 (ecb_op.Post 8) (ecb_reply.Woke 2)
    ∷ at_block 0 2 0 (ecb_op.Post 8) ecb_reply.Posted
    ∷ at_block 0 2 1 (ecb_op.Post 8) (ecb_reply.Already 8)
    ∷ at_block 0 0 2 ecb_op.Clear (ecb_reply.Word 1073741832)
    ∷ at_block 0 0 3 (ecb_op.Extend 1) ecb_reply.Armed
    ∷ at_block 0 0 4 ecb_op.Clear (ecb_reply.Word 2147483649)
    ∷ at_block 0 1 2 ecb_op.Clear (ecb_reply.Word 1073741832)
    ∷ at_block 0 1 3 (ecb_op.Post 5) ecb_reply.Posted
    ∷ at_block 0 1 4 (ecb_op.Extend 2) (ecb_reply.Complete 5)
    ∷ []
    )
    (
    does (Extend 0 1) 1 (Ok tt)
    ∷ does (Extend 0 1) 0 (Err refusal.Extended)
    ∷ does (Extend 1 1) 0 (Err refusal.BadExit)
    ∷ does (Extend 1 2) 1 (Ok tt)
    ∷ does (Post 0 8) 4 answer.Woke
    ∷ does (Clear 0) 1 (Ok 1073741832)
    ∷ does (Extend 0 1) 1 (Ok tt)
    ∷ does (Clear 0) 1 (Ok 2147483649)
    ∷ does (Extend 2 7) 0 (Err refusal.BadExit)
    ∷ does (Clear 1) 1 (Ok 1073741832)
    ∷ does (Post 1 5) 1 answer.Posted
    ∷ does (Extend 1 2) 1 (Err (refusal.Complete 5))
    ∷ []
    )
exits_in_exits = row refl refl

-- A post by one exchange of the word that was expected.
tried_post : IsRow (one_task (0 ∷ []) []) 0 examples.one_post
    (
    does (TryPost 0 0 5) 1 answer.Posted
    ∷ []
    )
tried_post = row refl refl

-- A volume keeps its number of 32 bits.
volume_written : IsRow (one_task [] []) 0
    (
    at_volume 0 0 0 (volume_op.Write 4294967295) volume_reply.Stored
    ∷ at_volume 0 0 1 volume_op.Read (volume_reply.Value 4294967295)
    ∷ []
    )
    (
    does (WriteVolume 0 4294967295) 1 tt
    ∷ does (ReadVolume 0) 1 4294967295
    ∷ []
    )
volume_written = row refl refl

-- One task waits for its block, and another posts it.
woken_of_0 : IsRow (two_tasks (0 ∷ []) []) 0 examples.post_wakes
    (
    does (Wait 1 (0 ∷ [])) 2 (Ok (wait_slot.Complete 3 ∷ []))
    ∷ []
    )
woken_of_0 = row refl refl

woken_of_1 : IsRow (two_tasks (0 ∷ []) []) 1 examples.post_wakes
    (
    does (Post 0 3) 1 answer.Woke
    ∷ does (Clear 0) 0 (Err refusal.NotOwner)
    ∷ does (Wait 1 (0 ∷ [])) 0 (Err (refusal.NotOwnerAt 0))
    ∷ does (Extend 0 1) 0 (Err refusal.NotOwner)
    ∷ []
    )
woken_of_1 = row refl refl

-- The same, where the post comes first.
abbrev posted_first_log : List Entry
posted_first_log =
    at_block 1 0 0 (ecb_op.Post 3) ecb_reply.Posted
    ∷ at_block 0 0 1 ecb_op.Arm (ecb_reply.Complete 3)
    ∷ at_block 0 0 2 ecb_op.Settle (ecb_reply.Complete 3)
    ∷ []

posted_first_of_0 : IsRow (two_tasks (0 ∷ []) []) 0 posted_first_log
    (
    does (Wait 1 (0 ∷ [])) 2 (Ok (wait_slot.Complete 3 ∷ []))
    ∷ []
    )
posted_first_of_0 = row refl refl

posted_first_of_1 : IsRow (two_tasks (0 ∷ []) []) 1 posted_first_log
    (
    does (Post 0 3) 1 answer.Posted
    ∷ []
    )
posted_first_of_1 = row refl refl

-- ---- what does not follow

abbrev short_log : List Entry
short_log =
    at_block 0 0 0 ecb_op.Arm ecb_reply.Armed
    ∷ at_block 0 1 0 ecb_op.Arm ecb_reply.Armed
    ∷ at_block 1 0 1 (ecb_op.Post 3) (ecb_reply.Woke 0)
    ∷ at_block 0 0 2 ecb_op.Settle (ecb_reply.Complete 3)
    ∷ at_block 0 1 1 ecb_op.Settle ecb_reply.Open
    ∷ []

abbrev two_blocks : Setup
two_blocks = two_tasks (0 ∷ 0 ∷ []) []

-- a wait that settles with one fewer complete than it is for has ended too soon, though its history is legal
ended_too_soon : Legal two_blocks short_log
    × (left (program two_blocks (Wait 2 (0 ∷ 1 ∷ [])) (nothing_kept 0)) (heard_in two_blocks 0 short_log) ≡ Early)
ended_too_soon = (legal_by two_blocks short_log refl, refl)

abbrev unposted_log : List Entry
unposted_log =
    at_block 0 0 0 (ecb_op.Extend 1) ecb_reply.Armed
    ∷ at_block 0 0 1 (ecb_op.Post 8) (ecb_reply.Woke 1)
    ∷ []

-- a post that leaves out the posts of its exit is not done: it still says the target's
exit_left_out : Legal examples.one_exit unposted_log
    × (asks (left (program examples.one_exit (Post 0 8) (kept_of 0 (take 1 unposted_log))) (noted (drop 1 unposted_log) []))
    ≡ Some (Ecb 1, op_on.Ecb (ecb_op.Post 8)))
exit_left_out = (legal_by examples.one_exit unposted_log refl, refl)

-- so it has no answer
no_answer : (a : PostAnswer)
    → IsDoneOn (program examples.one_exit (Post 0 8) (kept_of 0 (take 1 unposted_log))) (noted (drop 1 unposted_log) []) a → ⊥
no_answer a d = absurd (cc d.done)

-- a second try with the word from before meets this word, and has no event; one that was answered all the same would be Wrong
moved_word : word_at (after (one_task (0 ∷ []) []) examples.one_post) (Ecb 0) ≡ 35185445830661
moved_word = refl

tried_again : left (program (one_task (0 ∷ []) []) (TryPost 0 0 6) (kept_of 0 examples.one_post))
    (noted (at_block 0 0 1 (ecb_op.Post 6) (ecb_reply.Already 5) ∷ []) []) ≡ Wrong
tried_again = refl
