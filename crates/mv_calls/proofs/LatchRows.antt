-- Latches: histories in which each call is done on its entries with its answer, by computing them.
use Rattle.std.proofs.Common.{◌≡◌, ℕ, true, false, List, [], ◌∷◌, Option, Some, Ok, Err, refl}
use Rattle.std.proofs.lemmas.Option.{some_pair_parts}
use Rattle.mv_ecb.specs.declared.operation.EcbOp.TheVariants as ecb_op
use Rattle.mv_ecb.specs.declared.operation.EcbReply.TheVariants as ecb_reply
use Rattle.mv_latch.specs.declared.operation.LatchOp.TheVariants as latch_op
use Rattle.mv_latch.specs.declared.operation.LatchReply.TheVariants as latch_reply
use Rattle.mv_latch.specs.declared.request.LatchForm.TheVariants.{Conditional, Waiting, Posted}
use Rattle.mv_latch.specs.declared.request.Mode.TheVariants.{Shared, Exclusive}
use Rattle.mv_machine.specs.declared.entry.Entry.{Entry}
use Rattle.mv_machine.specs.declared.entry.Object.{Object}
use Rattle.mv_machine.specs.declared.entry.Object.TheVariants.{Volume, Latches}
use Rattle.mv_machine.specs.declared.entry.Op.{Op}
use Rattle.mv_machine.specs.declared.entry.VolumeOp.TheVariants as volume_op
use Rattle.mv_machine.specs.declared.entry.VolumeReply.TheVariants as volume_reply
use Rattle.mv_machine.specs.Legal.{Legal}
use Rattle.mv_config.specs.Setup.{Setup}
use Rattle.mv_calls.specs.Keeping.{nothing_kept}
use Rattle.mv_calls.specs.LatchCalls.{GrantedAs, PendingAs, obtain}
use Rattle.mv_calls.specs.declared.outcomes.Standing.TheVariants as standing
use Rattle.mv_calls.specs.declared.outcomes.PostAnswer.TheVariants as answer
use Rattle.mv_calls.specs.Program.{Early, Call, Says, left, accepted}
use Rattle.mv_calls.specs.Refusal as refusal
use Rattle.mv_calls.specs.Runs.{heard_in}
use Rattle.mv_calls.specs.Services.{Post, TestEcb, Obtain, CheckLatch, ReleaseLatch, Purge}
use Rattle.mv_calls.specs.Waits.{read_volume}
use Rattle.mv_calls.proofs.Examples as examples
use Rattle.mv_calls.proofs.Computed.{does, IsRow, row, legal_by, one_task, two_tasks, three_tasks, at_block}
use Rattle.mv_calls.proofs.Computed.{at_volume, at_latches}

-- A conditional request does not wait, and names the one that stands in its way.
blocked : IsRow (one_task [] []) 0
    (
    at_latches 0 0 (latch_op.Obtain 0 1 Shared Conditional) (latch_reply.Granted 0)
    ∷ at_latches 0 1 (latch_op.Obtain 0 2 Exclusive Conditional) (latch_reply.NotNow 0)
    ∷ at_latches 0 2 (latch_op.Release 0 0 false) (latch_reply.Released 0)
    ∷ []
    )
    (
    does (Obtain 0 1 Shared Conditional) 1 (Ok (GrantedAs 0))
    ∷ does (Obtain 0 2 Exclusive Conditional) 1 (Err (refusal.NotNow 0))
    ∷ does (ReleaseLatch 0 0 false) 1 (Ok 0)
    ∷ does (Obtain 8 1 Shared Conditional) 0 (Err refusal.BadLatch)
    ∷ []
    )
blocked = row refl refl

-- A purge takes out a request that waits: its obtain answers Purged, and the next in line is granted.
abbrev purged_waiting_log : List Entry
purged_waiting_log =
    at_latches 0 0 (latch_op.Obtain 0 9 Exclusive Conditional) (latch_reply.Granted 0)
    ∷ at_latches 1 1 (latch_op.Obtain 0 9 Shared Waiting) (latch_reply.Queued 1)
    ∷ at_latches 2 2 (latch_op.Obtain 0 5 Exclusive Waiting) (latch_reply.Queued 2)
    ∷ at_latches 0 3 (latch_op.Purge 9) (latch_reply.Purged 2 1)
    ∷ at_latches 1 4 (latch_op.Confirm 0 1) latch_reply.Gone
    ∷ at_latches 2 5 (latch_op.Confirm 0 2) (latch_reply.Granted 2)
    ∷ []

purged_waiting_of_0 : IsRow (three_tasks [] []) 0 purged_waiting_log
    (
    does (Obtain 0 9 Exclusive Conditional) 1 (Ok (GrantedAs 0))
    ∷ does (Purge 9) 1 (record { removed = 2; granted = 1 })
    ∷ []
    )
purged_waiting_of_0 = row refl refl

purged_waiting_of_1 : IsRow (three_tasks [] []) 1 purged_waiting_log
    (
    does (Obtain 0 9 Shared Waiting) 2 (Err refusal.Purged)
    ∷ []
    )
purged_waiting_of_1 = row refl refl

purged_waiting_of_2 : IsRow (three_tasks [] []) 2 purged_waiting_log
    (
    does (Obtain 0 5 Exclusive Waiting) 2 (Ok (GrantedAs 2))
    ∷ []
    )
purged_waiting_of_2 = row refl refl

-- A request of the Posted form is pending, and its block is posted as it is granted.
posted_grant : IsRow (one_task (0 ∷ []) []) 0 examples.grant_posts
    (
    does (Obtain 0 1 Exclusive Conditional) 1 (Ok (GrantedAs 0))
    ∷ does (Obtain 0 2 Exclusive (Posted 0)) 1 (Ok (PendingAs 1))
    ∷ does (TestEcb 0) 1 0
    ∷ does (ReleaseLatch 0 0 true) 2 (Ok 1)
    ∷ does (TestEcb 0) 1 1073741824
    ∷ does (CheckLatch 0 1) 1 standing.Granted
    ∷ does (ReleaseLatch 0 0 true) 1 (Err refusal.Gone)
    ∷ []
    )
posted_grant = row refl refl

-- A purge posts the block of a request that waited with 1. A conditional release leaves a request that waits.
posted_purge : IsRow (one_task (0 ∷ []) []) 0
    (
    at_latches 0 0 (latch_op.Obtain 0 1 Exclusive Conditional) (latch_reply.Granted 0)
    ∷ at_latches 0 1 (latch_op.Obtain 0 2 Exclusive (Posted 0)) (latch_reply.Queued 1)
    ∷ at_latches 0 2 (latch_op.Confirm 0 1) latch_reply.Waiting
    ∷ at_latches 0 3 (latch_op.Release 0 1 true) latch_reply.Waiting
    ∷ at_latches 0 4 (latch_op.Purge 2) (latch_reply.Purged 1 0)
    ∷ at_block 0 0 0 (ecb_op.Post 1) ecb_reply.Posted
    ∷ at_latches 0 5 (latch_op.Confirm 0 1) latch_reply.Gone
    ∷ []
    )
    (
    does (Obtain 0 1 Exclusive Conditional) 1 (Ok (GrantedAs 0))
    ∷ does (Obtain 0 2 Exclusive (Posted 0)) 1 (Ok (PendingAs 1))
    ∷ does (CheckLatch 0 1) 1 standing.Waiting
    ∷ does (ReleaseLatch 0 1 true) 1 (Err refusal.StillWaiting)
    ∷ does (Purge 2) 2 (record { removed = 1; granted = 0 })
    ∷ does (CheckLatch 0 1) 1 standing.Gone
    ∷ []
    )
posted_purge = row refl refl

-- Eight requests stand, and no ninth.
quota_reached : IsRow (one_task [] []) 0
    (
    at_latches 0 0 (latch_op.Obtain 0 1 Shared Conditional) (latch_reply.Granted 0)
    ∷ at_latches 0 1 (latch_op.Obtain 0 1 Shared Conditional) (latch_reply.Granted 1)
    ∷ at_latches 0 2 (latch_op.Obtain 0 1 Shared Conditional) (latch_reply.Granted 2)
    ∷ at_latches 0 3 (latch_op.Obtain 0 1 Shared Conditional) (latch_reply.Granted 3)
    ∷ at_latches 0 4 (latch_op.Obtain 0 1 Shared Conditional) (latch_reply.Granted 4)
    ∷ at_latches 0 5 (latch_op.Obtain 0 1 Shared Conditional) (latch_reply.Granted 5)
    ∷ at_latches 0 6 (latch_op.Obtain 0 1 Shared Conditional) (latch_reply.Granted 6)
    ∷ at_latches 0 7 (latch_op.Obtain 0 1 Shared Conditional) (latch_reply.Granted 7)
    ∷ []
    )
    (
    does (Obtain 0 1 Shared Conditional) 1 (Ok (GrantedAs 0))
    ∷ does (Obtain 0 1 Shared Conditional) 1 (Ok (GrantedAs 1))
    ∷ does (Obtain 0 1 Shared Conditional) 1 (Ok (GrantedAs 2))
    ∷ does (Obtain 0 1 Shared Conditional) 1 (Ok (GrantedAs 3))
    ∷ does (Obtain 0 1 Shared Conditional) 1 (Ok (GrantedAs 4))
    ∷ does (Obtain 0 1 Shared Conditional) 1 (Ok (GrantedAs 5))
    ∷ does (Obtain 0 1 Shared Conditional) 1 (Ok (GrantedAs 6))
    ∷ does (Obtain 0 1 Shared Conditional) 1 (Ok (GrantedAs 7))
    ∷ does (Obtain 0 1 Shared Conditional) 0 (Err refusal.Quota)
    ∷ []
    )
quota_reached = row refl refl

-- Four requests of the Posted form stand, and no fifth.
posted_quota_reached : IsRow (one_task (0 ∷ []) []) 0
    (
    at_latches 0 0 (latch_op.Obtain 0 1 Exclusive Conditional) (latch_reply.Granted 0)
    ∷ at_latches 0 1 (latch_op.Obtain 0 2 Exclusive (Posted 0)) (latch_reply.Queued 1)
    ∷ at_latches 0 2 (latch_op.Obtain 0 2 Exclusive (Posted 0)) (latch_reply.Queued 2)
    ∷ at_latches 0 3 (latch_op.Obtain 0 2 Exclusive (Posted 0)) (latch_reply.Queued 3)
    ∷ at_latches 0 4 (latch_op.Obtain 0 2 Exclusive (Posted 0)) (latch_reply.Queued 4)
    ∷ []
    )
    (
    does (Obtain 0 1 Exclusive Conditional) 1 (Ok (GrantedAs 0))
    ∷ does (Obtain 0 2 Exclusive (Posted 0)) 1 (Ok (PendingAs 1))
    ∷ does (Obtain 0 2 Exclusive (Posted 0)) 1 (Ok (PendingAs 2))
    ∷ does (Obtain 0 2 Exclusive (Posted 0)) 1 (Ok (PendingAs 3))
    ∷ does (Obtain 0 2 Exclusive (Posted 0)) 1 (Ok (PendingAs 4))
    ∷ does (Obtain 0 2 Exclusive (Posted 0)) 0 (Err refusal.Quota)
    ∷ []
    )
posted_quota_reached = row refl refl

-- A task announces itself by its post, and the other purges its request while it waits.
abbrev purged_by_another_log : List Entry
purged_by_another_log =
    at_latches 0 0 (latch_op.Obtain 0 1 Exclusive Conditional) (latch_reply.Granted 0)
    ∷ at_block 1 0 0 (ecb_op.Post 1) ecb_reply.Posted
    ∷ at_latches 0 1 (latch_op.Purge 9) (latch_reply.Purged 0 0)
    ∷ at_latches 1 2 (latch_op.Obtain 0 9 Exclusive Waiting) (latch_reply.Queued 2)
    ∷ at_latches 0 3 (latch_op.Purge 9) (latch_reply.Purged 1 0)
    ∷ at_latches 0 4 (latch_op.Release 0 0 false) (latch_reply.Released 0)
    ∷ at_latches 1 5 (latch_op.Confirm 0 2) latch_reply.Gone
    ∷ []

purged_by_another_of_0 : IsRow (two_tasks (0 ∷ []) []) 0 purged_by_another_log
    (
    does (Obtain 0 1 Exclusive Conditional) 1 (Ok (GrantedAs 0))
    ∷ does (Purge 9) 1 (record { removed = 0; granted = 0 })
    ∷ does (Purge 9) 1 (record { removed = 1; granted = 0 })
    ∷ does (ReleaseLatch 0 0 false) 1 (Ok 0)
    ∷ []
    )
purged_by_another_of_0 = row refl refl

purged_by_another_of_1 : IsRow (two_tasks (0 ∷ []) []) 1 purged_by_another_log
    (
    does (Post 0 1) 1 answer.Posted
    ∷ does (Obtain 0 9 Exclusive Waiting) 2 (Err refusal.Purged)
    ∷ does (Obtain 0 9 Exclusive (Posted 0)) 0 (Err refusal.NotOwner)
    ∷ []
    )
purged_by_another_of_1 = row refl refl

-- ---- what does not follow

abbrev two : Setup
two = two_tasks [] []

abbrev unconfirmed_log : List Entry
unconfirmed_log =
    at_latches 0 0 (latch_op.Obtain 0 1 Exclusive Conditional) (latch_reply.Granted 0)
    ∷ at_latches 1 1 (latch_op.Obtain 0 2 Exclusive Waiting) (latch_reply.Queued 1)
    ∷ at_volume 1 0 0 volume_op.Read (volume_reply.Value 0)
    ∷ []

-- what a task does to a volume under a latch
abbrev counting : Call ℕ
counting = accepted (obtain two 0 2 Exclusive Waiting) (λ got. read_volume 0)

no_volume : (x y : Op) → ◌≡◌ {A = Option (Object × Op)} (Some (Latches, x)) (Some (Volume 0, y)) → ⊥
no_volume x y e = let apart : Latches ≡ Volume 0 = (some_pair_parts Latches (Volume 0) x y e).0 in absurd (cc apart)

-- a read of the volume behind Queued is not what the task does next: the confirm is missing
unconfirmed : Legal two unconfirmed_log × (Says (counting (nothing_kept 1)) (heard_in two 1 unconfirmed_log) → ⊥)
unconfirmed = (legal_by two unconfirmed_log refl, λ says. no_volume _ _ says.1.0)

-- and a task that goes on though its confirm was answered Waiting has ended its wait too soon
abbrev too_soon_log : List Entry
too_soon_log =
    at_latches 0 0 (latch_op.Obtain 0 1 Exclusive Conditional) (latch_reply.Granted 0)
    ∷ at_latches 1 1 (latch_op.Obtain 0 2 Exclusive Waiting) (latch_reply.Queued 1)
    ∷ at_latches 1 2 (latch_op.Confirm 0 1) latch_reply.Waiting
    ∷ []

ended_too_soon : Legal two too_soon_log × (left (counting (nothing_kept 1)) (heard_in two 1 too_soon_log) ≡ Early)
ended_too_soon = (legal_by two too_soon_log refl, refl)
