-- Sections: a history in which two tasks count in a volume under one latch, and what is refused in others.
use Rattle.std.proofs.Common.{◌≡◌, true, false, List, [], ◌∷◌, ◌++◌, refl}
use Rattle.mv_latch.specs.declared.operation.LatchOp.TheVariants as latch_op
use Rattle.mv_latch.specs.declared.operation.LatchReply.TheVariants as latch_reply
use Rattle.mv_latch.specs.declared.request.LatchForm.TheVariants.{Waiting}
use Rattle.mv_latch.specs.declared.request.Mode.TheVariants.{Exclusive}
use Rattle.mv_latch.proofs.Members.{first_is_in, not_in_empty}
use Rattle.mv_machine.specs.declared.entry.Entry.{Entry}
use Rattle.mv_machine.specs.declared.entry.Object.TheVariants.{Volume}
use Rattle.mv_machine.specs.declared.entry.VolumeOp.TheVariants as volume_op
use Rattle.mv_machine.specs.declared.entry.VolumeReply.TheVariants as volume_reply
use Rattle.mv_machine.specs.Kept.{StandingRequest}
use Rattle.mv_machine.specs.Legal.{Legal}
use Rattle.mv_config.specs.Setup.{Setup}
use Rattle.mv_calls.specs.Sections.{IsHolder, IsSection, IsGuarded, any_event}
use Rattle.mv_calls.proofs.Computed.{legal_by, two_tasks, at_volume, at_latches}
use Rattle.mv_calls.proofs.Sections.{not_purged}

abbrev two : Setup
two = two_tasks [] []

-- task 0's request, which is granted at once, and task 1's, which waits for it
abbrev first_request : StandingRequest
first_request = record { latch = 0; request = record { id = 0; caller = 0; requestor = 5; mode = Exclusive; form = Waiting } }

-- task 0 takes the latch, and task 1 queues for it while task 0 reads and writes; task 1 is told its grant, and does likewise
abbrev counted : List Entry
counted =
    at_latches 0 0 (latch_op.Obtain 0 5 Exclusive Waiting) (latch_reply.Granted 0)
    ∷ at_volume 0 0 0 volume_op.Read (volume_reply.Value 0)
    ∷ at_latches 1 1 (latch_op.Obtain 0 6 Exclusive Waiting) (latch_reply.Queued 1)
    ∷ at_volume 0 0 1 (volume_op.Write 1) volume_reply.Stored
    ∷ at_latches 0 2 (latch_op.Release 0 0 false) (latch_reply.Released 1)
    ∷ at_latches 1 3 (latch_op.Confirm 0 1) (latch_reply.Granted 1)
    ∷ at_volume 1 0 2 volume_op.Read (volume_reply.Value 1)
    ∷ []

is_legal : Legal two counted
is_legal = legal_by two counted refl

-- behind its obtain task 0 holds the latch, and the three entries that follow are of its section
abbrev entered : List Entry
entered = at_latches 0 0 (latch_op.Obtain 0 5 Exclusive Waiting) (latch_reply.Granted 0) ∷ []

holds : IsHolder 0 first_request entered
holds = record {
  granted = record { stands = first_is_in first_request [] first_request refl; told = refl };
  kept = not_purged 0 first_request entered ((λ other. refl), tt);
}

section : IsSection 0 first_request entered
    (
    at_volume 0 0 0 volume_op.Read (volume_reply.Value 0)
    ∷ at_latches 1 1 (latch_op.Obtain 0 6 Exclusive Waiting) (latch_reply.Queued 1)
    ∷ at_volume 0 0 1 (volume_op.Write 1) volume_reply.Stored
    ∷ []
    )
section = record { entered = holds; stays = (refl, (refl, (refl, tt))) }

-- its release ends it
ended : IsSection 0 first_request entered (at_latches 0 1 (latch_op.Release 0 0 false) (latch_reply.Released 0) ∷ []) → ⊥
ended s = let e : true ≡ false = s.stays.0 in cc

-- who was queued and not told of a grant holds nothing
queued : (t : StandingRequest)
    → IsHolder 1 t (entered ++ at_latches 1 1 (latch_op.Obtain 0 6 Exclusive Waiting) (latch_reply.Queued 1) ∷ []) → ⊥
queued t h = let e : false ≡ true = h.granted.told in cc

-- a volume that a task touches outside is not guarded
outside : IsGuarded any_event 0 (Volume 0) (at_volume 1 0 0 volume_op.Read (volume_reply.Value 0) ∷ []) → ⊥
outside guarded =
    let alone = guarded [] [] (at_volume 1 0 0 volume_op.Read (volume_reply.Value 0)) refl refl refl in
    not_in_empty alone.request alone.holder.granted.stands
