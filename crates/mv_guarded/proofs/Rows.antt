-- Computed histories: what a caller read under a latch the volume still has; and for each premise of the laws a history that breaks only it,
-- in which it has not.
use Rattle.std.proofs.Common.{◌≡◌, ℕ, false, List, [], ◌∷◌, inl, inr, refl, ap, ◌∙◌, arith}
use Rattle.std.proofs.lemmas.Bool.{false≢true}
use Rattle.mv_ecb.specs.declared.operation.EcbOp.TheVariants as ecb_op
use Rattle.mv_ecb.specs.declared.operation.EcbReply.TheVariants as ecb_reply
use Rattle.mv_latch.specs.declared.operation.LatchOp.TheVariants as latch_op
use Rattle.mv_latch.specs.declared.operation.LatchReply.TheVariants as latch_reply
use Rattle.mv_latch.specs.declared.request.LatchForm.TheVariants.{Waiting}
use Rattle.mv_latch.specs.declared.request.Mode.{Mode}
use Rattle.mv_latch.specs.declared.request.Mode.TheVariants.{Exclusive, Shared}
use Rattle.mv_latch.specs.declared.request.Request.{Request}
use Rattle.mv_latch.proofs.Members.{first_is_in, first_or_rest, not_in_empty, rest_is_in}
use Rattle.mv_machine.specs.declared.entry.Entry.{Entry}
use Rattle.mv_machine.specs.declared.entry.Object.TheVariants.{Volume}
use Rattle.mv_machine.specs.declared.entry.VolumeOp.TheVariants as volume_op
use Rattle.mv_machine.specs.declared.entry.VolumeReply.TheVariants as volume_reply
use Rattle.mv_machine.specs.Kept.{StandingRequest}
use Rattle.mv_machine.specs.Legal.{Legal, of}
use Rattle.mv_config.specs.Setup.{Setup}
use Rattle.mv_calls.specs.Sections.{HasGrant, IsHolder}
use Rattle.mv_calls.proofs.Computed.{legal_by, two_tasks, at_block, at_volume, at_latches}
use Rattle.mv_ordered.specs.WaitChain.{HoldsAt}
use Rattle.mv_guarded.specs.Guarded.{HoldsLatch, AreInside, Keeps, IsGuarding, HasRead, IsUnwritten, IsOnlyWriter, AreAlone, value, value_from}

one_is_not_zero : (n : ℕ) → n ≡ 1 → n ≡ 0 → ⊥
one_is_not_zero n one zero = omega arith

same_volume : (m n : ℕ) → Volume m ≡ Volume n → m ≡ n
same_volume m n at = cc at

-- two tasks, and a block of task 0
abbrev two : Setup
two = two_tasks (0 ∷ []) []

-- task 0's request for latch 0, and its grant
abbrev request : Mode → StandingRequest
request mode = record { latch = 0; request = record { id = 0; caller = 0; requestor = 5; mode = mode; form = Waiting } }

abbrev entered : Mode → Entry
entered mode = at_latches 0 0 (latch_op.Obtain 0 5 mode Waiting) (latch_reply.Granted 0)

abbrev read : Entry
read = at_volume 0 0 0 volume_op.Read (volume_reply.Value 0)

holds : (mode : Mode) → HoldsLatch 0 mode 0 (entered mode ∷ [])
holds mode = record {
  request = request mode;
  here = refl;
  mode = refl;
  mine = refl;
  granted = record { stands = first_is_in (request mode) [] (request mode) refl; told = refl };
}

-- task 0 has read zero from volume 0 under the latch
just_read : (mode : Mode) → HasRead 0 0 0 0 (entered mode ∷ read ∷ [])
just_read mode = record {
  before = entered mode ∷ [];
  entry = read;
  since = [];
  split = refl;
  asked = mode;
  holds = holds mode;
  reads = record { object = refl; op = refl; reply = refl };
  inside = tt;
  unwritten = tt;
}

-- a task that has obtained no latch holds none
holds_none : (latch k : ℕ) (mode : Mode) → HoldsLatch latch mode k [] → ⊥
holds_none latch k mode h = not_in_empty h.request h.granted.stands

-- ---- the rule is kept

-- task 1 waits for the latch meanwhile, whichever mode task 0 has it in
abbrev patient : Mode → List Entry
patient mode = entered mode ∷ read ∷ at_latches 1 1 (latch_op.Obtain 0 6 Exclusive Waiting) (latch_reply.Queued 1) ∷ []

patient_is_legal : Legal two (patient Exclusive) × Legal two (patient Shared)
patient_is_legal = (legal_by two (patient Exclusive) refl, legal_by two (patient Shared) refl)

patient_read : (mode : Mode) → HasRead 0 0 0 0 (of 0 (patient mode))
patient_read = just_read

patient_has : (value two (patient Exclusive) 0 ≡ 0) × (value two (patient Shared) 0 ≡ 0)
patient_has = (refl, refl)

-- task 0 posts a block, obtains another latch, writes another volume and reads once more, all in one section
abbrev busy : List Entry
busy =
    entered Exclusive
    ∷ read
    ∷ at_block 0 0 0 (ecb_op.Post 7) ecb_reply.Posted
    ∷ at_latches 0 1 (latch_op.Obtain 1 5 Exclusive Waiting) (latch_reply.Granted 1)
    ∷ at_volume 0 1 0 (volume_op.Write 4) volume_reply.Stored
    ∷ at_volume 0 0 1 volume_op.Read (volume_reply.Value 0)
    ∷ []

busy_is_legal : Legal two busy
busy_is_legal = legal_by two busy refl

busy_read : HasRead 0 0 0 0 (of 0 busy)
busy_read = record {
  before = entered Exclusive ∷ [];
  entry = read;
  since = at_block 0 0 0 (ecb_op.Post 7) ecb_reply.Posted
      ∷ at_latches 0 1 (latch_op.Obtain 1 5 Exclusive Waiting) (latch_reply.Granted 1)
      ∷ at_volume 0 1 0 (volume_op.Write 4) volume_reply.Stored
      ∷ at_volume 0 0 1 volume_op.Read (volume_reply.Value 0)
      ∷ [];
  split = refl;
  asked = Exclusive;
  holds = holds Exclusive;
  reads = record { object = refl; op = refl; reply = refl };
  inside = (tt, (tt, (tt, (tt, tt))));
  unwritten = (
    (λ at is. false≢true is),
    (
      (λ at is. false≢true is),
      (
        (λ at is. one_is_not_zero 1 refl (same_volume 1 0 at)),
        ((λ at is. false≢true is), tt),
      ),
    ),
  );
}

busy_has : value two busy 0 ≡ 0
busy_has = refl

-- ---- the rule is broken: task 0 has read zero in each, and the volume has 5

-- task 1 writes without the latch
abbrev careless : List Entry
careless = entered Exclusive ∷ read ∷ at_volume 1 0 1 (volume_op.Write 5) volume_reply.Stored ∷ []

careless_is_legal : Legal two careless
careless_is_legal = legal_by two careless refl

careless_read : HasRead 0 0 0 0 (of 0 careless)
careless_read = just_read Exclusive

careless_has : value two careless 0 ≡ 5
careless_has = refl

careless_breaks_the_rule : Keeps (IsGuarding 0 0) 1 [] (of 1 careless) → ⊥
careless_breaks_the_rule keeps = holds_none 0 1 Exclusive (keeps.0 refl)

-- task 1 writes while it shares the latch
abbrev sharing : List Entry
sharing =
    entered Shared
    ∷ read
    ∷ at_latches 1 1 (latch_op.Obtain 0 6 Shared Waiting) (latch_reply.Granted 1)
    ∷ at_volume 1 0 1 (volume_op.Write 5) volume_reply.Stored
    ∷ []

sharing_is_legal : Legal two sharing
sharing_is_legal = legal_by two sharing refl

sharing_read : HasRead 0 0 0 0 (of 0 sharing)
sharing_read = just_read Shared

sharing_has : value two sharing 0 ≡ 5
sharing_has = refl

sharing_breaks_the_rule : Keeps (IsGuarding 0 0) 1 [] (of 1 sharing) → ⊥
sharing_breaks_the_rule keeps =
    let h = keeps.1.0 refl in
    let shared : StandingRequest =
    record { latch = 0; request = record { id = 1; caller = 1; requestor = 6; mode = Shared; form = Waiting } } in
    elim (first_or_rest shared [] h.request h.granted.stands) [
      | inl same ↦ let modes : Shared ≡ Exclusive = ap (λ (t : StandingRequest). t.request.mode) same ∙ h.mode in cc modes
      | inr none ↦ not_in_empty h.request none
    ]

-- task 1 purges task 0's requestor, and then writes under the latch
abbrev purging : List Entry
purging =
    entered Exclusive
    ∷ read
    ∷ at_latches 1 1 (latch_op.Purge 5) (latch_reply.Purged 1 0)
    ∷ at_latches 1 2 (latch_op.Obtain 0 6 Exclusive Waiting) (latch_reply.Granted 2)
    ∷ at_volume 1 0 1 (volume_op.Write 5) volume_reply.Stored
    ∷ []

purging_is_legal : Legal two purging
purging_is_legal = legal_by two purging refl

purging_has : value two purging 0 ≡ 5
purging_has = refl

-- by its own log task 0 was granted its request, and it holds the latch no longer
purging_granted : HasGrant (request Exclusive) (of 0 purging)
purging_granted = record { stands = first_is_in (request Exclusive) [] (request Exclusive) refl; told = refl }

purging_lost : IsHolder 0 (request Exclusive) purging → ⊥
purging_lost h = h.kept (record {
  before = entered Exclusive ∷ read ∷ [];
  purge = at_latches 1 1 (latch_op.Purge 5) (latch_reply.Purged 1 0);
  later = at_latches 1 2 (latch_op.Obtain 0 6 Exclusive Waiting) (latch_reply.Granted 2)
      ∷ at_volume 1 0 1 (volume_op.Write 5) volume_reply.Stored
      ∷ [];
  split = refl;
  stood = first_is_in (request Exclusive) [] (request Exclusive) refl;
  other = λ is. one_is_not_zero 1 refl is;
  object = refl;
  op = refl;
})

purging_breaks_the_rule : Keeps (IsGuarding 0 0) 1 [] (of 1 purging) → ⊥
purging_breaks_the_rule keeps = keeps.0

-- ---- the rule is kept, and the number is not what was read

-- task 0 releases the latch after its read
abbrev released : List Entry
released =
    entered Exclusive
    ∷ read
    ∷ at_latches 0 1 (latch_op.Release 0 0 false) (latch_reply.Released 0)
    ∷ at_latches 1 2 (latch_op.Obtain 0 6 Exclusive Waiting) (latch_reply.Granted 2)
    ∷ at_volume 1 0 1 (volume_op.Write 5) volume_reply.Stored
    ∷ []

released_is_legal : Legal two released
released_is_legal = legal_by two released refl

released_has : value two released 0 ≡ 5
released_has = refl

released_ends_the_section : AreInside 0 (at_latches 0 1 (latch_op.Release 0 0 false) (latch_reply.Released 0) ∷ []) → ⊥
released_ends_the_section inside = inside.0 refl

-- task 0 writes after its read
abbrev rewritten : List Entry
rewritten = entered Exclusive ∷ read ∷ at_volume 0 0 1 (volume_op.Write 5) volume_reply.Stored ∷ []

rewritten_is_legal : Legal two rewritten
rewritten_is_legal = legal_by two rewritten refl

rewritten_has : value two rewritten 0 ≡ 5
rewritten_has = refl

rewritten_is_written : IsUnwritten 0 (at_volume 0 0 1 (volume_op.Write 5) volume_reply.Stored ∷ []) → ⊥
rewritten_is_written none = none.0 refl refl

-- task 0 reads before it obtains the latch
abbrev early : List Entry
early =
    read
    ∷ at_latches 1 0 (latch_op.Obtain 0 6 Exclusive Waiting) (latch_reply.Granted 0)
    ∷ at_volume 1 0 1 (volume_op.Write 5) volume_reply.Stored
    ∷ at_latches 1 1 (latch_op.Release 0 0 false) (latch_reply.Released 0)
    ∷ at_latches 0 2 (latch_op.Obtain 0 5 Exclusive Waiting) (latch_reply.Granted 2)
    ∷ []

early_is_legal : Legal two early
early_is_legal = legal_by two early refl

early_has : value two early 0 ≡ 5
early_has = refl

early_reads_without_the_latch : (mode : Mode) → HoldsLatch 0 mode 0 [] → ⊥
early_reads_without_the_latch = holds_none 0 0

-- ---- the other laws

-- With a second writer, a volume has not what the first one wrote last: task 0 wrote nothing in `careless`.
careless_writer : value_from 0 0 (of 0 careless) ≡ 0
careless_writer = refl

careless_has_another_writer : IsOnlyWriter 0 0 careless → ⊥
careless_has_another_writer by = one_is_not_zero 1 refl (by.1.1.0 refl refl)

-- With a shared obtain, a latch has two holders.
sharing_holders : HoldsAt two sharing 0 0 × HoldsAt two sharing 1 0
sharing_holders =
    let first : Request = record { id = 0; caller = 0; requestor = 5; mode = Shared; form = Waiting } in
    let second : Request = record { id = 1; caller = 1; requestor = 6; mode = Shared; form = Waiting } in (
      record { request = first; mine = refl; holds = first_is_in first (second ∷ []) first refl },
      record { request = second; mine = refl; holds = rest_is_in first (second ∷ []) second (first_is_in second [] second refl) },
    )

sharing_is_not_alone : AreAlone (of 1 sharing) → ⊥
sharing_is_not_alone alone = let modes : Shared ≡ Exclusive = alone.0 in cc modes
