-- Worked rows: what a job notes, and the lines of records.
use Rattle.std.proofs.Common.{◌≡◌, ℕ, List, [], ◌∷◌, None, codes, refl}
use Rattle.std.specs.Fmt.{digits}
use Rattle.mv_machine.specs.declared.entry.Object.TheVariants.{Volume}
use Rattle.mv_machine.specs.declared.entry.Op.TheVariants as op_on
use Rattle.mv_machine.specs.declared.entry.Reply.TheVariants as reply_of
use Rattle.mv_machine.specs.declared.entry.VolumeOp.TheVariants as volume_op
use Rattle.mv_machine.specs.declared.entry.VolumeReply.TheVariants as volume_reply
use Rattle.mv_config.specs.Setup.{Setup}
use Rattle.mv_calls.specs.Keeping.{Kept}
use Rattle.mv_calls.specs.Program.{Done, Heard, left}
use Rattle.mv_deck.specs.Deck.{JobData}
use Rattle.mv_deck.specs.declared.deck.Step.{Step}
use Rattle.mv_deck.specs.declared.deck.Step.TheVariants.{Print, Scan, Abend}
use Rattle.mv_work.specs.declared.records.Noted.TheVariants.{Printed, Scanned}
use Rattle.mv_work.specs.Noting.{record_of, steps_noted}
use Rattle.mv_work.specs.Recording.{lines_of_notes, lines_recorded}

-- a read that told a number
told : ℕ → Heard
told n = record {
  entry = record {
    caller = 2;
    object = Volume 5;
    place = 0;
    op = op_on.Volume volume_op.Read;
    reply = reply_of.Volume (volume_reply.Value n);
  };
  wakes = [];
}

steps : List Step
steps = Print (codes "A") ∷ Scan 5 ∷ Abend 7 ∷ []

-- PRINT and SCAN are noted by their places, and the end is that of the ABEND
noted_so : (c : Setup) (kept : Kept) → left (steps_noted c 3 (λ latch. None) 0 [] steps kept) (told 40 ∷ told 40 ∷ [])
    ≡ Done (record_of 3 7 (Printed 0 ∷ Scanned 1 40 40 ∷ []))
unfolding steps told
noted_so c kept = refl

-- two numbers are noted as they were read
noted_unsteady : (c : Setup) (kept : Kept) → left (steps_noted c 3 (λ latch. None) 0 [] steps kept) (told 40 ∷ told 41 ∷ [])
    ≡ Done (record_of 3 7 (Printed 0 ∷ Scanned 1 40 41 ∷ []))
unfolding steps told
noted_unsteady c kept = refl

-- and show in the line
said_so : lines_of_notes steps (Printed 0 ∷ Scanned 1 40 40 ∷ []) ≡ codes "| A" ∷ codes "| SCAN 5 STEADY" ∷ []
unfolding steps digits
said_so = refl

said_unsteady : lines_of_notes steps (Printed 0 ∷ Scanned 1 40 41 ∷ []) ≡ codes "| A" ∷ codes "| SCAN 5 UNSTEADY" ∷ []
unfolding steps digits
said_unsteady = refl

job : List Step → JobData
job list = record { name = codes "J"; after = []; steps = list }

-- the lines stand in the order of the deck, whoever ran which job; a job without a record has none
in_order : lines_recorded (job (Print (codes "A") ∷ []) ∷ job (Print (codes "B") ∷ []) ∷ job (Print (codes "C") ∷ []) ∷ [])
    (record_of 2 0 (Printed 0 ∷ []) ∷ record_of 0 0 (Printed 0 ∷ []) ∷ [])
    ≡ (codes "| A" ∷ []) ∷ [] ∷ (codes "| C" ∷ []) ∷ []
unfolding job
in_order = refl
