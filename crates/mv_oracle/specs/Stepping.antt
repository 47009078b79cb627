-- What an operation does, and its status: 0 done, 1 not admitted, 2 full, 3 no such operation.
use Rattle.std.specs.Prelude.{◌≡◌, ℕ, ◌<◌, ◌≤◌, Option, Some, None}
use Rattle.mv_machine.specs.declared.entry.Object.{Object}
use Rattle.mv_machine.specs.declared.entry.Op.{Op}
use Rattle.mv_machine.specs.declared.entry.Reply.{Reply}
use Rattle.mv_config.specs.Limits.{highest_place}
use Rattle.mv_config.specs.Setup.{Setup}
use Rattle.mv_machine.specs.System.{answer, place_of}
use Rattle.mv_oracle.specs.declared.answer.Answer.{Answer}
use Rattle.mv_oracle.specs.Answer.{answer_of}
use Rattle.mv_oracle.specs.Machine.{Machine, after_operation}

-- by what the machine answers, if it does: the answer has its place and its reply, and the machine is the one after the operation;
-- otherwise nothing changed. `Now` says which machine there is now
abbrev pub IsMade : (before after : Machine) → Option (ℕ × Reply) → (status : ℕ) → Answer → (Now : Machine → Type 0) → Type 0
IsMade before after (Some x) status a Now = (status ≡ 0) × (a ≡ answer_of x.0 x.1) × Now after
IsMade before after None status a Now = (status ≡ 1) × Now before

-- by the operation, if the numbers mean one, and by the place of its object
abbrev pub IsStepped : Setup → Machine → (caller : ℕ) → Option (Object × Op) → (status : ℕ) → Answer → (Now : Machine → Type 0) → Type 0
IsStepped c m k None status a Now = (status ≡ 3) × Now m
IsStepped c m k (Some x) status a Now =
    (place_of m.system x.0 ≤ highest_place
    → IsMade m (after_operation c m k x.0 x.1) (answer c m.system k x.0 x.1) status a Now)
    × (highest_place < place_of m.system x.0 → (status ≡ 2) × Now m)
