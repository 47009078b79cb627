-- What a verdict says of a text, by its status: 0 legal, 1 illegal, 2 malformed, 3 too long, 4 out of memory.
use Rattle.std.specs.Prelude.{◌≡◌, ℕ, ◌<◌, ◌≤◌, ◌⊎◌, List, length, Ok, Err, Result, Some}
use Rattle.mv_line.specs.Fault.{fault_at}
use Rattle.mv_entrytext.specs.Fault.{text_fault}
use Rattle.mv_replay.specs.declared.status.ReplayStatus.{ReplayStatus}
use Rattle.mv_replay.specs.declared.status.ReplayStatus.TheVariants.{Done, TooLong, Illegal, Text}
use Rattle.mv_replay.specs.Judgement.{journal_limit, IsLegalJournal, IsIllegalAt}
use Rattle.mv_replay.specs.Outcome.{Asks}
use Rattle.mv_oracle.specs.declared.verdict.Verdict.{Verdict}

-- the fields in their order
abbrev pub verdict_with : (status events line kind : ℕ) → Verdict
verdict_with status events line kind = record { status = status; events = events; line = line; kind = kind }

-- the verdict by what the judge of texts returned: the number of entries, or why the text is not legal
abbrev pub verdict_of : Result ℕ ReplayStatus → Verdict
verdict_of (Ok events) = verdict_with 0 events 0 0
verdict_of (Err (Illegal line)) = verdict_with 1 0 line 0
verdict_of (Err (Text fault)) = verdict_with 2 0 fault.line fault.kind
verdict_of (Err TooLong) = verdict_with 3 0 0 0
verdict_of (Err _) = verdict_with 4 0 0 0

-- the status of a text with this ending
abbrev pub status_of : ReplayStatus → ℕ
status_of Done = 0
status_of (Illegal line) = 1
status_of (Text fault) = 2
status_of TooLong = 3
status_of _ = 4

-- the verdict is true of the text
pub record IsVerdictOn (journal : List ℕ) (v : Verdict) : Type 0 where
  pub known : v.status ≤ 4
  pub legal : v.status ≡ 0 → IsLegalJournal journal v.events
  pub illegal : v.status ≡ 1 → IsIllegalAt journal v.line
  pub malformed : v.status ≡ 2 → text_fault journal ≡ Some (fault_at v.line v.kind)
  pub too_long : v.status ≡ 3 → journal_limit < length journal
  -- each text has one status: the verdict has it, or says that memory ran out
  pub owed : (wanted : ReplayStatus) → Asks journal wanted → (v.status ≡ status_of wanted) ⊎ (v.status ≡ 4)
  -- a field without a meaning is 0
  pub form : (r : Result ℕ ReplayStatus) × (v ≡ verdict_of r)
