-- What a look at a machine finds, and its status: 0 found, 5 absent.
use Rattle.std.specs.Prelude.{◌≡◌, ℕ, nat_lt, List, length, slice_get, Option, Some, None, option_map, if◌then◌else◌}
use Rattle.mv_ecb.specs.Word.{word_of}
use Rattle.mv_ecb.specs.declared.operation.EcbReply.TheVariants as ecb
use Rattle.mv_element.specs.declared.operation.ElementReply.TheVariants as element
use Rattle.mv_latch.specs.LatchSet.{list_of}
use Rattle.mv_latch.specs.declared.operation.Wake.{Wake}
use Rattle.mv_machine.specs.declared.entry.Object.{Object}
use Rattle.mv_machine.specs.declared.entry.Object.TheVariants.{Ecb, Element, Volume, Latches}
use Rattle.mv_machine.specs.declared.entry.Reply.TheVariants as reply_of
use Rattle.mv_machine.specs.declared.entry.VolumeReply.TheVariants as volume
use Rattle.mv_config.specs.Setup.{Setup, element_count}
use Rattle.mv_machine.specs.System.{System}
use Rattle.mv_oracle.specs.declared.answer.Answer.{Answer}
use Rattle.mv_oracle.specs.declared.latch.LatchRequest.{LatchRequest}
use Rattle.mv_oracle.specs.declared.latch.LatchWake.{LatchWake}
use Rattle.mv_oracle.specs.Answer.{answer_of}
use Rattle.mv_oracle.specs.Latch.{latch_wake, latch_request}

-- what is found is written
abbrev pub IsFound : {A : Type 0} → Option A → (status : ℕ) → A → Type 0
IsFound (Some x) status a = (status ≡ 0) × (a ≡ x)
IsFound None status a = status ≡ 5

-- an object's place, and its state as the reply of a TEST or of a READ; the latch set has none
abbrev pub object_at : Setup → System → Option Object → Option Answer
object_at c s (Some (Ecb n)) =
    if nat_lt n (length c.owners) then Some (answer_of (s.ecb n).place (reply_of.Ecb (ecb.Word (word_of (s.ecb n).state)))) else None
object_at c s (Some (Element n)) =
    if nat_lt n (element_count c) then Some (answer_of (s.element n).place (reply_of.Element (element.State (s.element n).state)))
    else None
object_at c s (Some (Volume n)) =
    if nat_lt n c.volumes then Some (answer_of (s.volume n).place (reply_of.Volume (volume.Value (s.volume n).state))) else None
object_at c s (Some Latches) = None
object_at c s None = None

-- the wake of this index among those of the last operation on the latch set
abbrev pub wake_at : List Wake → ℕ → Option LatchWake
wake_at wakes index = option_map latch_wake (slice_get wakes index)

-- the request of this index in the list of a latch
abbrev pub request_at : Setup → System → (latch index : ℕ) → Option LatchRequest
request_at c s latch index =
    if nat_lt latch c.latches then option_map latch_request (slice_get (list_of s.latches.state latch) index) else None
