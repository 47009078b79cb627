-- Requests and wakes as structs of numbers.
use Rattle.std.specs.Prelude.{ℕ}
use Rattle.std.specs.Prelude.{Option, Some, None}
use Rattle.mv_latch.specs.declared.operation.Wake.{Wake}
use Rattle.mv_latch.specs.declared.request.LatchForm.{LatchForm}
use Rattle.mv_latch.specs.declared.request.LatchForm.TheVariants.{Conditional, Waiting, Posted}
use Rattle.mv_latch.specs.declared.request.Mode.{Mode}
use Rattle.mv_latch.specs.declared.request.Mode.TheVariants.{Shared, Exclusive}
use Rattle.mv_latch.specs.declared.request.Request.{Request}
use Rattle.mv_oracle.specs.declared.latch.LatchRequest.{LatchRequest}
use Rattle.mv_oracle.specs.declared.latch.LatchWake.{LatchWake}

-- 1 and the block if one is posted
abbrev pub posts : Option ℕ → ℕ
posts (Some ecb) = 1
posts None = 0

abbrev pub block : Option ℕ → ℕ
block (Some ecb) = ecb
block None = 0

abbrev pub latch_wake : Wake → LatchWake
latch_wake w = record { caller = w.caller; request = w.id; code = w.code; posts = posts w.ecb; ecb = block w.ecb }

abbrev pub mode_number : Mode → ℕ
mode_number Shared = 0
mode_number Exclusive = 1

abbrev pub form_number : LatchForm → ℕ
form_number Conditional = 0
form_number Waiting = 1
form_number (Posted ecb) = 2

abbrev pub form_ecb : LatchForm → ℕ
form_ecb Conditional = 0
form_ecb Waiting = 0
form_ecb (Posted ecb) = ecb

abbrev pub latch_request : Request → LatchRequest
latch_request q = record {
  requestor = q.requestor;
  request = q.id;
  caller = q.caller;
  mode = mode_number q.mode;
  form = form_number q.form;
  ecb = form_ecb q.form;
}
