-- What the numbers of an operation mean.
use Rattle.std.specs.Prelude.{ℕ, ◌==◌, Bool, true, false, Option, Some, None, option_map, option_and_then, if◌then◌else◌}
use Rattle.mv_ecb.specs.declared.operation.EcbOp.{EcbOp}
use Rattle.mv_ecb.specs.declared.operation.EcbOp.TheVariants as ecb
use Rattle.mv_element.specs.declared.operation.ElementOp.{ElementOp}
use Rattle.mv_element.specs.declared.operation.ElementOp.TheVariants as element
use Rattle.mv_latch.specs.declared.operation.LatchOp.{LatchOp}
use Rattle.mv_latch.specs.declared.operation.LatchOp.TheVariants.{Obtain, Confirm, Release, Purge}
use Rattle.mv_latch.specs.declared.request.LatchForm.{LatchForm}
use Rattle.mv_latch.specs.declared.request.LatchForm.TheVariants.{Conditional, Waiting, Posted}
use Rattle.mv_latch.specs.declared.request.Mode.{Mode}
use Rattle.mv_latch.specs.declared.request.Mode.TheVariants.{Shared, Exclusive}
use Rattle.mv_machine.specs.declared.entry.Object.{Object}
use Rattle.mv_machine.specs.declared.entry.Object.TheVariants.{Ecb, Element, Volume, Latches}
use Rattle.mv_machine.specs.declared.entry.Op.{Op}
use Rattle.mv_machine.specs.declared.entry.Op.TheVariants as op_on
use Rattle.mv_machine.specs.declared.entry.VolumeOp.{VolumeOp}
use Rattle.mv_machine.specs.declared.entry.VolumeOp.TheVariants.{Read, Write}
use Rattle.mv_oracle.specs.declared.operation.Operation.{Operation}

-- of a kind and a number
abbrev pub object_of : ℕ → ℕ → Option Object
object_of kind number =
    if kind == 0 then Some (Ecb number) else if kind == 1 then Some (Element number) else if kind == 2 then Some (Volume number)
    else if kind == 3 then Some Latches else None

abbrev pub ecb_op_of : ℕ → ℕ → Option EcbOp
ecb_op_of n a =
    if n == 0 then Some ecb.Arm else if n == 1 then Some (ecb.Extend a) else if n == 2 then Some ecb.Settle
    else if n == 3 then Some ecb.Clear else if n == 4 then Some (ecb.Post a) else if n == 5 then Some ecb.Test else None

abbrev pub element_op_of : ℕ → ℕ → ℕ → Option ElementOp
element_op_of n a b =
    if n == 0 then Some element.Open else if n == 1 then Some (element.Pause a) else if n == 2 then Some (element.Resume a)
    else if n == 3 then Some (element.Release a b) else if n == 4 then Some (element.Close a)
    else if n == 5 then Some element.Test else None

abbrev pub volume_op_of : ℕ → ℕ → Option VolumeOp
volume_op_of n a = if n == 0 then Some Read else if n == 1 then Some (Write a) else None

abbrev pub mode_of : ℕ → Option Mode
mode_of b = if b == 0 then Some Shared else if b == 1 then Some Exclusive else None

abbrev pub form_of : ℕ → ℕ → Option LatchForm
form_of c d = if c == 0 then Some Conditional else if c == 1 then Some Waiting else if c == 2 then Some (Posted d) else None

abbrev pub conditional_of : ℕ → Option Bool
conditional_of c = if c == 0 then Some false else if c == 1 then Some true else None

-- an OBTAIN, if its mode and its form have a meaning
abbrev pub obtain_of : (latch requestor : ℕ) → Option Mode → Option LatchForm → Option LatchOp
obtain_of latch requestor (Some mode) (Some form) = Some (Obtain latch requestor mode form)
obtain_of latch requestor _ _ = None

-- a RELEASE, if it is said whether it is conditional
abbrev pub release_of : (latch id : ℕ) → Option Bool → Option LatchOp
release_of latch id conditional = option_map (λ yes. Release latch id yes) conditional

abbrev pub latch_op_of : Operation → Option LatchOp
latch_op_of x =
    if x.operation == 0 then obtain_of x.a x.requestor (mode_of x.b) (form_of x.c x.d)
    else if x.operation == 1 then Some (Confirm x.a x.b)
    else if x.operation == 2 then release_of x.a x.b (conditional_of x.c)
    else if x.operation == 3 then Some (Purge x.requestor) else None

-- the operation on an object of this kind
abbrev pub op_of : Operation → Object → Option Op
op_of x (Ecb n) = option_map (λ op. op_on.Ecb op) (ecb_op_of x.operation x.a)
op_of x (Element n) = option_map (λ op. op_on.Element op) (element_op_of x.operation x.a x.b)
op_of x (Volume n) = option_map (λ op. op_on.Volume op) (volume_op_of x.operation x.a)
op_of x Latches = option_map (λ op. op_on.Latch op) (latch_op_of x)

-- the object and the operation on it, if each number has a meaning
abbrev pub request_of : Operation → Option (Object × Op)
request_of x = option_and_then (λ o. option_map (λ op. (o, op)) (op_of x o)) (object_of x.kind x.object)
