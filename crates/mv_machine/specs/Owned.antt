-- Which operations only an object's owner may make.
use Rattle.std.specs.Prelude.{◌≡◌, ℕ, Bool, true, false, ◌&&◌, List, Option, Some, None}
use Rattle.std.specs.List.{AllByRecursion, list_any}
use Rattle.mv_ecb.specs.declared.operation.EcbOp.TheVariants as ecb_op
use Rattle.mv_element.specs.declared.operation.ElementOp.TheVariants as element_op
use Rattle.mv_latch.specs.Latch.{granted}
use Rattle.mv_latch.specs.LatchSet.{list_of}
use Rattle.mv_latch.specs.Request.{is_own}
use Rattle.mv_machine.specs.declared.entry.Entry.{Entry}
use Rattle.mv_machine.specs.declared.entry.Object.{Object}
use Rattle.mv_machine.specs.declared.entry.Object.TheVariants.{Ecb, Element, Volume, Latches}
use Rattle.mv_machine.specs.declared.entry.Op.{Op}
use Rattle.mv_machine.specs.declared.entry.Op.TheVariants as op_on
use Rattle.mv_machine.specs.Legal.{same_object}
use Rattle.mv_config.specs.Setup.{Setup, owner_of, element_owner}
use Rattle.mv_machine.specs.System.{System}

-- the owner of an object. Volumes and the latch set have none
abbrev pub owner_at : Setup → Object → Option ℕ
owner_at c (Ecb n) = Some (owner_of c n)
owner_at c (Element n) = Some (element_owner c n)
owner_at c (Volume n) = None
owner_at c Latches = None

-- whether only the object's owner may make an operation
abbrev pub is_owners : Op → Bool
is_owners (op_on.Ecb ecb_op.Arm) = true
is_owners (op_on.Ecb (ecb_op.Extend exit)) = true
is_owners (op_on.Ecb ecb_op.Settle) = true
is_owners (op_on.Ecb ecb_op.Clear) = true
is_owners (op_on.Ecb (ecb_op.Post code)) = false
is_owners (op_on.Ecb ecb_op.Test) = false
is_owners (op_on.Element element_op.Open) = true
is_owners (op_on.Element (element_op.Pause generation)) = true
is_owners (op_on.Element (element_op.Resume generation)) = true
is_owners (op_on.Element (element_op.Release generation code)) = false
is_owners (op_on.Element (element_op.Close generation)) = true
is_owners (op_on.Element element_op.Test) = false
is_owners (op_on.Volume op) = false
is_owners (op_on.Latch op) = false

-- whether an operation clears a block
abbrev pub is_clear : Op → Bool
is_clear (op_on.Ecb ecb_op.Clear) = true
is_clear _ = false

-- no entry on the object has an operation that meets the test
abbrev pub HasNo : (Op → Bool) → Object → List Entry → Type 0
HasNo test o es = AllByRecursion (λ e. (same_object e.object o && test e.op) ≡ false) es

-- a caller's request of this number at a latch is granted, as Confirm finds it
abbrev pub IsGranted : ℕ → ℕ → ℕ → System → Type 0
IsGranted k latch id s = list_any (is_own k id) (granted (list_of s.latches.state latch)) ≡ true

-- a caller has no request of this number in a latch's list
abbrev pub IsGone : ℕ → ℕ → ℕ → System → Type 0
IsGone k latch id s = list_any (is_own k id) (list_of s.latches.state latch) ≡ false
