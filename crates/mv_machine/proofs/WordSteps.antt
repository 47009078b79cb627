-- An operation on an object that has a word goes by its state alone.
use Rattle.std.proofs.Common.{◌≡◌, ℕ, ◌+◌, true, Some, option_and_then, IsSome, refl, ap, arith}
use Rattle.std.proofs.lemmas.Bool.{false≢true}
use Rattle.mv_ecb.specs.declared.operation.EcbOp.{EcbOp}
use Rattle.mv_ecb.specs.Table.{IsEcbOp, ecb_step}
use Rattle.mv_element.specs.declared.operation.ElementOp.{ElementOp}
use Rattle.mv_element.specs.Table.{IsElementOp, element_step}
use Rattle.mv_machine.specs.declared.entry.Object.{Object}
use Rattle.mv_machine.specs.declared.entry.Object.TheVariants.{Ecb, Element, Volume, Latches}
use Rattle.mv_machine.specs.declared.entry.Op.{Op}
use Rattle.mv_machine.specs.declared.entry.Op.TheVariants as op_on
use Rattle.mv_machine.specs.declared.packing.WordState.TheVariants as state
use Rattle.mv_machine.specs.Packing.{HasOpFields, state_at, state_after, reply_in}
use Rattle.mv_config.specs.Setup.{Setup}
use Rattle.mv_machine.specs.System.{System, admitted, ecb_admitted, element_admitted, reply_to, moved, place_of, advanced, volume_step}
use Rattle.mv_machine.proofs.Histories.{with_at-own}

ecb_fields : (c : Setup) (k n : ℕ) (op : EcbOp) → ecb_admitted c k n op ≡ true → IsEcbOp op
ecb_fields c k n op a = grind arith

element_fields : (c : Setup) (k n : ℕ) (op : ElementOp) → element_admitted c k n op ≡ true → IsElementOp op
element_fields c k n op a = grind arith

pub fields_admitted : (c : Setup) (m : System) (k : ℕ) (o : Object) (op : Op) → admitted c m k o op ≡ true → HasOpFields op
fields_admitted c m k (Ecb n) (op_on.Ecb op) a = ecb_fields c k n op (grind arith)
fields_admitted c m k (Element n) (op_on.Element op) a = element_fields c k n op (grind arith)
fields_admitted c m k (Volume n) (op_on.Volume op) a = tt
fields_admitted c m k Latches (op_on.Latch op) a = tt
fields_admitted c m k o op a = absurd (false≢true a)

pub reply_by_state : (c : Setup) (m : System) (k : ℕ) (o : Object) (op : Op) → admitted c m k o op ≡ true → IsSome (state_at m o)
    → reply_to m k o op ≡ option_and_then (reply_in op) (state_at m o)
reply_by_state c m k (Ecb n) (op_on.Ecb op) a w = refl
reply_by_state c m k (Element n) (op_on.Element op) a w = refl
reply_by_state c m k (Volume n) (op_on.Volume op) a w = refl
reply_by_state c m k Latches (op_on.Latch op) a w = absurd (false≢true w)
reply_by_state c m k o op a w = absurd (false≢true a)

pub state_by_state : (c : Setup) (m : System) (k : ℕ) (o : Object) (op : Op) → admitted c m k o op ≡ true
    → state_at (moved m k o op) o ≡ option_and_then (state_after op) (state_at m o)
state_by_state c m k (Ecb n) (op_on.Ecb op) a = ap (λ z. Some (state.Ecb z.state))
    (with_at-own m.ecb n (advanced (m.ecb n) (ecb_step op (m.ecb n).state).0))
state_by_state c m k (Element n) (op_on.Element op) a = ap (λ z. Some (state.Element z.state))
    (with_at-own m.element n (advanced (m.element n) (element_step op (m.element n).state).0))
state_by_state c m k (Volume n) (op_on.Volume op) a = ap (λ z. Some (state.Volume z.state))
    (with_at-own m.volume n (advanced (m.volume n) (volume_step op (m.volume n).state).0))
state_by_state c m k Latches (op_on.Latch op) a = refl
state_by_state c m k o op a = absurd (false≢true a)

pub place_rises : (c : Setup) (m : System) (k : ℕ) (o : Object) (op : Op) → admitted c m k o op ≡ true
    → place_of (moved m k o op) o ≡ place_of m o + 1
place_rises c m k (Ecb n) (op_on.Ecb op) a = ap (λ z. z.place)
    (with_at-own m.ecb n (advanced (m.ecb n) (ecb_step op (m.ecb n).state).0))
place_rises c m k (Element n) (op_on.Element op) a =
    ap (λ z. z.place) (with_at-own m.element n (advanced (m.element n) (element_step op (m.element n).state).0))
place_rises c m k (Volume n) (op_on.Volume op) a =
    ap (λ z. z.place) (with_at-own m.volume n (advanced (m.volume n) (volume_step op (m.volume n).state).0))
place_rises c m k Latches (op_on.Latch op) a = refl
place_rises c m k o op a = absurd (false≢true a)
