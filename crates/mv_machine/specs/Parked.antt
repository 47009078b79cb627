-- The pause of an element in which a caller waits, by the caller's own entries.
use Rattle.std.specs.Prelude.{ℕ, ◌==◌, List, [], ◌∷◌, Option, Some, None, if◌then◌else◌}
use Rattle.mv_element.specs.declared.operation.ElementOp.TheVariants as element_op
use Rattle.mv_element.specs.declared.operation.ElementReply.TheVariants.{Parked}
use Rattle.mv_machine.specs.declared.entry.Entry.{Entry}
use Rattle.mv_machine.specs.declared.entry.Object.{Object}
use Rattle.mv_machine.specs.declared.entry.Object.TheVariants.{Element}
use Rattle.mv_machine.specs.declared.entry.Op.{Op}
use Rattle.mv_machine.specs.declared.entry.Op.TheVariants as op_on
use Rattle.mv_machine.specs.declared.entry.Reply.{Reply}
use Rattle.mv_machine.specs.declared.entry.Reply.TheVariants as reply_of

-- the generation of an element's last pause, if its reply was Parked, after one more entry
abbrev pub parked_by : ℕ → Option ℕ → Object → Op → Reply → Option ℕ
parked_by n last (Element m) (op_on.Element (element_op.Pause g)) (reply_of.Element Parked) = if m == n then Some g else last
parked_by n last (Element m) (op_on.Element (element_op.Pause g)) reply = if m == n then None else last
parked_by n last o op reply = last

-- the generation of an element's last pause, if its reply was Parked, after further entries
abbrev pub parked_from : ℕ → Option ℕ → List Entry → Option ℕ
parked_from n last [] = last
parked_from n last (e ∷ es) = parked_from n (parked_by n last e.object e.op e.reply) es

-- the generation of the pause of an element in which its caller waits after its log, if it waits in one
abbrev pub parked : ℕ → List Entry → Option ℕ
parked n log = parked_from n None log
