-- The four words of an OBTAIN were read one behind the other.
use Rattle.std.proofs.Common.{◌≡◌, refl, ap, ◌∙◌, arith}
use Rattle.std.proofs.lemmas.Grind.{common_steps}
use Rattle.mv_latch.specs.declared.request.LatchForm.{LatchForm}
use Rattle.mv_latch.specs.declared.request.Mode.{Mode}
use Rattle.mv_line.specs.Field.{fields_of, starts_fields}
use Rattle.mv_scriptline.specs.Operand.{latch, requestor, mode}
use Rattle.mv_scriptline.specs.Statement.{form}
use Rattle.mv_scriptline.specs.Words.{Read, both, led_by}
use Rattle.mv_scriptline.proofs.Leading.{led}
use Rattle.mv_scriptline.proofs.operand.Sizes.obtain.Goals.{After-split_field-3}
use Rattle.mv_scriptline.proofs.operand.Sizes.obtain.Goals as goal

parts : (c : After-split_field-3)
    → led_by latch (led_by requestor (led_by mode (form c.args.self))) (fields_of c.args.words.now)
    ≡ both (latch c.split_field.result.0.now) (both (requestor c.split_field-2.result.0.now)
    (both (mode c.split_field-3.result.0.now) (form c.args.self (fields_of c.split_field-3.result.1.now))))
parts c =
    let z = c.args.self in
    let l = c.split_field.result.0.now in
    let r = c.split_field-2.result.0.now in
    let m = c.split_field-3.result.0.now in
    let f = fields_of c.split_field-3.result.1.now in
    ap (led_by latch (led_by requestor (led_by mode (form z))))
    (c.split_field.ensures.fields ∙ ap (starts_fields l) (c.split_field-2.ensures.fields ∙ ap (starts_fields r)
    c.split_field-3.ensures.fields))
    ∙ led latch (led_by requestor (led_by mode (form z))) l (starts_fields r (starts_fields m f)) refl
    ∙ ap (both (latch l)) (led requestor (led_by mode (form z)) r (starts_fields m f) refl)
    ∙ ap (λ (s : Read (Mode × LatchForm)). both (latch l) (both (requestor r) s)) (led mode (form z) m f refl)

pub returns : goal.returns
returns c = grind (arith, common_steps, parts (goal.at.returns c).After-split_field-3)

pub returns-in_err-latch : goal.returns-in_err-latch
returns-in_err-latch c = grind (arith, common_steps, parts (goal.at.returns-in_err-latch c).After-split_field-3)
