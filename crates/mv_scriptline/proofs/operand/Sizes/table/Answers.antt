-- The six words of a TABLE were read one behind the other.
use Rattle.std.proofs.Common.{◌≡◌, ℕ, refl, ap, ◌∙◌, arith}
use Rattle.std.proofs.lemmas.Grind.{common_steps}
use Rattle.mv_line.specs.Field.{fields_of, starts_fields}
use Rattle.mv_scriptline.specs.Operand.{task, latch, volume, ecb, table_size}
use Rattle.mv_scriptline.specs.Words.{Read, both, led_by, three}
use Rattle.mv_scriptline.proofs.Leading.{led}
use Rattle.mv_scriptline.proofs.operand.Sizes.table.Goals.{After-split_field-3}
use Rattle.mv_scriptline.proofs.operand.Sizes.table.Goals as goal

parts : (c : After-split_field-3)
    → led_by (task c.args.self) (led_by latch (led_by volume (three (ecb c.args.self) (ecb c.args.self) table_size)))
    (fields_of c.args.words.now)
    ≡ both (task c.args.self c.split_field.result.0.now) (both (latch c.split_field-2.result.0.now)
    (both (volume c.split_field-3.result.0.now)
    (three (ecb c.args.self) (ecb c.args.self) table_size (fields_of c.split_field-3.result.1.now))))
parts c =
    let z = c.args.self in
    let blocks = three (ecb z) (ecb z) table_size in
    let o = c.split_field.result.0.now in
    let l = c.split_field-2.result.0.now in
    let v = c.split_field-3.result.0.now in
    let rest = fields_of c.split_field-3.result.1.now in
    ap (led_by (task z) (led_by latch (led_by volume blocks)))
    (c.split_field.ensures.fields ∙ ap (starts_fields o) (c.split_field-2.ensures.fields ∙ ap (starts_fields l)
    c.split_field-3.ensures.fields))
    ∙ led (task z) (led_by latch (led_by volume blocks)) o (starts_fields l (starts_fields v rest)) refl
    ∙ ap (both (task z o)) (led latch (led_by volume blocks) l (starts_fields v rest) refl)
    ∙ ap (λ (s : Read (ℕ × (ℕ × (ℕ × ℕ)))). both (task z o) (both (latch l) s)) (led volume blocks v rest refl)

pub returns : goal.returns
returns c = grind (arith, common_steps, parts (goal.at.returns c).After-split_field-3)

pub returns-in_err-owner : goal.returns-in_err-owner
returns-in_err-owner c = grind (arith, common_steps, parts (goal.at.returns-in_err-owner c).After-split_field-3)
