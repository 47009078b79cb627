-- A TASK, the first or another one.
use Rattle.std.proofs.Common.{◌≡◌, ◌++◌, [], ◌∷◌, true, false, map, ap, sym, subst, ◌∙◌, arith}
use Rattle.std.specs.Prelude.{is_some}
use Rattle.mv_config.specs.Check.{IsValid}
use Rattle.mv_config.specs.Config.{exit_of}
use Rattle.mv_scriptline.specs.declared.statement.Statement.TheVariants as statement
use Rattle.mv_script.specs.Fault.{is_out_of_order}
use Rattle.mv_script.specs.Reading.{Notes, notes_of, progress_of, Stands}
use Rattle.mv_script.proofs.Behind.{late_task, taken_task, first_task, same_notes, setup_is, some_stated}
use Rattle.mv_script.proofs.Valid.{valid_unbudgeted}
use Rattle.mv_script.proofs.reading.Reading.take_task.Goals as goal

pub returns-then-is_some : goal.returns-then-is_some
returns-then-is_some c = λ earlier b good.
    let n = notes_of c.args.self.now in
    let order : is_out_of_order earlier statement.Task ≡ false =
    sym (late_task earlier n b) ∙ sym c.is_closed.ensures ∙ c.if-is_closed.false in
    let begun : is_some n.costs ≡ true = sym c.is_some.ensures ∙ c.if-is_some.true in
    let t = taken_task earlier n b order (omega (arith, c.task_count.ensures earlier b, c.if-task_count-self.false, b.far.stated)) begun in
    let e = c.in_ok-finish.ensures in
    let same = same_notes e.others.0 (ap (λ v. v.items) e.others.1.0) (ap (λ v. map exit_of v.items) e.others.1.1.0) e.others.1.1.1.1.1.1
    e.others.1.1.1.0
    e.tasks e.budgets e.fresh.0 e.fresh.1.0 e.fresh.1.1 e.others.1.1.1.1.0 e.others.1.1.1.1.1.0 in
    (t.0, subst (λ (m : Notes). Stands (earlier ++ statement.Task ∷ []) m) (sym same) t.1)

pub unbudgeted-requires : goal.unbudgeted-requires
unbudgeted-requires c =
    let earlier = c.requires.0 in
    let b = c.requires.1.0 in
    let n = notes_of c.args.self.now in
    let order : is_out_of_order earlier statement.Task ≡ false =
    sym (late_task earlier n b) ∙ sym c.is_closed.ensures ∙ c.if-is_closed.false in
    record {
      valid = subst IsValid
          (sym (setup_is earlier n b c.deref.result.now (map exit_of c.deref-2.result.now) c.deref.ensures.value
          (ap (map exit_of) c.deref-2.ensures.value)))
          (valid_unbudgeted (progress_of earlier) b.far.sound (some_stated earlier n b _ order));
    }

pub returns : goal.returns
returns c = λ earlier b good.
    let n = notes_of c.args.self.now in
    let order : is_out_of_order earlier statement.Task ≡ false =
    sym (late_task earlier n b) ∙ sym c.is_closed.ensures ∙ c.if-is_closed.false in
    let none : is_some n.costs ≡ false = sym c.is_some.ensures ∙ c.if-is_some.false in
    first_task earlier n b c.in_ok-costs.costs order
    (omega (arith, c.task_count.ensures earlier b, c.if-task_count-self.false, b.far.stated)) none
    (c.in_ok-costs.ensures
    ∙ setup_is earlier n b c.deref.result.now (map exit_of c.deref-2.result.now) c.deref.ensures.value
    (ap (map exit_of) c.deref-2.ensures.value))
