-- A TABLE, in the order of the kinds.
use Rattle.std.proofs.Common.{◌≡◌, false, List, ◌∷◌, ◌++◌, [], map, Some, ap, sym, subst, ◌∙◌, refl}
use Rattle.std.specs.Prelude.{is_some}
use Rattle.mv_config.specs.Check.{IsValid}
use Rattle.mv_config.specs.Config.{exit_of}
use Rattle.mv_config.specs.Setup.{Setup}
use Rattle.mv_calls.specs.declared.table.Table.{Table}
use Rattle.mv_calls.specs.Table.{table_refusal}
use Rattle.mv_calls.proofs.TableFacts.{can_have_is}
use Rattle.mv_scriptline.specs.declared.statement.Statement.{Statement}
use Rattle.mv_scriptline.specs.declared.statement.Statement.TheVariants as statement
use Rattle.mv_script.specs.Fault.{is_out_of_order, has_table}
use Rattle.mv_script.specs.Reading.{notes_of, progress_of, setup_in, Stands}
use Rattle.mv_script.proofs.Behind.{late_table, table_is, cheap_table, taken_table, setup_is, some_stated}
use Rattle.mv_script.proofs.Told.{unfit}
use Rattle.mv_script.proofs.Valid.{valid_unbudgeted}
use Rattle.mv_script.proofs.reading.Reading.take_table.Goals.{After-deref-2, After-check}
use Rattle.mv_script.proofs.reading.Reading.take_table.Goals as goal

-- no TASK and no END stands before it
order : (c : After-deref-2) (earlier : List Statement) → Stands earlier (notes_of c.args.self.now)
    → is_out_of_order earlier (statement.Table c.args.table) ≡ false
order c earlier b =
    sym (late_table earlier (notes_of c.args.self.now) b c.args.table) ∙ sym c.is_late_for_table.ensures ∙ c.if-is_late_for_table.false

-- nor another table
first : (c : After-deref-2) → is_some c.args.self.now.table ≡ false
first c = sym c.is_some.ensures ∙ c.if-is_some.false

pub unbudgeted-requires : goal.unbudgeted-requires
unbudgeted-requires c =
    let earlier = c.requires.0 in
    let b = c.requires.1.0 in
    let n = notes_of c.args.self.now in
    record {
      valid = subst IsValid
          (sym (setup_is earlier n b c.deref.result.now (map exit_of c.deref-2.result.now) c.deref.ensures.value
          (ap (map exit_of) c.deref-2.ensures.value)))
          (valid_unbudgeted (progress_of earlier) b.far.sound
          (some_stated earlier n b _ (order (goal.at.unbudgeted-requires c).After-deref-2 earlier b)));
    }

-- the configuration that it was checked against
checked_in : (c : After-check) (earlier : List Statement) → Stands earlier (notes_of c.args.self.now)
    → table_refusal c.in_ok-config.config c.args.table ≡ table_refusal (setup_in (progress_of earlier) []) c.args.table
checked_in c earlier b =
    ap (λ (s : Setup). table_refusal s c.args.table)
    (c.in_ok-config.ensures
    ∙ setup_is earlier (notes_of c.args.self.now) b c.deref.result.now (map exit_of c.deref-2.result.now) c.deref.ensures.value
    (ap (map exit_of) c.deref-2.ensures.value))

pub returns-in-Ok : goal.returns-in-Ok
returns-in-Ok c = λ earlier b good.
    let n = notes_of c.args.self.now in
    let at = goal.at.returns-in-Ok c in
    let t = taken_table earlier n b c.args.table (order at.After-deref-2 earlier b) (first at.After-deref-2)
    (sym (checked_in at.After-check earlier b) ∙ c.in-Ok.ensures.checked) in (
      t.0,
      subst (λ (table : Table). Stands (earlier ++ statement.Table c.args.table ∷ []) (record n { table = Some table }))
          (sym c.in-Ok.ensures.ok) t.1,
    )

pub returns : goal.returns
returns c = λ earlier b good.
    let n = notes_of c.args.self.now in
    let at = goal.at.returns c in
    let none : has_table earlier ≡ false = sym (table_is earlier n b) ∙ first at.After-deref-2 in
    unfit earlier (statement.Table c.args.table) (order at.After-deref-2 earlier b) none refl refl
    (cheap_table earlier n b c.args.table (first at.After-deref-2)) refl
    (sym (can_have_is (setup_in (progress_of earlier) []) c.args.table)
    ∙ ap is_some (sym (checked_in at.After-check earlier b) ∙ c.in-Err.ensures.refused))
