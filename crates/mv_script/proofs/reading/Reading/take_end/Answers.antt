use Rattle.std.proofs.Common.{◌≡◌, false, sym, ◌∙◌, arith}
use Rattle.mv_scriptline.specs.declared.statement.Statement.TheVariants as statement
use Rattle.mv_script.specs.Fault.{is_out_of_order}
use Rattle.mv_script.specs.Reading.{notes_of}
use Rattle.mv_script.proofs.Behind.{late_end, taken_end}
use Rattle.mv_script.proofs.reading.Reading.take_end.Goals as goal

pub returns : goal.returns
returns c = λ earlier b good.
    let n = notes_of c.args.self.now in
    let order : is_out_of_order earlier statement.End ≡ false =
    sym (late_end earlier n b) ∙ sym c.is_closed.ensures ∙ c.if-is_closed.false in
    taken_end earlier n b order (omega (arith, c.task_count.ensures earlier b, c.if-task_count-self.false, b.far.stated))
