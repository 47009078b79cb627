use Rattle.std.proofs.Common.{◌≡◌, false, length, sym, ◌∙◌, arith}
use Rattle.std.proofs.lemmas.List.{length-map}
use Rattle.mv_config.specs.Config.{exit_of}
use Rattle.mv_scriptline.specs.declared.statement.Statement.TheVariants as statement
use Rattle.mv_script.specs.Fault.{is_out_of_order}
use Rattle.mv_script.specs.Reading.{notes_of}
use Rattle.mv_script.proofs.Behind.{late_ecb, taken_ecb}
use Rattle.mv_script.proofs.reading.Reading.take_ecb.Goals as goal

pub returns : goal.returns
returns c = λ earlier b good.
    let n = notes_of c.args.self.now in
    let items = c.args.self.now.exits.items in
    let order : is_out_of_order earlier (statement.Ecb c.args.owner) ≡ false =
    sym (late_ecb earlier n b (length items) c.args.owner (sym (length-map items exit_of))) ∙ sym c.is_late_for_ecbs.ensures
    ∙ c.if-is_late_for_ecbs.false in
    rw c.in_ok-push.ensures.items
    (taken_ecb earlier n b c.args.owner order (omega (arith, c.len.ensures, c.if-len-ge-MOST_ECBS.false)) good)
