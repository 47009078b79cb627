use Rattle.std.proofs.Common.{◌∙◌, find, sym, ap}
use Rattle.std.specs.List.{range_with_len}
use Rattle.std.specs.Option.{option_or}
use Rattle.mv_config.specs.Setup.{is_on_exit}
use Rattle.mv_calls.proofs.Tables.{found_in}
use Rattle.mv_calls.proofs.table.Table.first_with_exit.Goals as goal

pub returns-in-Some : goal.returns-in-Some
returns-in-Some c =
    let test = is_on_exit c.args.config.now in
    let high = find test (range_with_len c.ranges-low.result.1 c.args.self.now.size) in
    sym (found_in test c.args.self.now c.ranges-low.result.0 c.ranges-low.result.1 c.ranges-low.ensures.rising
    ∙ ap (λ x. option_or x high) (sym c.with_exit_in.ensures ∙ c.in-Some.is))

pub returns-in-None : goal.returns-in-None
returns-in-None c =
    let test = is_on_exit c.args.config.now in
    let high = find test (range_with_len c.ranges-low.result.1 c.args.self.now.size) in
    sym (found_in test c.args.self.now c.ranges-low.result.0 c.ranges-low.result.1 c.ranges-low.ensures.rising
    ∙ ap (λ x. option_or x high) (sym c.with_exit_in.ensures ∙ c.in-None.is) ∙ sym c.with_exit_in-in-None.ensures)
