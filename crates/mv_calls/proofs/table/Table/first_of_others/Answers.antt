use Rattle.std.proofs.Common.{◌==◌, ◌∙◌, ℕ, not, find, sym, ap}
use Rattle.std.specs.List.{range_with_len}
use Rattle.std.specs.Option.{option_or}
use Rattle.mv_config.specs.Setup.{owner_of}
use Rattle.mv_calls.proofs.Tables.{found_in}
use Rattle.mv_calls.proofs.table.Table.first_of_others.Goals as goal

pub returns-in-Some : goal.returns-in-Some
returns-in-Some c =
    let test = (λ (e : ℕ). not (owner_of c.args.config.now e == c.args.self.now.owner)) in
    let high = find test (range_with_len c.ranges-low.result.1 c.args.self.now.size) in
    sym (found_in test c.args.self.now c.ranges-low.result.0 c.ranges-low.result.1 c.ranges-low.ensures.rising
    ∙ ap (λ x. option_or x high) (sym c.other_in.ensures ∙ c.in-Some.is))

pub returns-in-None : goal.returns-in-None
returns-in-None c =
    let test = (λ (e : ℕ). not (owner_of c.args.config.now e == c.args.self.now.owner)) in
    let high = find test (range_with_len c.ranges-low.result.1 c.args.self.now.size) in
    sym (found_in test c.args.self.now c.ranges-low.result.0 c.ranges-low.result.1 c.ranges-low.ensures.rising
    ∙ ap (λ x. option_or x high) (sym c.other_in.ensures ∙ c.in-None.is) ∙ sym c.other_in-in-None.ensures)
