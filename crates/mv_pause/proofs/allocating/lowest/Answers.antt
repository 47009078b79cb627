-- What is searched are the task's own elements.
use Rattle.std.proofs.Common.{◌≡◌, ◌+◌, ◌-◌, ◌*◌, ℕ, Bool, not, arith, find, ap, ◌∙◌}
use Rattle.std.specs.List.{range_with_len}
use Rattle.std.specs.declared.ops.Range.{Range}
use Rattle.mv_config.specs.Setup.{Setup}
use Rattle.mv_calls.specs.Keeping.{kept_of}
use Rattle.mv_pause.proofs.Lowest.{lowest_by}
use Rattle.mv_pause.proofs.allocating.lowest.Goals as goal

pub returns-clause-lowest : goal.returns-clause-lowest
returns-clause-lowest c =
    let t = c.args.task.now in
    let first = c.number.result in
    let count = c.config.result.now.elements_per_caller in
    let test : ℕ → Bool = λ n. not ((kept_of t.number t.log).in_use n) in
    let whole : (first * count + count) - first * count ≡ count = omega arith in
    c.lowest_between.ensures.lowest
    ∙ ap (λ (r : Range ℕ). find test (range_with_len r.start (r.end - r.start))) c.own_elements-own.ensures.elements
    ∙ ap (λ n. find test (range_with_len (first * count) n)) whole
    ∙ lowest_by c.args.station.now.config t.number t.log first count c.number.ensures.number
    (ap (λ (s : Setup). s.elements_per_caller) c.config.ensures)
