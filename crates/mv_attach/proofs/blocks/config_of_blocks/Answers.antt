use Rattle.mv_attach.proofs.Unrefused.{valid_blocks}
use Rattle.mv_attach.proofs.blocks.config_of_blocks.Goals as goal

pub of-requires : goal.of-requires
of-requires c =
    let asked = c.requires in
    let budgets = c.in_ok-to_vec.ensures.items_if_clones_equal (λ x y is. is) in
    let owners = c.in_ok-to_vec-2.ensures.items_if_clones_equal (λ x y is. is) in
    rw (budgets, owners, c.new.ensures.items)
    (valid_blocks c.args.budgets.now c.args.owners.now asked.some asked.callers asked.events asked.ecbs asked.owners)
