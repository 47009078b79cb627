use Rattle.std.proofs.Common.{◌≡◌, replicate, rules}
use Rattle.mv_script.proofs.configuration.unbudgeted.Goals as goal

pub with_budgets-requires : goal.with_budgets-requires
with_budgets-requires c =
    let budgets : c.resize.new.self.items ≡ replicate c.args.tasks 0 = search rules in
    record { valid = rw (c.in_ok-owners.ensures.items, c.in_ok-copied.ensures, budgets) c.requires.valid }
