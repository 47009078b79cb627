-- The owners of the blocks so far.
use Rattle.mv_plan.proofs.Words.{◌≡◌, ◌++◌, replicate, end_owners, scheduler}
use Rattle.mv_plan.proofs.spool_setup.owners_of.Given as goal

abbrev pub invariant-loop : goal.invariant-loop
invariant-loop l = l.owners.items ≡ replicate l.jobs scheduler ++ replicate l.jobs scheduler ++ end_owners l.writer l.counter
