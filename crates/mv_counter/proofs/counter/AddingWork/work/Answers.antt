use Rattle.std.proofs.Common.{[], ap, subst}
use Rattle.mv_ordered.specs.Held.{held}
use Rattle.mv_guarded.specs.Guarded.{Keeps}
use Rattle.mv_guarded.proofs.Careful.{careful_fresh}
use Rattle.mv_counter.specs.Counter.{IsAllowed}
use Rattle.mv_counter.proofs.counter.AddingWork.work.Goals as goal

pub add_all-requires-clause-ready : goal.add_all-requires-clause-ready
add_all-requires-clause-ready g c = record {
  config = (c.args.self.now.0, c.requires.start.config);
  careful = careful_fresh IsAllowed c.args.station.now c.args.task.now.number c.args.task.now c.requires.fresh;
  bare = ap held c.requires.fresh.log;
}

pub returns-clause-done : goal.returns-clause-done
returns-clause-done g c = record {
  allowed = subst (λ k. Keeps IsAllowed k [] c.add_all.new.task.log) c.add_all.ensures.number c.add_all.ensures.ready.careful.allowed;
}
