use Rattle.std.proofs.Common.{rules, sym, subst}
use Rattle.mv_ordered.proofs.Calls.{new_keeps_discipline}
use Rattle.mv_guarded.specs.Guarded.{AreAlone}
use Rattle.mv_dining.proofs.dining.DiningWork.work.Goals as goal

pub eat_all-requires-clause-ready : goal.eat_all-requires-clause-ready
eat_all-requires-clause-ready g c = record {
  config = search rules;
  task = search rules;
  rest = search rules;
  number = search rules;
  discipline = new_keeps_discipline c.args.task.now.log c.requires.fresh.log;
  alone = subst AreAlone (sym c.requires.fresh.log) tt;
}

pub returns-clause-done : goal.returns-clause-done
returns-clause-done g c = record {
  discipline = c.eat_all.ensures.ready.discipline;
  alone = c.eat_all.ensures.ready.alone;
  none = c.eat_all.ensures.none;
}
