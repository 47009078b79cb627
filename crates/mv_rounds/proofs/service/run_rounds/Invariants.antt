use Rattle.mv_rounds.proofs.service.run_rounds.Given as goal

abbrev pub invariant-loop-alloc : goal.invariant-loop-alloc
invariant-loop-alloc g l = g.S.Service.holds_between l.fn.service l.service

abbrev pub decreases-loop-alloc : goal.decreases-loop-alloc
decreases-loop-alloc g l = g.S.Service.rounds_left l.service
