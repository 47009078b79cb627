use Rattle.std.proofs.Common.{◌≡◌, [], ap, subst, arith}
use Rattle.mv_guarded.specs.Guarded.{Keeps}
use Rattle.mv_permits.specs.Permits.{IsAllowed, given_back}
use Rattle.mv_permits.proofs.permits.PoolWork.work.Goals as goal

pub returns-then-number-lt-WORKERS-clause-done : goal.returns-then-number-lt-WORKERS-clause-done
returns-then-number-lt-WORKERS-clause-done g c =
    let u = c.work_shifts.new.task in
    let ready = c.work_shifts.ensures.ready in
    let given = c.work_shifts.ensures.given in
    let none : given_back c.args.task.now.log ≡ 0 = ap given_back c.requires.fresh.log in record {
      allowed = subst (λ k. Keeps IsAllowed k [] u.log) c.work_shifts.ensures.number ready.allowed;
      discipline = ready.discipline;
      bare = c.work_shifts.ensures.bare;
      worked = λ worker. omega arith;
    }

pub returns-else-number-lt-WORKERS-clause-done : goal.returns-else-number-lt-WORKERS-clause-done
returns-else-number-lt-WORKERS-clause-done g c =
    let u = c.manage.new.task in
    let ready = c.manage.ensures.ready in
    let number = c.number.ensures.number in
    let manager = c.if-number-lt-WORKERS.false in record {
      allowed = subst (λ k. Keeps IsAllowed k [] u.log) c.manage.ensures.number ready.allowed;
      discipline = ready.discipline;
      bare = c.manage.ensures.bare;
      worked = λ worker. absurd (omega arith);
    }
