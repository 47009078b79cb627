-- The round has a pool for the first requests that are left.
use Rattle.std.proofs.Common.{◌≤◌, length, sym, ap, ◌∙◌, arith}
use Rattle.mv_wait.specs.Prelude.{Setup}
use Rattle.mv_server.specs.Pool.{requests_limit}
use Rattle.mv_server.proofs.PoolRounds.{can_start, first_small}
use Rattle.mv_server.proofs.rounds.RequestsService.begin.Goals as goal

pub returns-clause-can_run : goal.returns-clause-can_run
returns-clause-can_run c =
    let h = c.requires.between.1 in
    let requests = c.parted.result.0.now in
    let few : length requests ≤ requests_limit = (let fit = c.parted.ensures.few in let most = h.few in omega arith) in
    let small = first_small requests _ _ c.parted.ensures.whole h.small in record {
      count = c.in_ok-rooms.ensures.count ∙ sym (ap (λ (s : Setup). s.callers) c.in_ok-config.ensures);
      start = can_start _ requests _ c.in_ok-config.ensures few small c.in_ok-rooms.ensures.room;
    }

pub returns-clause-during : goal.returns-clause-during
returns-clause-during c =
    let parts = c.parted in
    λ first h. (
      h,
      record {
        config = c.in_ok-config.ensures;
        some = parts.ensures.some;
        later = parts.result.1.now;
        part = parts.ensures.whole;
      },
    )
