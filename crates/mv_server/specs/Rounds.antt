-- What a service in rounds keeps from one round to the next.
use Rattle.std.specs.Prelude.{◌≡◌, ℕ, ◌<◌, ◌≤◌, List, ◌++◌, length, map}
use Rattle.std.specs.List.{AllByRecursion}
use Rattle.mv_wait.specs.Prelude.{Setup}
use Rattle.mv_server.specs.Pool.{requests_limit, weeks_limit, pool_setup, days_in}

-- the requests are still those at first, and the answers so far, with those of the requests that are left, are the answers to all
pub record HasServed (first all rest : List ℕ) (round : ℕ) (answers : List ℕ) : Type 0 where
  pub same : all ≡ first
  pub some : 0 < round
  pub few : round ≤ requests_limit
  pub small : AllByRecursion (λ weeks. weeks < weeks_limit) rest
  pub served : answers ++ map days_in rest ≡ map days_in all

-- a pool for these requests, which are the first of those that are left, serves a round
pub record IsServing (c : Setup) (requests rest : List ℕ) : Type 0 where
  pub config : c ≡ pool_setup (length requests)
  pub some : 0 < length requests
  pub later : List ℕ
  pub part : rest ≡ requests ++ later
