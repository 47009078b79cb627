-- The configuration of a pool.
use Rattle.std.proofs.Common.{◌≡◌, ℕ, suc, ◌+◌, ◌*◌, ◌<◌, ◌≤◌, length, replicate, sum, sym, ap, ◌∙◌, ◌-◌, List, get_or, subst, arith}
use Rattle.std.specs.List.{AllByRecursion}
use Rattle.std.proofs.lemmas.List.{length-replicate}
use Rattle.std.proofs.lemmas.List.Folds.{sum_by-replicate}
use Rattle.std.proofs.lemmas.List.Sums.{sum_by_push}
use Rattle.mv_wait.proofs.Chains.{all_copies}
use Rattle.mv_wait.specs.Prelude.{events_limit, reach, Setup}
use Rattle.mv_wait.specs.Reach.{reach_within}
use Rattle.mv_server.specs.Pool.{workers, requests_limit, worker_events, server_events, pool_setup, days_in, answer_at}

pub block_exists : (c : Setup) (n e : ℕ) → c ≡ pool_setup n → e < workers + n → e < length c.owners
block_exists c n e is lt = subst (λ (s : Setup). e < length s.owners) (sym is)
    (subst (λ k. e < k) (sym (length-replicate (workers + n) workers)) lt)

pub reach_one : (c : Setup) (n e : ℕ) → c ≡ pool_setup n → reach c e ≡ 1
reach_one c n e is =
    ap (λ (s : Setup). reach s e) is
    ∙ ap (λ k. reach_within k (pool_setup n) e)
    (length-replicate (workers + n) workers ∙ (let more : workers + n ≡ suc (workers + n - 1) = omega arith in more))

-- ---- nothing refuses it

-- the budgets are no more events than a run may have
pub budgets_fit : (n : ℕ) → n ≤ requests_limit → sum (pool_setup n).budgets ≤ events_limit
budgets_fit n few =
    let all : sum (pool_setup n).budgets ≡ workers * worker_events n + server_events n =
    sum_by_push (λ b. b) (replicate workers (worker_events n)) (server_events n)
    ∙ ap (λ s. s + server_events n) (sum_by-replicate (λ b. b) workers (worker_events n)) in omega arith

-- the server is a caller
pub owners_exist : (n : ℕ) → AllByRecursion (λ owner. owner < workers + 1) (pool_setup n).owners
owners_exist n = all_copies (λ owner. owner < workers + 1) (workers + n) workers (omega arith)

-- the answer to a request is the one that belongs in its block
pub right_answer : (requests : List ℕ) (r a : ℕ) → a ≡ days_in (get_or requests r 0) → a ≡ answer_at requests (workers + r)
right_answer requests r a is = is ∙ ap (λ k. days_in (get_or requests k 0)) (let e : r ≡ workers + r - workers = omega arith in e)
