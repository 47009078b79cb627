-- The configuration of a pool, and the requests to its server.
use Rattle.std.specs.Prelude.{ℕ, ◌+◌, ◌*◌, ◌-◌, ◌^◌, List, [], ◌∷◌, ◌++◌, replicate, slice_index}
use Rattle.mv_wait.specs.Prelude.{Setup}
use Rattle.mv_attach.specs.Blocks.{blocks_setup}

-- the number of workers, which are the callers from 0 on; the server is the caller after them
abbrev pub workers : ℕ
workers = 3

-- the highest number of requests
abbrev pub requests_limit : ℕ
requests_limit = 10000

-- a request is a number of weeks below this, so that its answer fits into the code of a post
abbrev pub weeks_limit : ℕ
weeks_limit = 2 ^ 27

-- how many events a worker may need for n requests: it opens its element; in each round, at most one for each request and one for
-- the stop, it posts that it is idle, pauses with two events, and posts an answer
abbrev pub worker_events : ℕ → ℕ
worker_events n = 4 * n + 5

-- how many events the server may need to hand out a code: for each worker two to wait for its block, a clear and a release
abbrev pub hand_out_events : ℕ
hand_out_events = 4 * workers

-- how many events the server may need for n requests: it hands out each of them and a stop for each worker, and waits for each
-- answer
abbrev pub server_events : ℕ → ℕ
server_events n = hand_out_events * (n + workers) + 2 * n

-- The configuration of a pool for n requests. All blocks are the server's: block w says that worker w is idle, and after these
-- there is a block for the answer to each request.
abbrev pub pool_setup : ℕ → Setup
pool_setup n = blocks_setup (replicate workers (worker_events n) ++ server_events n ∷ []) (replicate (workers + n) workers)

-- the answer to a request: how many days this many weeks have
abbrev pub days_in : ℕ → ℕ
days_in weeks = 7 * weeks

-- the answer that belongs in a block
abbrev pub answer_at : List ℕ → ℕ → ℕ
answer_at requests block = days_in (slice_index requests (block - workers))
