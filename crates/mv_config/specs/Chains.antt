-- The exits of each block, as a chain from the last to the first. Exits are counted from 1, and 0 is none.
use Rattle.std.specs.Prelude.{◌≡◌, ℕ, ◌-◌, ◌<◌, ◌≤◌, true, List, length, take, slice_get, slice_index}
use Rattle.std.specs.List.{AllByRecursion}
use Rattle.mv_config.specs.Limits.{targets_limit}
use Rattle.mv_config.specs.Reach.{exits_of, reach}
use Rattle.mv_config.specs.Setup.{Setup, SetupExit, starts_from}

-- the last exit of the block among the first k exits has the number m, or m is 0 if the block has none there
pub record IsLast (ecb : ℕ) (exits : List SetupExit) (k m : ℕ) : Type 0 where
  pub below : m ≤ k
  pub same : exits_of ecb (take k exits) ≡ exits_of ecb (take m exits)
  pub starts : 0 < m → starts_from ecb (slice_get exits (m - 1)) ≡ true

-- the last exit of each block, and for each of the first k exits the exit before it with the same source
pub record AreChains (ecbs : ℕ) (exits : List SetupExit) (k : ℕ) (last before : List ℕ) : Type 0 where
  pub blocks : length last ≡ ecbs
  pub links : length before ≡ k
  pub last_of : (e : ℕ) → e < ecbs → IsLast e exits k (slice_index last e)
  pub before_it : (j e : ℕ) → j < k → starts_from e (slice_get exits j) ≡ true → IsLast e exits j (slice_index before j)

-- an exit starts from a block that exists, and posts few blocks, all of which exist
pub record HasFewGoodTargets (ecbs : ℕ) (x : SetupExit) : Type 0 where
  pub source : x.source < ecbs
  pub few : length x.targets ≤ targets_limit
  pub good : AllByRecursion (λ t. t < ecbs) x.targets

-- these numbers are the reaches of the blocks, one for each block
pub record AreReaches (c : Setup) (reaches : List ℕ) : Type 0 where
  pub blocks : length reaches ≡ length c.owners
  pub reach : (e : ℕ) → e < length c.owners → slice_index reaches e ≡ reach c e
