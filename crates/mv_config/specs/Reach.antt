-- How many posts one post can lead to through exits.
use Rattle.std.specs.Prelude.{ℕ, zero, suc, ◌+◌, ◌*◌, ◌==◌, min, max, List, [], ◌∷◌, length, map, filter}
use Rattle.std.specs.List.{range_with_len}
use Rattle.mv_config.specs.Limits.{highest_reach}
use Rattle.mv_config.specs.Setup.{Setup, SetupExit}

-- a number of posts, which saturates at the highest reach
abbrev pub cut : ℕ → ℕ
cut n = min n highest_reach

-- the exits that start from a block
abbrev pub exits_of : ℕ → List SetupExit → List SetupExit
exits_of ecb exits = filter (λ x. x.source == ecb) exits

-- the greatest of some numbers, or 0
abbrev pub greatest : List ℕ → ℕ
greatest [] = 0
greatest (n ∷ ns) = max n (greatest ns)

-- the sum of f over some blocks
abbrev pub total : (ℕ → ℕ) → List ℕ → ℕ
total f [] = 0
total f (e ∷ es) = f e + total f es

-- the most posts that one post of a block leads to, itself included, if exits are followed this deep. A post starts at most one
-- exit
abbrev pub reach_within : ℕ → Setup → ℕ → ℕ
reach_within zero c ecb = 0
reach_within (suc depth) c ecb = cut (1 + greatest (map (λ x. total (reach_within depth c) x.targets) (exits_of ecb c.exits)))

-- the most posts that one post of a block leads to: exits lead to higher blocks, so no chain of exits is deeper than there are
-- blocks
abbrev pub reach : Setup → ℕ → ℕ
reach c ecb = reach_within (length c.owners) c ecb

-- the most events that one release of a latch makes: the release, and for each request that it may grant the posts that a post
-- of its block leads to
abbrev pub release_cost : Setup → ℕ
release_cost c = cut (1 + c.callers * c.posted_quota * greatest (map (reach c) (range_with_len 0 (length c.owners))))
