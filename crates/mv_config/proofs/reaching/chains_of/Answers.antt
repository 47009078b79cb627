-- The exit at hand is the last of its block.
use Rattle.std.proofs.Common.{◌≡◌, ◌<◌, length, map, get_or, arith}
use Rattle.std.proofs.lemmas.Grind.{common_steps}
use Rattle.std.proofs.lemmas.List.{length-map, get_or_read}
use Rattle.mv_config.specs.Chains.{HasFewGoodTargets}
use Rattle.mv_config.specs.Config.{exit_of}
use Rattle.mv_config.proofs.Chains.{chains_more, found}
use Rattle.mv_config.proofs.Elements.{all_got}
use Rattle.mv_config.proofs.reaching.chains_of.Goals as goal
use Rattle.mv_config.proofs.reaching.chains_of.Goals.{After-index-exits-i}

-- the exit at hand starts from one of the blocks
good_source : (c : After-index-exits-i) → c.index-exits-i.result.source < c.args.ecbs
good_source c =
    let e = c.index-exits-i.result in
    let h : HasFewGoodTargets c.args.ecbs (exit_of e) = all_got (HasFewGoodTargets c.args.ecbs) (map exit_of c.args.exits.now) c.loop-i.i
    (exit_of e) (found c.args.exits.now c.loop-i.i e (omega arith) c.index-exits-i.is) c.requires.good in
    h.source

pub loop-i-init : goal.loop-i-init
loop-i-init c = let zeros = c.in_ok-last.ensures.items_if_clones_equal (λ y e. e) in grind (arith, common_steps)

pub index-requires : goal.index-requires
index-requires c = omega (arith, good_source (goal.at.index-requires c).After-index-exits-i, c.loop-i.invariant.blocks)

pub index_mut-requires : goal.index_mut-requires
index_mut-requires c = omega (arith, good_source (goal.at.index_mut-requires c).After-index-exits-i, c.loop-i.invariant.blocks)

pub loop-i-preserved : goal.loop-i-preserved
loop-i-preserved c =
    let e = c.index-exits-i.result in
    let lt : c.loop-i.i < length (map exit_of c.args.exits.now) = rw length-map (omega arith) in
    let there = good_source (goal.at.loop-i-preserved c).After-index-exits-i in
    let read : c.index.result.now ≡ get_or c.loop-i.last.items e.source 0 = get_or_read c.loop-i.last.items e.source c.index.result.now
    (omega (arith, there, c.loop-i.invariant.blocks)) c.index.ensures 0 in
    rw (c.in_ok-push.ensures.items, read)
    (chains_more (map exit_of c.args.exits.now) c.loop-i.i (exit_of e) lt
    (found c.args.exits.now c.loop-i.i e (omega arith) c.index-exits-i.is) c.args.ecbs c.loop-i.last.items c.loop-i.before.items there
    c.loop-i.invariant)
