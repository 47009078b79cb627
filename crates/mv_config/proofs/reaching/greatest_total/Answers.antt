-- One exit back on the chain.
use Rattle.std.proofs.Common.{◌≡◌, ℕ, ◌-◌, ◌<◌, length, map, max, take, get_or, slice_get, slice_index, Some, ap, ◌∙◌, arith}
use Rattle.std.proofs.lemmas.List.{get_or_read, length-map}
use Rattle.mv_config.specs.Chains.{HasFewGoodTargets, IsLast}
use Rattle.mv_config.specs.Config.{exit_of}
use Rattle.mv_config.specs.Reach.{exits_of, greatest, total}
use Rattle.mv_config.specs.Setup.{SetupExit}
use Rattle.mv_config.proofs.Chains.{one_back, found}
use Rattle.mv_config.proofs.Elements.{all_got}
use Rattle.mv_config.proofs.reaching.greatest_total.Goals as goal
use Rattle.mv_config.proofs.reaching.greatest_total.Goals.{After-index-exits-at}

-- the exit at hand has few targets, which are blocks
good_exit : (c : After-index-exits-at) → HasFewGoodTargets (length c.args.reaches.now) (exit_of c.index-exits-at.result)
good_exit c =
    let k = c.loop-at.at in
    let exits = c.args.exits.now in
    let e = c.index-exits-at.result in
    all_got (HasFewGoodTargets (length c.args.reaches.now)) (map exit_of exits) (k - 1) (exit_of e)
    (found exits (k - 1) e (omega (arith, c.loop-at.invariant.below)) c.index-exits-at.is) c.requires.good

pub total-requires-clause-few : goal.total-requires-clause-few
total-requires-clause-few c = rw c.deref.ensures.value (good_exit (goal.at.total-requires-clause-few c).After-index-exits-at).few

pub total-requires-clause-good : goal.total-requires-clause-good
total-requires-clause-good c = rw c.deref.ensures.value (good_exit (goal.at.total-requires-clause-good c).After-index-exits-at).good

pub loop-at-preserved : goal.loop-at-preserved
loop-at-preserved c =
    let k = c.loop-at.at in
    let exits = c.args.exits.now in
    let e = c.index-exits-at.result in
    let F : SetupExit → ℕ = λ x. total (λ t. slice_index c.args.reaches.now t) x.targets in
    let pos : 0 < k = omega arith in
    let lt : k - 1 < length exits = omega (arith, c.loop-at.invariant.below) in
    let at_k : slice_get (map exit_of exits) (k - 1) ≡ Some (exit_of e) = found exits (k - 1) e lt c.index-exits-at.is in
    let read : c.index-at-in-loop-at.result.now ≡ get_or c.args.chains.now.before.items (k - 1) 0 =
    get_or_read c.args.chains.now.before.items (k - 1) c.index-at-in-loop-at.result.now
    (omega (arith, c.requires.chains.links)) c.index-at-in-loop-at.ensures 0 in
    let last : IsLast c.args.ecb (map exit_of exits) (k - 1) (get_or c.args.chains.now.before.items (k - 1) 0) =
    c.requires.chains.before_it (k - 1) c.args.ecb lt (c.loop-at.invariant.starts pos) in
    let back : greatest (map F (exits_of c.args.ecb (take k (map exit_of exits)))) ≡ max
    (greatest (map F (exits_of c.args.ecb (take (get_or c.args.chains.now.before.items (k - 1) 0) (map exit_of exits)))))
    (F (exit_of e)) =
    one_back F (map exit_of exits) c.args.ecb k (get_or c.args.chains.now.before.items (k - 1) 0) (exit_of e) pos
    (rw length-map (c.loop-at.invariant.below)) at_k (c.loop-at.invariant.starts pos) last in
    let here : c.total.result ≡ F (exit_of e) = c.total.ensures.value
    ∙ ap (λ ts. total (λ t. slice_index c.args.reaches.now t) ts) c.deref.ensures.value in
    let more : c.max-best.result ≡ max c.loop-at.best c.total.result = c.max-best.ensures in
    let whole = c.loop-at.invariant.left in
    rw read record {
      left = omega (arith, back, here, more, whole);
      below = omega (arith, last.below);
      starts = last.starts;
      fits = omega (arith, more, c.total.ensures.fits, c.loop-at.invariant.fits);
    }
