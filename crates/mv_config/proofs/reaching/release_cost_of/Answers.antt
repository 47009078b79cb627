-- The greatest reach, and the cost that it makes.
use Rattle.std.proofs.Common.{◌≡◌, ◌+◌, ◌*◌, ◌≤◌, length, map, max, take, get_or, ap, ◌∙◌, arith}
use Rattle.std.proofs.lemmas.List.{take_all}
use Rattle.std.specs.List.{range_with_len}
use Rattle.mv_config.specs.Limits.{highest_reach}
use Rattle.mv_config.specs.Config.{setup_of}
use Rattle.mv_config.specs.Reach.{cut, greatest, reach}
use Rattle.mv_config.proofs.Reaches.{reach_cut, greatest_more, reaches_are, quotas_fit, product_fits}
use Rattle.mv_config.proofs.Validity.{callers_kept}
use Rattle.mv_config.proofs.reaching.release_cost_of.Goals as goal

pub loop-reach-preserved : goal.loop-reach-preserved
loop-reach-preserved c =
    let i = c.loop-reach.reach-index in
    let ns = c.args.reaches.now in
    let more : greatest (take (i + 1) ns) ≡ max (greatest (take i ns)) (get_or ns i 0) = greatest_more ns i (omega arith) in
    let is : get_or ns i 0 ≡ reach (setup_of c.args.config.now) i = c.requires.reaches.reach i (omega (arith, c.requires.reaches.blocks)) in
    let low : reach (setup_of c.args.config.now) i ≤ highest_reach = reach_cut (length c.args.config.now.owners.items)
    (setup_of c.args.config.now) i in
    record { so_far = omega (arith, more); fits = omega (arith, is, low) }

pub overflow_mul-config-2 : goal.overflow_mul-config-2
overflow_mul-config-2 c =
    omega (
      arith,
      product_fits c.args.config.now.callers c.args.config.now.posted_quota c.loop-reach.most
          (callers_kept (setup_of c.args.config.now) c.requires.valid).1
          (quotas_fit (setup_of c.args.config.now) c.requires.valid) c.loop-reach.invariant.fits,
    )

pub overflow_add-config : goal.overflow_add-config
overflow_add-config c =
    omega (
      arith,
      product_fits c.args.config.now.callers c.args.config.now.posted_quota c.loop-reach.most
          (callers_kept (setup_of c.args.config.now) c.requires.valid).1
          (quotas_fit (setup_of c.args.config.now) c.requires.valid) c.loop-reach.invariant.fits,
    )

pub returns : goal.returns
returns c =
    let config = setup_of c.args.config.now in
    let most : c.loop-reach.most ≡ greatest (map (reach config) (range_with_len 0 (length config.owners))) = c.loop-reach.invariant.so_far
    ∙ ap greatest (take_all c.loop-reach.reach-index c.args.reaches.now (omega arith))
    ∙ ap greatest (reaches_are config c.args.reaches.now c.requires.reaches) in
    c.min.ensures ∙ ap (λ m. cut (1 + config.callers * config.posted_quota * m)) most
