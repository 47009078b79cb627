-- Each block's reach by those above it.
use Rattle.std.proofs.Common.{◌≡◌, ℕ, ◌+◌, ◌-◌, ◌<◌, ◌≤◌, List, length, map, replicate, slice_index, inl, inr, ap, ◌∙◌, sym, arith}
use Rattle.std.proofs.lemmas.Bool.{cases_eq}
use Rattle.std.proofs.lemmas.Grind.{get_or-set_at}
use Rattle.std.proofs.lemmas.List.{length-set, length-replicate, get_or-set_other}
use Rattle.mv_config.specs.Limits.{highest_reach}
use Rattle.mv_config.specs.Config.{exit_of, setup_of}
use Rattle.mv_config.specs.Reach.{cut, exits_of, greatest, total, reach}
use Rattle.mv_config.specs.Setup.{SetupExit}
use Rattle.mv_config.proofs.Chains.{all_set, all_copies}
use Rattle.mv_config.proofs.Reaches.{all_good, next_reach}
use Rattle.mv_config.proofs.reaching.reaches_of.Goals as goal

pub chains_of-requires-clause-good : goal.chains_of-requires-clause-good
chains_of-requires-clause-good c =
    let n : c.len-ecbs.result ≡ length c.args.config.now.owners.items = omega arith in
    rw (n, c.deref.ensures.value) (all_good (setup_of c.args.config.now) c.requires)

pub loop-ecb-init : goal.loop-ecb-init
loop-ecb-init c =
    let n : c.len-ecbs.result ≡ length c.args.config.now.owners.items = omega arith in
    let zeros : c.in_ok-reaches.reaches.items ≡ replicate c.len-ecbs.result 0 = c.in_ok-reaches.ensures.items_if_clones_equal (λ y e. e) in
    record {
      within = omega arith;
      blocks = ap length zeros ∙ length-replicate c.len-ecbs.result 0 ∙ n;
      cut = rw zeros (all_copies (λ r. r ≤ highest_reach) c.len-ecbs.result 0 (omega arith));
      known = λ e le lt. absurd (omega arith);
    }

pub greatest_total-most-requires-clause-good : goal.greatest_total-most-requires-clause-good
greatest_total-most-requires-clause-good c =
    rw (c.deref-in-loop-ecb-2.ensures.value, c.deref-in-loop-ecb.ensures.value, c.loop-ecb.invariant.blocks)
    (all_good (setup_of c.args.config.now) c.requires)

pub loop-ecb-preserved : goal.loop-ecb-preserved
loop-ecb-preserved c =
    let config = c.args.config.now in
    let ecb = c.loop-ecb.ecb - 1 in
    let reaches = c.loop-ecb.reaches.items in
    let known = c.loop-ecb.invariant in
    let F : List ℕ → SetupExit → ℕ = λ rs x. total (λ t. slice_index rs t) x.targets in
    let most : c.greatest_total-most.result ≡ greatest (map (F reaches) (exits_of ecb (map exit_of config.exits.items))) =
    c.greatest_total-most.ensures.value
    ∙ ap (λ rs. greatest (map (F rs) (exits_of ecb (map exit_of c.deref-in-loop-ecb.result.now)))) c.deref-in-loop-ecb-2.ensures.value
    ∙ ap (λ xs. greatest (map (F reaches) (exits_of ecb (map exit_of xs)))) c.deref-in-loop-ecb.ensures.value in
    let lt : ecb < length config.owners.items = omega (arith, known.within) in
    let new : c.min.result ≡ reach (setup_of config) ecb =
    c.min.ensures
    ∙ ap (λ m. cut (1 + m)) most
    ∙ next_reach (setup_of config) c.requires (λ t. slice_index reaches t) ecb lt (λ t above below. known.known t (omega arith) below) in
    record {
      within = omega (arith, known.within);
      blocks = length-set reaches ecb c.min.result ∙ known.blocks;
      cut = all_set (λ r. r ≤ highest_reach) reaches ecb c.min.result (omega (arith, c.min.ensures)) known.cut;
      known = λ e le below. elim (cases_eq e ecb) [
        | inl same ↦ get_or-set_at reaches ecb e c.min.result 0 same (omega (arith, known.blocks)) ∙ new
            ∙ ap (reach (setup_of config)) (sym same)
        | inr other ↦ get_or-set_other reaches ecb e c.min.result 0 other ∙ known.known e (omega arith) below
      ];
    }
