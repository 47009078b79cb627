use Rattle.std.proofs.Common.{◌≢◌, ◌<◌, sym, ◌∙◌, arith, length, length-set, slice_index_or}
use Rattle.std.proofs.lemmas.Grind.{get_or_default_zero}
use Rattle.mv_machine.proofs.Lists.{all_at}
use Rattle.mv_wait.proofs.Doubled.{stands_twice, stands_once, noted_next}
use Rattle.mv_wait.proofs.waiting.doubled.Goals as goal
use Rattle.mv_wait.proofs.waiting.doubled.Goals.{else-place-p-via-then-place-p+else-ecbs-place, else-place-p-via-else-place-p}

pub returns-then-ecbs-place-clause-first : goal.returns-then-ecbs-place-clause-first
returns-then-ecbs-place-clause-first c =
    let distinct = c.loop-p.invariant.distinct in
    stands_twice c.loop-p.places c.args.ecbs.now c.loop-p.p c.loop-p-test.true c.if-place-p.true c.if-ecbs-place.true ∙ sym distinct

pub loop-p-preserved : goal.loop-p-preserved
loop-p-preserved c =
    let es = c.args.ecbs.now in
    let places = c.loop-p.places in
    let p = c.loop-p.p in
    let e = slice_index_or es p 0 in
    let place = slice_index_or places e 0 in
    let differs : place < p → slice_index_or es place 0 ≢ e = elim c.else-place-p.branch [
      | else-place-p-via-then-place-p+else-ecbs-place w ↦ λ lt same. w.if-ecbs-place.false same
      | else-place-p-via-else-place-p w ↦ λ lt same. let beyond = w.if-place-p.false in absurd (omega arith)
    ] in
    let size = c.loop-p.invariant.size in
    let block : e < length places =
    let within = all_at (λ x. x < length c.args.places.now) es e c.requires.blocks
    (p, c.loop-p-test.true, get_or_default_zero es p e c.loop-p-test.true) in omega arith in record {
      distinct = c.loop-p.invariant.distinct ∙ stands_once places es p c.loop-p-test.true c.loop-p.invariant.noted differs;
      noted = noted_next places es p c.loop-p-test.true c.loop-p.invariant.noted differs block;
      size = length-set places e p ∙ size;
    }
