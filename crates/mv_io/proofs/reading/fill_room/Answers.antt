use Rattle.std.proofs.Common.{◌≡◌, ℕ, ◌+◌, ◌-◌, List, ◌++◌, ◌∙◌, length, replicate, arith, rules, refl, sym, subst, vec_len, IfSome}
use Rattle.std.proofs.lemmas.Grind.{common_steps}
use Rattle.std.proofs.lemmas.List.{with_items_is, places, take_all}
use borrow.Rule.Slice.PartMut.{put_mid}
use Rattle.mv_io.specs.Source.{GivesFront}
use Rattle.mv_io.proofs.Fronts.{GivesFront-more, GivesFront-end, GivesFront-longer}
use Rattle.mv_io.proofs.reading.fill_room.Goals as goal

pub loop-filled-preserved : goal.loop-filled-preserved
loop-filled-preserved g c =
    let filled = c.loop-filled.filled in
    let longer = c.deref_mut.result.now in
    let size : length longer ≡ filled + c.min.result = grind (arith, common_steps) in
    let after = put_mid filled (length longer - filled) longer c.fill.new.buf in
    let written = with_items_is c.resize.new.self after (search (rules, places)) in
    let more : (filled + c.min.result) - vec_len c.loop-filled.bytes ≡ c.min.result = omega arith in
    let all = take_all (filled + c.min.result) c.loop-filled.bytes.items (omega (arith, c.loop-filled.bytes.ok.0)) in
    let kept : longer ≡ c.loop-filled.bytes.items ++ replicate c.min.result 0 =
    c.deref_mut.ensures.value ∙ c.in-Ok.ensures.items
    ∙ (λ i. all i ++ replicate (more i) 0) in
    let given : IfSome (g.S.Source.left c.args.src.now) (λ xs. GivesFront xs (g.S.Source.left c.loop-filled.src) longer filled) =
    GivesFront-longer _ _ _ _ _ _ c.loop-filled.invariant.given (omega arith) kept in
    record {
      within = grind (arith, common_steps);
      in_room = grind (arith, common_steps);
      fits = grind (arith, common_steps);
      given = subst (λ (b : List ℕ). IfSome (g.S.Source.left c.args.src.now)
          (λ xs. GivesFront xs (g.S.Source.left c.fill.new.src) b (filled + c.in_ok-count.count))) (sym written)
          (GivesFront-more _ _ _ longer c.fill.new.buf filled _ _ _ given c.in_ok-count.ensures.bytes
          (omega arith) (omega arith) (omega (arith, c.in_ok-count.ensures.bound)) refl);
      ended = λ short. GivesFront-end _ _ _ _ _ _ c.loop-filled.invariant.given (c.in_ok-count.ensures.end (omega arith)) refl;
      count = omega arith;
    }
