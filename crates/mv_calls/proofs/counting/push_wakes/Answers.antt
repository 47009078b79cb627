-- The blocks of the wakes from the back on are put on top, each into the room that there is for it.
use Rattle.std.proofs.Common.{List, ◌∷◌, [], ◌++◌, reverse, sym, ap, ◌∙◌, arith, ℕ, None}
use Rattle.std.proofs.lemmas.List.{reverse-append}
use Rattle.mv_latch.specs.declared.operation.Wake.{Wake}
use Rattle.mv_calls.proofs.call_numbers.Pending.{dropped_posts, taken_posts, dropped_is_silent, taken_is_less}
use Rattle.mv_calls.proofs.counting.push_wakes.Goals as goal

-- what a read past the last wake would give
abbrev no_wake : Wake
no_wake = record { caller = 0; id = 0; ecb = None; code = 0 }

pub push_reserved-requires : goal.push_reserved-requires
push_reserved-requires c =
    let known = c.loop-at.invariant in
    omega (
      arith,
      known.room,
      taken_posts c.args.wakes.now c.loop-at.at no_wake c.loop-at-test.true known.within c.in-Some.ecb c.in-Some.is,
    )

pub loop-at-preserved-in-Some : goal.loop-at-preserved-in-Some
loop-at-preserved-in-Some c =
    let known = c.loop-at.invariant in
    let e = c.in-Some.ecb in
    let base : List ℕ = reverse c.args.stack.now.items in
    record {
      within = omega (arith, known.within);
      pushed = ap (λ (xs : List ℕ). reverse xs) c.push_reserved.ensures.items ∙ reverse-append c.loop-at.stack.items (e ∷ [])
          ∙ ap (λ (xs : List ℕ). e ∷ xs) known.pushed
          ∙ ap (λ (xs : List ℕ). xs ++ base)
          (sym (dropped_posts c.args.wakes.now c.loop-at.at no_wake c.loop-at-test.true known.within e c.in-Some.is));
      room = omega (
        arith,
        known.room,
        c.push_reserved.ensures.len,
        c.push_reserved.ensures.capacity,
        taken_posts c.args.wakes.now c.loop-at.at no_wake c.loop-at-test.true known.within e c.in-Some.is,
      );
      capacity = c.push_reserved.ensures.capacity ∙ known.capacity;
    }

pub loop-at-preserved : goal.loop-at-preserved
loop-at-preserved c =
    let known = c.loop-at.invariant in
    let base : List ℕ = reverse c.args.stack.now.items in
    record {
      within = omega (arith, known.within);
      pushed = known.pushed ∙ ap (λ (xs : List ℕ). xs ++ base)
          (sym (dropped_is_silent c.args.wakes.now c.loop-at.at no_wake c.loop-at-test.true known.within c.in_default.not-Some));
      room = omega (arith, known.room, taken_is_less c.args.wakes.now c.loop-at.at no_wake c.loop-at-test.true known.within);
      capacity = known.capacity;
    }
