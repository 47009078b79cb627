use Rattle.std.proofs.Common.{◌≡◌, ◌*◌, ◌<◌, ◌≤◌, true, None, [], ◌∷◌, length, slice_index, vec_capacity, refl, sym, ap, ◌∙◌, subst}
use Rattle.std.proofs.Common.{arith}
use Rattle.std.specs.List.{AllByRecursion}
use Rattle.std.proofs.lemmas.Bool.{eqb-true}
use Rattle.std.proofs.lemmas.List.{get_or_default}
use Rattle.std.proofs.lemmas.List.Sums.{get_or-le-sum_by}
use Rattle.atomic_table.specs.Table.{Me}
use Rattle.mv_config.specs.Setup.{Setup}
use Rattle.mv_config.specs.Limits.{events_limit}
use Rattle.mv_config.specs.declared.config.ConfigLimit.TheVariants.{Budgets}
use Rattle.mv_config.specs.Check.{IsValid, keeps, first_limit}
use Rattle.mv_config.proofs.Validity.{no_bad_limit, budgets_kept}
use Rattle.mv_board.specs.declared.item.Item.{Item}
use Rattle.mv_board.specs.declared.view.View.{View}
use Rattle.mv_board.specs.declared.view.Part.{Part}
use Rattle.mv_board.specs.Faces.{last_of}
use Rattle.mv_board.specs.View.{own}
use Rattle.mv_board.proofs.board.seated.Goals as goal

-- each caller has a budget
one_each : (s : Setup) → first_limit s ≡ None → keeps Budgets s ≡ true
one_each s f = grind arith

counted : (s : Setup) → IsValid s → length s.budgets ≡ s.callers
counted s v = eqb-true (length s.budgets) s.callers (one_each s (no_bad_limit s v))

-- this caller has one
within : (c : goal.In_ok-with_capacity) → c.args.number < length c.args.config.now.budgets
within c = subst (λ n. c.args.number < n) (sym (counted c.args.config.now c.config.ensures.valid)) c.requires.number

-- which is what it has left
budget : (c : goal.In_ok-with_capacity) → c.index-left.result.now ≡ slice_index c.args.config.now.budgets c.args.number
budget c =
    c.index-left.ensures ∙ (get_or_default c.config.result.now.budgets.items c.args.number c.index-left.result.now 0
    (subst (λ (s : Setup). c.args.number < length s.budgets) (sym c.config.ensures.given) (within c))
    ∙ ap (λ (s : Setup). slice_index s.budgets c.args.number) c.config.ensures.given)

-- and no more than all callers may have together
few : (c : goal.In_ok-with_capacity) → c.index-left.result.now ≤ events_limit
few c =
    let one = get_or-le-sum_by (λ n. n) c.args.config.now.budgets c.args.number 0 (within c) in
    let all = budgets_kept c.args.config.now c.config.ensures.valid in
    let left = budget c in
    omega arith

pub invariant_of-result : goal.invariant_of-result
invariant_of-result c =
    let seat = c.requires.seat in
    let about = ap (λ (m : Me Item View). m.0.about) seat in
    let log = c.in_ok-with_room.ensures in
    let left = budget c in
    let wakes = c.in_ok-with_capacity.ensures in record {
      empty = ap (λ (m : Me Item View). m.1) seat;
      parts = ap (λ (m : Me Item View). m.0.parts) seat ∙ ap (λ (p : Part). p ∷ []) (λ i. record {
        caller = c.args.number;
        left = sym left i;
        log = sym log.empty.1 i;
        told = sym (ap (λ (m : Me Item View). (own m.0).told) seat) i;
        sights = sym (ap (λ (m : Me Item View). (own m.0).sights) seat) i;
      });
      turn = ap (λ (m : Me Item View). m.0.turn) seat;
      whose = log.empty.0;
      room = (let room = log.room in omega arith);
      wakes = subst (AllByRecursion (λ (s : Setup). s.callers * s.quota ≤ vec_capacity c.in_ok-with_capacity.field-0)) (sym about)
          (subst (λ n. n ≤ vec_capacity c.in_ok-with_capacity.field-0) c.most_wakes.ensures wakes.capacity, tt);
      shown = wakes.items ∙ sym (ap (λ (m : Me Item View). last_of (own m.0).told) seat);
      exists = subst (AllByRecursion (λ (s : Setup). c.args.number < s.callers)) (sym about) (c.requires.number, tt);
      few = few c;
    }

pub returns : goal.returns
returns c =
    let seat = c.requires.seat in
    let log = c.in_ok-with_room.ensures in record {
      board = (refl, ap (λ (m : Me Item View). m.0.about) seat);
      number = refl;
      left = budget c;
      room = log.room;
      log = log.empty.1;
      told = ap (λ (m : Me Item View). (own m.0).told) seat;
      wakes = c.in_ok-with_capacity.ensures.items;
      met = ap (λ (m : Me Item View). (own m.0).sights) seat;
      returned = ap (λ (m : Me Item View). m.0.returned) seat;
      ready = ap (λ (m : Me Item View). m.0.ready) seat;
    }
