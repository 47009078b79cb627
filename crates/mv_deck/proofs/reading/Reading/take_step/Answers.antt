use Rattle.std.proofs.Common.{◌≡◌, ◌*◌, ◌<◌, ◌-◌, ◌+◌, false, true, is_some, not, refl, sym, ap, ◌∙◌, arith}
use Rattle.std.specs.Prelude.{nat_lt}
use Rattle.std.specs.List.{list_any}
use Rattle.mv_deck.specs.Deck.{jobs_of, last_steps, with_step}
use Rattle.mv_line.specs.Fault.{first_of_list}
use Rattle.mv_deck.specs.Held.{is_end, is_out_of_order, lacks_latch}
use Rattle.mv_deck.specs.Weight.{weight, heaviest, step_events}
use Rattle.mv_deck.proofs.Steps.{is_step, is_outside}
use Rattle.mv_deck.proofs.Told.{step_heavy, step_fine, light, heavy}
use Rattle.mv_deck.proofs.Behind.{inside, step_weight, behind_step}
use Rattle.mv_deck.proofs.reading.Reading.take_step.Goals as goal

pub returns-then-weight-self : goal.returns-then-weight-self
returns-then-weight-self c = λ n v earlier s b e.
    let is_a = is_step s c.args.step e in
    let begun : is_some c.args.self.now.name ≡ true = c.is_none.ensures ∙ ap not c.if-is_none.false in
    let placed : is_outside earlier ≡ false = inside earlier (sym b.ended ∙ c.if-self.false) (sym b.begun ∙ begun) in
    let going : list_any is_end (last_steps (jobs_of earlier)) ≡ false = sym b.kept.closed ∙ c.if-self-2.false in
    let ordered : is_out_of_order (last_steps (jobs_of earlier)) c.args.step ≡ false = sym
    (c.is_out_of_order.ensures (last_steps (jobs_of earlier)) b.kept.latched) ∙ c.if-is_out_of_order.false in
    let holds : lacks_latch (last_steps (jobs_of earlier)) c.args.step ≡ false = sym
    (c.lacks_latch.ensures (last_steps (jobs_of earlier)) b.kept.latched) ∙ c.if-lacks_latch.false in
    let events : c.args.self.now.initiators * c.step_events.result ≡ n * step_events c.args.step = ap
    (λ x. x * c.step_events.result) b.initiators_are ∙ ap (λ x. n * x) c.step_events.ensures.events in
    let more : c.args.self.now.room < n * step_events c.args.step = omega (arith, c.if-weight-self.true, events) in
    let weighs : nat_lt heaviest (weight (with_step (jobs_of earlier) c.args.step) n) ≡ true =
    ap (λ x. nat_lt heaviest x) (step_weight n v earlier c.args.self.now c.args.step b begun) ∙ heavy c.args.self.now.room
    (weight (jobs_of earlier) n) (n * step_events c.args.step) b.kept.room more in
    ap first_of_list (is_a.kinds n earlier (jobs_of earlier)) ∙ step_heavy n (jobs_of earlier) c.args.step
    (is_outside earlier) placed going ordered holds weighs

pub returns : goal.returns
returns c = λ n v earlier s b e.
    let is_a = is_step s c.args.step e in
    let begun : is_some c.args.self.now.name ≡ true = c.is_none.ensures ∙ ap not c.if-is_none.false in
    let placed : is_outside earlier ≡ false = inside earlier (sym b.ended ∙ c.if-self.false) (sym b.begun ∙ begun) in
    let going : list_any is_end (last_steps (jobs_of earlier)) ≡ false = sym b.kept.closed ∙ c.if-self-2.false in
    let ordered : is_out_of_order (last_steps (jobs_of earlier)) c.args.step ≡ false = sym
    (c.is_out_of_order.ensures (last_steps (jobs_of earlier)) b.kept.latched) ∙ c.if-is_out_of_order.false in
    let holds : lacks_latch (last_steps (jobs_of earlier)) c.args.step ≡ false = sym
    (c.lacks_latch.ensures (last_steps (jobs_of earlier)) b.kept.latched) ∙ c.if-lacks_latch.false in
    let events : c.args.self.now.initiators * c.step_events.result ≡ n * step_events c.args.step = ap
    (λ x. x * c.step_events.result) b.initiators_are ∙ ap (λ x. n * x) c.step_events.ensures.events in
    let left : c.args.self.now.room - c.args.self.now.initiators * c.step_events.result + n * step_events c.args.step
    ≡ c.args.self.now.room = omega (arith, c.if-weight-self.false, events) in
    let total : c.args.self.now.room - c.args.self.now.initiators * c.step_events.result +
    (weight (jobs_of earlier) n + n * step_events c.args.step) ≡ heaviest = omega (arith, left, b.kept.room) in
    let weighs : nat_lt heaviest (weight (with_step (jobs_of earlier) c.args.step) n) ≡ false =
    ap (λ x. nat_lt heaviest x) (step_weight n v earlier c.args.self.now c.args.step b begun)
    ∙ light (c.args.self.now.room - c.args.self.now.initiators * c.step_events.result)
    (weight (jobs_of earlier) n + n * step_events c.args.step) total in (
      is_a.kinds n earlier (jobs_of earlier) ∙ step_fine n (jobs_of earlier) c.args.step
          (is_outside earlier) placed going ordered holds weighs,
      behind_step n v earlier s c.args.step c.args.self.now _ b e begun c.if-self-2.false (record {
        steps = c.in_ok-push.ensures.items;
        name = refl;
        after = refl;
        finished = refl;
        names = refl;
        latched = c.follow.ensures;
        closed = c.is_end-self.ensures;
        stated = refl;
        ended = refl;
        room = left;
        initiators_are = refl;
        version = refl;
      }),
    )
