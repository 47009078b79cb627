use Rattle.std.proofs.Common.{◌≡◌, ◌<◌, List, [], ◌∷◌, length, Ok, sym, ap, ◌∙◌, subst, arith}
use Rattle.mv_calls.specs.Waits.{wait}
use Rattle.mv_wait.specs.OneBlock.{WaitedFor}
use Rattle.mv_wait.specs.Run.{IsServed}
use Rattle.mv_wait.specs.Waiting.{HasLowCode}
use Rattle.mv_calls.specs.declared.outcomes.WaitSlot.{WaitSlot}
use Rattle.mv_calls.specs.declared.outcomes.WaitSlot.TheVariants.{Complete}
use Rattle.mv_wait.proofs.Parts.{one_of}
use Rattle.mv_wait.proofs.OneBlock.{not_refused, waited_made, slot_is, found_open, found_code}
use Rattle.mv_wait.proofs.station.Station.wait_one.Goals as goal

pub unreachable-requires : goal.unreachable-requires
unreachable-requires g c =
    not_refused c.args.self.now.config c.args.ecb c.args.task.now c.in_default.field-0 c.requires.own c.requires.plain
    c.in_default.ensures.causes.0 c.in_default.ensures.exit

pub unreachable-requires-in-Open : goal.unreachable-requires-in-Open
unreachable-requires-in-Open g c =
    let out = c.wait.new.out in
    let served = c.in-Ok.ensures.served in
    let found = waited_made c.args.self.now.config c.args.ecb _ c.args.task.now c.wait.new.task served c.in-Ok.ensures.causes in
    found_open out found.0 (Complete 0) (slot_is out served.answer found.0 served.is found.1) c.in-Open.is

pub returns : goal.returns
returns g c =
    let config = c.args.self.now.config in
    let ecb = c.args.ecb in
    let t = c.args.task.now in
    let u = c.wait.new.task in
    let out = c.wait.new.out in
    let served = c.in-Ok.ensures.served in
    let found = waited_made config ecb _ t u served c.in-Ok.ensures.causes in
    let slots = slot_is out served.answer found.0 served.is found.1 in
    let code = found_code out found.0 c.in-Complete.code (Complete 0) slots c.in-Complete.is in record {
      served = subst (λ (found : List WaitSlot). IsServed 2 (wait config 1 (ecb ∷ [])) (λ a. a ≡ Ok found) t u)
          (slots ∙ ap (λ n. Complete n ∷ []) code) served;
      waited = subst (λ n. WaitedFor ecb n t u) code found.2;
      code = subst HasLowCode c.in-Complete.is (one_of HasLowCode out 0 (Complete 0) c.in-Ok.ensures.codes
          (subst (λ (xs : List WaitSlot). 0 < length xs) (sym slots) (omega arith)));
    }
