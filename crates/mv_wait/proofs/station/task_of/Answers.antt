use Rattle.std.proofs.Common.{◌≡◌, ◌*◌, ◌<◌, ◌≤◌, List, [], length, refl, sym, ap, ◌∙◌, subst, arith}
use Rattle.std.specs.List.{AllByRecursion}
use Rattle.std.proofs.lemmas.Bool.{false≢true}
use Rattle.mv_machine.specs.Kept.{standing}
use Rattle.mv_config.specs.Limits.{highest_generation}
use Rattle.mv_config.specs.Setup.{Setup}
use Rattle.mv_machine.specs.declared.entry.Entry.{Entry}
use Rattle.mv_calls.specs.Keeping.{kept_of}
use Rattle.mv_wait.specs.Keep.{Keeps}
use Rattle.mv_wait.specs.Task.{Fits, blocks_in}
use Rattle.mv_wait.proofs.station.task_of.Goals as goal

pub empty-requires : goal.empty-requires
empty-requires c = record {
  exists = (subst (AllByRecursion (λ (s : Setup). c.number.result < s.callers)) c.requires.about c.number.ensures.exists).0;
}

pub invariant_of-result : goal.invariant_of-result
invariant_of-result c =
    let k = c.in_ok-keep.keep in
    let made = c.in_ok-keep.ensures in
    let number = c.number.ensures.number in
    let left = c.left-left.ensures.left in
    let few = c.left-left.ensures.few in
    let exists = subst (AllByRecursion (λ (s : Setup). c.number.result < s.callers)) c.requires.about c.number.ensures.exists in
    let one : Fits c.args.caller k c.args.config.now = record {
      valid = c.config.ensures.valid;
      caller = subst (λ m. m < c.args.config.now.callers) number exists.0;
      blocks = made.blocks;
      elements = made.elements;
      requests = made.room.1;
      first = made.caller.1 ∙ ap (λ m. m * c.args.config.now.elements_per_caller) number;
      low = λ n own. subst (λ (log : List Entry). (kept_of c.args.caller.number log).generation n ≤ highest_generation)
          (sym c.requires.new) (omega arith);
      exits = λ n held. absurd (false≢true
          (sym (ap (λ (log : List Entry). (kept_of c.args.caller.number log).extended n) c.requires.new) ∙ held));
    } in record {
      recorded = record {
        kept = subst (λ (log : List Entry). Keeps (kept_of c.args.caller.number log) k) (sym c.requires.new)
            (subst (λ n. Keeps (kept_of n []) k) number made.kept);
        stands = subst (λ (log : List Entry). (kept_of c.args.caller.number log).requests ≡ standing log) (sym c.requires.new) refl;
        caller = made.caller.0 ∙ number;
        fits = subst (AllByRecursion (Fits c.args.caller k)) (sym c.requires.about) (one, tt);
        few = (let none = made.room.0 in omega arith);
      };
      idle = c.in_ok-pending.ensures.idle;
      room = (let much = c.in_ok-pending.ensures.room in omega arith);
      places = c.in_ok-pending.ensures.places
          ∙ (ap (λ (s : Setup). length s.owners) c.config.ensures.given ∙ sym (ap blocks_in c.requires.about));
    }
