use Rattle.std.proofs.Common.{◌≡◌, ◌<◌, ◌≤◌, ◌+◌, ◌-◌, ◌*◌, ◌/◌, ◌%◌, length, Some, sym, ap, ◌∙◌}
use Rattle.std.proofs.Common.{subst, arith}
use Rattle.std.proofs.Math.Nat.{div-mul-le_self, mod-eq-sub-div-mul, mod-lt}
use Rattle.std.proofs.lemmas.Option.{slice_get-get_or}
use Rattle.mv_board.specs.Faces.{CallerFace}
use Rattle.mv_calls.specs.Keeping.{kept_of}
use Rattle.mv_config.proofs.Validity.{elements_kept}
use Rattle.mv_config.specs.Limits.{highest_generation}
use Rattle.mv_wait.specs.Keep.{IsKeptAs}
use Rattle.mv_wait.proofs.Low.{fits_of}
use Rattle.mv_wait.proofs.task.Task.element.Goals as goal

pub returns : goal.returns
returns c =
    let about = ap (λ (d : CallerFace). d.about) c.self.view_is ∙ c.requires.1 in
    let fits = fits_of c.requires.0 c.self.inside.caller c.self.inside.keep about c.self.invariant.recorded in
    let k = c.self.inside.keep in
    let n = c.args.element in
    let size = c.requires.0.elements_per_caller in
    let first : k.first ≡ n / size * size = fits.first
    ∙ ap (λ m. m * size) (ap (λ (d : CallerFace). d.number) c.self.view_is ∙ sym c.requires.2) in
    let low : k.first ≤ n = subst (λ m. m ≤ n) (sym first) (div-mul-le_self n size) in
    let some = (elements_kept c.requires.0 fits.valid).0 in
    let rest : n - k.first ≡ n % size = ap (λ m. n - m) first ∙ sym (mod-eq-sub-div-mul n size) in
    let below : n % size < size = mod-lt n (omega arith) in
    let all = fits.elements in
    let lt : n - k.first < length k.elements.items = omega arith in
    let x = c.self.invariant.recorded.kept.elements (n - k.first) c.index.result.now
    (slice_get-get_or k.elements.items (n - k.first) c.index.result.now lt ∙ ap (λ y. Some y) (sym c.index.ensures)) in
    let here : k.first + (n - k.first) ≡ n = omega arith in
    let number = ap (λ (d : CallerFace). d.number) c.self.view_is in
    let generation = x.1 ∙ ap (kept_of c.self.inside.caller.number c.self.inside.caller.log).generation here in record {
      kept = subst (λ (d : CallerFace). IsKeptAs (kept_of d.number d.log) n c.index.result.now) c.self.view_is (record {
        used = x.0 ∙ ap (kept_of c.self.inside.caller.number c.self.inside.caller.log).in_use here;
        generation = generation;
      });
      low = subst (λ m. m ≤ highest_generation) (sym generation) (fits.low n (c.requires.2 ∙ sym number));
    }
