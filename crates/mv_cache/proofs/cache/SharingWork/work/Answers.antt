use Rattle.std.proofs.Common.{[], ◌∙◌, subst}
use Rattle.std.specs.List.{AllByRecursion}
use Rattle.mv_guarded.specs.Guarded.{Keeps}
use Rattle.mv_cache.specs.Whole.{IsAllowed, WasRead}
use Rattle.mv_cache.proofs.cache.SharingWork.work.Goals as goal

pub returns-else-number-eq-WRITER-clause-done : goal.returns-else-number-eq-WRITER-clause-done
returns-else-number-eq-WRITER-clause-done g c =
    let u = c.read_all.new.task in
    let ready = c.read_all.ensures.ready in
    let number = c.read_all.ensures.number in record {
      allowed = subst (λ k. Keeps IsAllowed k [] u.log) number ready.careful.allowed;
      discipline = ready.careful.discipline;
      bare = c.read_all.ensures.bare;
      whole = λ zero_is. absurd (ready.other (number ∙ zero_is));
      read = subst (λ k. AllByRecursion (WasRead k u.log) c.read_all.new.room.items) number c.read_all.ensures.read;
    }
