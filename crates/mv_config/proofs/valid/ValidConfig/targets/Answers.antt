-- The targets of the exit that is there, or none.
use Rattle.std.proofs.Common.{◌≡◌, ◌-◌, Some, None, length, slice_get, refl, sym, ap, ◌∙◌}
use Rattle.std.proofs.lemmas.Option.{slice_get_read, slice_get_past}
use Rattle.mv_config.proofs.Targets.{targets_found, targets_missing}
use Rattle.mv_config.proofs.valid.ValidConfig.targets.Goals as goal

pub returns-in-Some : goal.returns-in-Some
returns-in-Some c =
    let exits = c.self.inside.config.exits.items in
    let at = c.args.exit - 1 in
    let read : slice_get exits at ≡ Some c.in-Some.found.now = ap (λ xs. slice_get xs at) (sym c.deref.ensures.value)
    ∙ slice_get_read c.deref.result.now (length c.deref.result.now) at c.in-Some.found.now refl c.in-Some.ensures.lookup.3.0
    c.in-Some.ensures.lookup.1 in
    record {
      targets = c.deref-in-Some.ensures.value
          ∙ sym (targets_found c.self.inside.config c.args.self.now c.args.exit c.in-Some.found.now c.self.view_is
          c.if-exit-eq0.false read);
    }

pub returns-in-None : goal.returns-in-None
returns-in-None c =
    let exits = c.self.inside.config.exits.items in
    let read : slice_get exits (c.args.exit - 1) ≡ None = ap (λ xs. slice_get xs (c.args.exit - 1)) (sym c.deref.ensures.value)
    ∙ slice_get_past c.deref.result.now (c.args.exit - 1) c.in-None.ensures.lookup.3 in
    record { targets = sym (targets_missing c.self.inside.config c.args.self.now c.args.exit c.self.view_is c.if-exit-eq0.false read) }
