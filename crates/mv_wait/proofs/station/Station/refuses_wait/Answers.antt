use Rattle.std.proofs.Common.{◌≡◌, ◌<◌, ◌==◌, true, not, length, Some, None, option_map, slice_index, IfSome, refl, sym, ap, ◌∙◌, subst}
use Rattle.std.specs.List.{AllByRecursion}
use Rattle.mv_config.specs.Setup.{Setup, owner_of}
use Rattle.mv_board.specs.Faces.{BoardFace, CallerFace}
use Rattle.mv_calls.specs.Keeping.{kept_of}
use Rattle.mv_calls.specs.Refusal.{Doubled, NotOwnerAt, ExtendedAt}
use Rattle.mv_calls.specs.Waits.{refused_at}
use Rattle.mv_wait.proofs.Low.{fits_of}
use Rattle.mv_wait.proofs.Unrefusing.{refusal_is}
use Rattle.mv_wait.proofs.station.Station.refuses_wait.Goals as goal

pub not_owned-requires-clause-blocks : goal.not_owned-requires-clause-blocks
not_owned-requires-clause-blocks c =
    subst (λ (s : Setup). AllByRecursion (λ e. e < length s.owners) c.args.ecbs.now)
    (sym (c.config.ensures ∙ ap (λ (b : BoardFace). b.config) c.self.view_is)) c.requires.blocks

pub returns-in-Some-clause-refusal : goal.returns-in-Some-clause-refusal
returns-in-Some-clause-refusal c =
    let t = c.args.task.now in
    refusal_is c.args.self.now.config c.args.count t.number c.args.ecbs.now t.log (Some (Doubled c.in-Some.p))
    (refused_at NotOwnerAt (λ e. not (owner_of c.args.self.now.config e == t.number)) 0 c.args.ecbs.now)
    (refused_at ExtendedAt (kept_of t.number t.log).extended 0 c.args.ecbs.now) c.if-ecbs-count.false
    (sym (ap (λ o. option_map (λ p. Doubled p) o) c.in-Some.is) ∙ c.doubled.ensures.first) refl refl

pub returns-in-Some-not_owned-clause-refusal : goal.returns-in-Some-not_owned-clause-refusal
returns-in-Some-not_owned-clause-refusal c =
    let config = c.config.ensures ∙ ap (λ (b : BoardFace). b.config) c.self.view_is in
    let number = c.number-number.ensures.number in
    let few = c.if-ecbs-count.false in
    refusal_is c.args.self.now.config c.args.count c.args.task.now.number c.args.ecbs.now c.args.task.now.log None
    (Some (NotOwnerAt c.in-Some-not_owned.p))
    (refused_at ExtendedAt (kept_of c.args.task.now.number c.args.task.now.log).extended 0 c.args.ecbs.now) few
    (sym (ap (λ o. option_map (λ p. Doubled p) o) c.in_default.is) ∙ c.doubled.ensures.first)
    (sym (ap (λ o. option_map (λ p. NotOwnerAt p) o) c.in-Some-not_owned.is)
    ∙ (c.not_owned.ensures ∙ (λ i. refused_at NotOwnerAt (λ e. not (owner_of (config i) e == number i)) 0 c.args.ecbs.now)))
    refl

pub returns-in-Some-first_extended-clause-refusal : goal.returns-in-Some-first_extended-clause-refusal
returns-in-Some-first_extended-clause-refusal c =
    let config = c.config.ensures ∙ ap (λ (b : BoardFace). b.config) c.self.view_is in
    let number = c.number-number.ensures.number in
    let few = c.if-ecbs-count.false in
    refusal_is c.args.self.now.config c.args.count c.args.task.now.number c.args.ecbs.now c.args.task.now.log None None
    (Some (ExtendedAt c.in-Some-first_extended.p)) few
    (sym (ap (λ o. option_map (λ p. Doubled p) o) c.in_default.is) ∙ c.doubled.ensures.first)
    (sym (ap (λ o. option_map (λ p. NotOwnerAt p) o) c.in_default-not_owned.is)
    ∙ (c.not_owned.ensures ∙ (λ i. refused_at NotOwnerAt (λ e. not (owner_of (config i) e == number i)) 0 c.args.ecbs.now)))
    (sym (ap (λ o. option_map (λ p. ExtendedAt p) o) c.in-Some-first_extended.is) ∙ (c.first_extended.ensures.first
    ∙ ap (λ (d : CallerFace). refused_at ExtendedAt (kept_of d.number d.log).extended 0 c.args.ecbs.now) c.task.view_is))

pub returns-in-Some-first_extended-clause-exit : goal.returns-in-Some-first_extended-clause-exit
returns-in-Some-first_extended-clause-exit c =
    let t = c.task.inside.caller in
    let about = ap (λ (d : CallerFace). d.about) c.task.view_is ∙ c.requires.task.1 in
    (fits_of c.args.self.now.config t c.task.inside.keep about c.task.invariant.recorded).exits
    (slice_index c.args.ecbs.now c.in-Some-first_extended.p)
    (subst (λ o. IfSome o (λ p. (kept_of t.number t.log).extended (slice_index c.args.ecbs.now p) ≡ true)) c.in-Some-first_extended.is
    c.first_extended.ensures.held)

pub returns-clause-refusal : goal.returns-clause-refusal
returns-clause-refusal c =
    let config = c.config.ensures ∙ ap (λ (b : BoardFace). b.config) c.self.view_is in
    let number = c.number-number.ensures.number in
    let few = c.if-ecbs-count.false in
    refusal_is c.args.self.now.config c.args.count c.args.task.now.number c.args.ecbs.now c.args.task.now.log None None None few
    (sym (ap (λ o. option_map (λ p. Doubled p) o) c.in_default.is) ∙ c.doubled.ensures.first)
    (sym (ap (λ o. option_map (λ p. NotOwnerAt p) o) c.in_default-not_owned.is)
    ∙ (c.not_owned.ensures ∙ (λ i. refused_at NotOwnerAt (λ e. not (owner_of (config i) e == number i)) 0 c.args.ecbs.now)))
    (sym (ap (λ o. option_map (λ p. ExtendedAt p) o) c.in_default-first_extended.is) ∙ (c.first_extended.ensures.first
    ∙ ap (λ (d : CallerFace). refused_at ExtendedAt (kept_of d.number d.log).extended 0 c.args.ecbs.now) c.task.view_is))
