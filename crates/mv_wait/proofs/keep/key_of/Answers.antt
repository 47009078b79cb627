use Rattle.std.proofs.Common.{◌≡◌, ◌==◌, ◌||◌, ◌∷◌, ℕ, IsSomeAnd, sym, ap, ◌∙◌, subst, arith, refl, Contains}
use Rattle.std.proofs.lemmas.Bool.{ne_eqb}
use Rattle.std.specs.List.{list_any}
use Rattle.slab.proofs.SlabLemmas.{Contains-cons, Contains-entries}
use Rattle.mv_wait.specs.declared.keep.HeldRequest.{HeldRequest}
use Rattle.mv_wait.specs.Keep.{request_of}
use Rattle.mv_wait.proofs.keep.key_of.Goals as goal

pub loop-key-init : goal.loop-key-init
loop-key-init c =
    let left = c.into_iter-key-iterator.ensures.into_iter_gives ∙ c.iter-key-items.ensures.rest in (
      tt,
      tt,
      ap (list_any (λ (e : ℕ × HeldRequest). (request_of e.1).request.id == c.args.id)) left,
      λ key s there. (Contains-entries c.args.requests.now key s).0 (rw left at there),
    )

pub loop-key-preserved : goal.loop-key-preserved
loop-key-preserved c =
    let at = c.in-Some.ensures.steps in
    let other = ne_eqb c.in-Some.stood.now.request.id c.args.id c.if-stood-id.false in (
      tt,
      tt,
      sym (ap (list_any (λ (e : ℕ × HeldRequest). (request_of e.1).request.id == c.args.id)) at
          ∙ ap (λ b. b || list_any (λ (e : ℕ × HeldRequest). (request_of e.1).request.id == c.args.id) c.next.new.self) other)
          ∙ c.loop-key.invariant.2,
      λ key s there. c.loop-key.invariant.3 key s (rw at (Contains-cons _ _ _ there)),
    )

pub returns-then-stood-id-clause-there : goal.returns-then-stood-id-clause-there
returns-then-stood-id-clause-there c =
    let e : ℕ × HeldRequest = (c.in-Some.key, c.in-Some.stood.now) in
    let at = c.in-Some.ensures.steps in
    let first : Contains (e ∷ c.next.new.self) e = (0, omega arith, refl) in
    let found = c.loop-key.invariant.3 c.in-Some.key c.in-Some.stood.now (rw at first) in
    subst (λ o. IsSomeAnd o (λ (s : HeldRequest). s.request.id ≡ c.args.id)) (sym found) c.if-stood-id.true
