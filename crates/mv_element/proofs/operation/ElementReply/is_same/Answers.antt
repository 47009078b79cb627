-- What `==` says, reply by reply.
use Rattle.std.proofs.Common.{◌≡◌, true, eqb, ◌&&◌, refl, sym, ap, ◌∙◌}
use Rattle.std.proofs.lemmas.Bool.{false≢true, eqb-true, eq-eqb, and_parts, and_from}
use denote.Enum.Bare.{sameb, same_true, true_same}
use Rattle.mv_element.specs.contracts.element.Phase.{the_type}
use Rattle.mv_element.specs.contracts.operation.ElementReplyPartialEq.TheImpl.{ghosts as eq_told}
use Rattle.mv_element.specs.declared.element.ElementState.{ElementState}
use Rattle.mv_element.specs.declared.operation.ElementReply.{ElementReply}
use Rattle.mv_element.specs.declared.operation.ElementReply.TheVariants.{Opened, InUse, Parked, Given, Spent, Busy}
use Rattle.mv_element.specs.declared.operation.ElementReply.TheVariants.{NotYet, Early, Woke, Already, Closed, State}
use Rattle.mv_element.proofs.States.{same_state}
use Rattle.mv_element.proofs.operation.ElementReply.is_same.Goals as goal

-- states that are told to be the same are so
one_state : (x y : ElementState) → (eqb x.generation y.generation && (sameb the_type x.phase y.phase && eqb x.code y.code)) ≡ true → x ≡ y
one_state x y e =
    let first : (eqb x.generation y.generation ≡ true) × ((sameb the_type x.phase y.phase && eqb x.code y.code) ≡ true) =
    and_parts _ _ e in
    let rest : (sameb the_type x.phase y.phase ≡ true) × (eqb x.code y.code ≡ true) = and_parts _ _ first.1 in
    same_state x y (eqb-true x.generation y.generation first.0) (same_true the_type tt x.phase y.phase rest.0)
    (eqb-true x.code y.code rest.1)

-- replies that are told to be the same are so
one_reply : (x y : ElementReply) → eq_told.eq x y ≡ true → x ≡ y
one_reply (Opened x) (Opened y) e = ap (λ z. Opened z) (eqb-true x y e)
one_reply (Spent x) (Spent y) e = ap (λ z. Spent z) (eqb-true x y e)
one_reply (Given x m) (Given y n) e =
    let k : (eqb x y ≡ true) × (eqb m n ≡ true) = and_parts _ _ e in
    ap (λ z. Given z m) (eqb-true x y k.0) ∙ ap (λ z. Given y z) (eqb-true m n k.1)
one_reply (State x) (State y) e = ap (λ z. State z) (one_state x y e)
one_reply InUse InUse e = refl
one_reply Parked Parked e = refl
one_reply Busy Busy e = refl
one_reply NotYet NotYet e = refl
one_reply Early Early e = refl
one_reply Woke Woke e = refl
one_reply Already Already e = refl
one_reply Closed Closed e = refl
one_reply x y e = absurd (false≢true e)

-- and each is told to be the same as itself
same_as_itself : (x : ElementReply) → eq_told.eq x x ≡ true
same_as_itself (Opened x) = eq-eqb x x refl
same_as_itself (Spent x) = eq-eqb x x refl
same_as_itself (Given x m) = and_from _ _ (eq-eqb x x refl) (eq-eqb m m refl)
same_as_itself (State x) =
    and_from _ _ (eq-eqb x.generation x.generation refl)
    (and_from _ _ (true_same the_type x.phase x.phase refl) (eq-eqb x.code x.code refl))
same_as_itself x = refl

pub returns : goal.returns
returns c = (
  λ t. one_reply c.args.self c.args.other (sym c.eq.ensures ∙ t),
  λ e.
      c.eq.ensures ∙ ap (λ y. eq_told.eq c.args.self y) (sym e) ∙ same_as_itself c.args.self,
)
