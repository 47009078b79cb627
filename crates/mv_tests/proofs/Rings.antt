-- Lists of which something holds everywhere, as they lose elements at either end and get others; and tasks in order, with one more.
use Rattle.std.proofs.Common.{◌≡◌, ℕ, suc, ◌+◌, List, [], ◌∷◌, ◌++◌, length, sym, ◌∙◌, subst, arith}
use Rattle.std.specs.List.{AllByRecursion}
use Rattle.mv_board.specs.Faces.{BoardFace, CallerFace, IsOf, AreInOrder}
use Rattle.mv_machine.proofs.Lists.{all_back, all_front, all_push}

module _ {X : Type 0} (P : X → Type 0) where
  -- a list that lost its last element
  pub without_last : (all rest : List X) (x : X) → all ≡ rest ++ x ∷ [] → AllByRecursion P all → AllByRecursion P rest × P x
  without_last all rest x is holds =
      let parts = subst (AllByRecursion P) is holds in
      (all_front P rest (x ∷ []) parts, (all_back P rest (x ∷ []) parts).0)

  -- one that lost its first
  pub without_first : (all rest : List X) (x : X) → all ≡ x ∷ rest → AllByRecursion P all → P x × AllByRecursion P rest
  without_first all rest x is holds = subst (AllByRecursion P) is holds

  -- one with an element more
  pub with_one : (all more : List X) (x : X) → more ≡ all ++ x ∷ [] → AllByRecursion P all → P x → AllByRecursion P more
  with_one all more x is holds one = subst (AllByRecursion P) (sym is) (all_push P all x holds one)

in_order_more : (b : BoardFace) (k : ℕ) (ts : List CallerFace) (t : CallerFace) → AreInOrder b k ts → IsOf b t
    → t.number ≡ k + length ts → AreInOrder b k (ts ++ t ∷ [])
in_order_more b k [] t order is number = (is, number ∙ (let e : k + 0 ≡ k = omega arith in e), tt)
in_order_more b k (x ∷ ts) t order is number = (
  order.0,
  order.1,
  in_order_more b (suc k) ts t order.2 is (number ∙ (let e : k + suc (length ts) ≡ suc k + length ts = omega arith in e)),
)

-- the tasks in order, with the next one
pub with_next : (b : BoardFace) (all more : List CallerFace) (t : CallerFace) → more ≡ all ++ t ∷ [] → AreInOrder b 0 all → IsOf b t
    → t.number ≡ length all → AreInOrder b 0 more
with_next b all more t is order of number =
    subst (AreInOrder b 0) (sym is) (in_order_more b 0 all t order of (number ∙ (let e : length all ≡ 0 + length all = omega arith in e)))
