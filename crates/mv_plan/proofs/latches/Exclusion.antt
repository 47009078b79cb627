-- Who touches a volume holds its latch, and who counts on it holds it alone; so no two initiators stand so at one volume.
use Rattle.mv_plan.proofs.Words.{◌≡◌, ℕ, ◌<◌, ◌==◌, Bool, true, false, not, ◌&&◌, ◌||◌, List, [], ◌∷◌, length, Option, Some, None, refl, ap}
use Rattle.mv_plan.proofs.Words.{sym, ◌∙◌, subst, arith, Contains, list_any, eqb-true, Request, granted, list_of, is_shared, shared_request}
use Rattle.mv_plan.proofs.Words.{JobData, initiator, all_at, common_steps}
use Rattle.mv_latch.proofs.Holders.{alone}
use Rattle.mv_plan.proofs.deck.{is_held, is_held_alone}
use Rattle.mv_latch.proofs.Members.{finds, found}
use Rattle.mv_plan.proofs.latches.Lists.{request_of}
use Rattle.mv_plan.proofs.latches.Hands.{has_latch, grip, OwnsBy, Hands, Holds}
use Rattle.mv_plan.proofs.points.{held_of, IsInitiatorAt, Point, At, Grant, InitiatorAt, Reading, ToAdd, Writing, ToCompare, Compares}
use Rattle.mv_plan.proofs.points.{InJob}

-- the volume of a COUNT
abbrev pub counted_on : Point InitiatorAt → Option ℕ
counted_on (At (InJob run (Reading hand volume (ToAdd amount) steps))) = Some volume
counted_on (At (InJob run (Writing hand volume amount number steps))) = Some volume
counted_on p = None

-- that of a COUNT or SCAN
abbrev pub touched : Point InitiatorAt → Option ℕ
touched (At (InJob run (Reading hand volume purpose steps))) = Some volume
touched p = counted_on p

has_alone : (latch : ℕ) (gs : List Grant)
    → list_any (is_held_alone latch) (held_of gs) ≡ list_any (λ g. (g.latch == latch) && not (is_shared g.mode)) gs
has_alone latch [] = refl
has_alone latch (g ∷ gs) = ap (λ b. ((g.latch == latch) && not (is_shared g.mode)) || b) (has_alone latch gs)

-- a request of caller k that holds the latch, and one that is exclusive
abbrev pub HoldsLatch : List (List Request) → ℕ → ℕ → Type 0
HoldsLatch lists k latch = (q : Request) × Contains (granted (list_of lists latch)) q × (q.caller ≡ k)

abbrev pub HoldsAlone : List (List Request) → ℕ → ℕ → Type 0
HoldsAlone lists k latch = (q : Request) × Contains (granted (list_of lists latch)) q × (q.caller ≡ k) × (shared_request q ≡ false)

held_latch : (lists : List (List Request)) (k job latch : ℕ) (gs : List Grant) → Holds lists k job gs
    → list_any (is_held latch) (held_of gs) ≡ true → HoldsLatch lists k latch
held_latch lists k job latch gs h e = grind (arith, common_steps, found, has_latch, eqb-true, all_at)

alone_parts : (a b : Bool) → (a && not b) ≡ true → (a ≡ true) × (b ≡ false)
alone_parts x b e = grind (arith, common_steps)

held_alone : (lists : List (List Request)) (k job latch : ℕ) (gs : List Grant) → Holds lists k job gs
    → list_any (is_held_alone latch) (held_of gs) ≡ true → HoldsAlone lists k latch
held_alone lists k job latch gs h e =
    let it = found (λ g. (g.latch == latch) && not (is_shared g.mode)) gs (sym (has_alone latch gs) ∙ e) in
    let parts = alone_parts ((it.0).latch == latch) (is_shared (it.0).mode) it.2 in (
      request_of k job it.0,
      subst (λ l. Contains (granted (list_of lists l)) (request_of k job it.0)) (eqb-true (it.0).latch latch parts.0)
          (all_at (λ g. Contains (granted (list_of lists g.latch)) (request_of k job g)) gs it.0 h it.1),
      refl,
      parts.1,
    )

pub count_holds : (deck : List JobData) (lists : List (List Request)) (k v : ℕ) (p : Point InitiatorAt) → counted_on p ≡ Some v
    → IsInitiatorAt deck p → OwnsBy lists k (grip p) → HoldsAlone lists k v
count_holds deck lists k v (At (InJob run (Reading hand volume (ToAdd amount) steps))) e a w = grind (arith, common_steps, held_alone)
count_holds deck lists k v (At (InJob run (Writing hand volume amount number steps))) e a w = grind (arith, common_steps, held_alone)
count_holds deck lists k v p e a w = absurd (cc e)

pub touch_holds : (deck : List JobData) (lists : List (List Request)) (k v : ℕ) (p : Point InitiatorAt) → touched p ≡ Some v
    → IsInitiatorAt deck p → OwnsBy lists k (grip p) → HoldsLatch lists k v
touch_holds deck lists k v (At (InJob run (Reading hand volume ToCompare steps))) e a w = grind (arith, common_steps, held_latch)
touch_holds deck lists k v (At (InJob run (Reading hand volume (Compares number) steps))) e a w = grind (arith, common_steps, held_latch)
touch_holds deck lists k v p e a w = let it = count_holds deck lists k v p e a w in (it.0, it.1, it.2)

one_only : {X : Type 0} (xs : List X) (a b : X) → length xs ≡ 1 → Contains xs a → Contains xs b → a ≡ b
one_only x a b e i j = grind (arith, common_steps)

-- Where one initiator is at a COUNT of a volume, no other is at a COUNT or SCAN of it.
pub excludes : (deck : List JobData) (initiators : ℕ) (lists : List (List Request)) (points : ℕ → Point InitiatorAt) (i m v : ℕ)
    → i < initiators → m < initiators
    → Hands initiators lists points → ((j : ℕ) → j < initiators → IsInitiatorAt deck (points j)) → counted_on (points i) ≡ Some v
    → touched (points m) ≡ Some v → i ≡ m
excludes deck initiators lists points i m v lt less w stand one two =
    let a = count_holds deck lists (initiator i) v (points i) one (stand i lt) (w.owns i lt) in
    let b = touch_holds deck lists (initiator m) v (points m) two (stand m less) (w.owns m less) in
    let single = alone (list_of lists v) (finds (λ q. not (shared_request q)) a.0 (granted (list_of lists v)) a.1 (ap not a.3)) in
    let same = one_only (granted (list_of lists v)) a.0 b.0 single a.1 b.1 in
    let callers = sym a.2 ∙ ap (λ q. q.caller) same ∙ b.2 in
    omega arith
