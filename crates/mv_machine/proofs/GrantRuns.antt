-- How a caller's request at a latch fares: one that is gone stays gone, and one that is granted stays granted or is gone.
use Rattle.std.proofs.Common.{◌≡◌, ◌⊎◌, ℕ, ◌<◌, Bool, true, false, ◌||◌, List, [], ◌∷◌, ◌++◌, filter, cond, inl, inr, refl, sym, ap}
use Rattle.std.proofs.Common.{◌∙◌, subst, arith}
use Rattle.std.specs.List.{Contains, list_any}
use Rattle.std.proofs.lemmas.Bool.{cases_Bool, false≢true, eqb-true, and_parts, and_left, ne_eqb}
use Rattle.std.proofs.lemmas.List.Elements.{Contains-append_left, Contains-push_cases}
use Rattle.std.proofs.lemmas.List.Folds.{list_any-append}
use Rattle.mv_latch.specs.declared.request.Request.{Request}
use Rattle.mv_latch.specs.Latch.{granted, waiting}
use Rattle.mv_latch.specs.Request.{is_own}
use Rattle.mv_latch.proofs.Changes.{Changed, same, grew, shrank, stays_granted}
use Rattle.mv_latch.proofs.Members.{was_in, Found, found, finds}
use Rattle.mv_latch.proofs.Splits.{granted_split}
use Rattle.mv_machine.specs.declared.entry.Entry.{Entry}
use Rattle.mv_machine.specs.declared.entry.Object.TheVariants.{Latches}
use Rattle.mv_machine.specs.Legal.{next, Legal, after}
use Rattle.mv_machine.specs.Owned.{IsGranted, IsGone}
use Rattle.mv_config.specs.Setup.{Setup}
use Rattle.mv_machine.specs.System.{System, opening, place_of}
use Rattle.mv_machine.proofs.EntryRuns.{along_all, rest_is_legal, at_end}
use Rattle.mv_machine.proofs.Histories.{LegalFrom-front}
use Rattle.mv_machine.proofs.LatchRuns.{list_at, Steps, steps_on, InOrder, Ordered, ordered, ordered_next, below_in, same_number}

-- ---- one that is gone stays gone
none_left : (t p : Request → Bool) (qs : List Request) → list_any t qs ≡ false → list_any t (filter p qs) ≡ false
none_left t p [] none = refl
none_left t p (q ∷ qs) none = go (p q) (t q) refl none (none_left t p qs) where
  go : (b y : Bool) → t q ≡ y → (y || list_any t qs) ≡ false → (list_any t qs ≡ false → list_any t (filter p qs) ≡ false)
      → list_any t (cond b (q ∷ filter p qs) (filter p qs)) ≡ false
  go b true e n rest = absurd (false≢true (sym n))
  go true false e n rest = rw e (rest n)
  go false false e n rest = rest n

gone_next : (k id place : ℕ) (old new : List Request) → Changed place old new → id < place → list_any (is_own k id) old ≡ false
    → list_any (is_own k id) new ≡ false
gone_next k id place old new (same e) lt gone = rw e gone
gone_next k id place old new (grew r is e) lt gone =
    let other : is_own k id r ≡ false = and_left _ _ (ne_eqb r.id id (omega arith)) in
    rw (e, list_any-append (is_own k id) old (r ∷ []), gone, other) refl
gone_next k id place old new (shrank p e) lt gone = rw e (none_left (is_own k id) p old gone)

abbrev pub WasGone : ℕ → ℕ → ℕ → System → Type 0
WasGone k latch id s = (id < s.latches.place) × IsGone k latch id s

was_gone_next : (k latch id : ℕ) (s t : System) → Steps s t latch → WasGone k latch id s → WasGone k latch id t
was_gone_next k latch id s t (inl w) g = rw w g
was_gone_next k latch id s t (inr w) g =
    (omega (arith, w.0, g.0), gone_next k id s.latches.place (list_at s latch) (list_at t latch) w.1 g.0 g.1)

pub gone_stays : (c : Setup) (xs ys : List Entry) (k latch id : ℕ) → Legal c (xs ++ ys) → id < place_of (after c xs) Latches
    → IsGone k latch id (after c xs) → IsGone k latch id (after c (xs ++ ys))
gone_stays c xs ys k latch id l lt gone =
    at_end c (IsGone k latch id) xs ys
    (along_all c (WasGone k latch id) (λ s e h g. was_gone_next k latch id s (next s e) (steps_on c s e latch h) g) (after c xs) ys
    (rest_is_legal c xs ys l) (lt, gone)).1

-- ---- one that is granted stays granted or is gone
-- whoever is in the new list was in the old one, or is the new request
came_from : (place : ℕ) (old new : List Request) (q : Request) → Changed place old new → Contains new q → Contains old q ⊎ (q.id ≡ place)
came_from place old new q (same e) i = inl (rw e at i)
came_from place old new q (grew r is e) i =
    elim (Contains-push_cases old r q (rw e at i)) [ inl j ↦ inl j | inr f ↦ inr (ap (λ (y : Request). y.id) (sym f) ∙ is) ]
came_from place old new q (shrank p e) i = inl (was_in p q old (rw e at i))

own_number : (k id : ℕ) (q : Request) → is_own k id q ≡ true → q.id ≡ id
own_number k id q own = eqb-true q.id id (and_parts _ _ own).0

-- the granted one and the one that is found later are one request
still_granted : (k id place : ℕ) (old new : List Request) → Changed place old new → InOrder place old → Found (is_own k id) (granted old)
    → Found (is_own k id) new → list_any (is_own k id) (granted new) ≡ true
still_granted k id place old new c o (q, i, own) (r, j, own_too) =
    let was : Contains old q = subst (λ qs. Contains qs q) (granted_split old) (Contains-append_left (granted old) (waiting old) q i) in
    let numbers : q.id ≡ r.id = own_number k id q own ∙ sym (own_number k id r own_too) in
    let too : Contains old r = elim (came_from place old new r c j) [
      | inl x ↦ x
      | inr is ↦ absurd (omega (arith, below_in place q old o.below was))
    ] in
    let one : r ≡ q = sym (same_number 0 q r old o.rises was too numbers) in
    finds (is_own k id) q (granted new) (stays_granted place old new q c i (subst (Contains new) one j)) own

granted_next : (k id place : ℕ) (old new : List Request) → Changed place old new → InOrder place old
    → list_any (is_own k id) (granted old) ≡ true → (list_any (is_own k id) (granted new) ≡ true) ⊎ (list_any (is_own k id) new ≡ false)
granted_next k id place old new c o holds = elim (cases_Bool (list_any (is_own k id) new)) [
  | inl stands ↦ inl (still_granted k id place old new c o (found (is_own k id) (granted old) holds) (found (is_own k id) new stands))
  | inr gone ↦ inr gone
]

earlier_number : (k id place : ℕ) (qs : List Request) → InOrder place qs → list_any (is_own k id) (granted qs) ≡ true → id < place
earlier_number k id place qs o holds =
    let f : Found (is_own k id) (granted qs) = found (is_own k id) (granted qs) holds in
    let in_list : Contains qs f.0 =
    subst (λ rs. Contains rs f.0) (granted_split qs) (Contains-append_left (granted qs) (waiting qs) f.0 f.1) in
    omega (arith, below_in place f.0 qs o.below in_list, own_number k id f.0 f.2)

-- it holds the latch, or is gone for ever
abbrev Fares : ℕ → ℕ → ℕ → System → Type 0
Fares k latch id s = Ordered latch s × (IsGranted k latch id s ⊎ WasGone k latch id s)

fares_next : (k latch id : ℕ) (s t : System) → Steps s t latch → Fares k latch id s → Fares k latch id t
fares_next k latch id s t steps (o, inr gone) = (ordered_next s t latch steps o, inr (was_gone_next k latch id s t steps gone))
fares_next k latch id s t (inl w) (o, inl holds) = (rw w o, inl (rw w holds))
fares_next k latch id s t (inr w) (o, inl holds) = (
  ordered_next s t latch (inr w) o,
  elim (granted_next k id s.latches.place (list_at s latch) (list_at t latch) w.1 o holds) [
    | inl stands ↦ inl stands
    | inr gone ↦ inr (omega (arith, w.0, earlier_number k id s.latches.place (list_at s latch) o holds), gone)
  ],
)

fares : (k latch id : ℕ) (s : System) → Fares k latch id s → IsGranted k latch id s ⊎ IsGone k latch id s
fares k latch id s (o, inl holds) = inl holds
fares k latch id s (o, inr gone) = inr gone.1

-- whoever's event takes it away, the owner's own too: then it is gone
pub granted_or_gone : (c : Setup) (xs ys : List Entry) (k latch id : ℕ) → Legal c (xs ++ ys)
    → IsGranted k latch id (after c xs) → IsGranted k latch id (after c (xs ++ ys)) ⊎ IsGone k latch id (after c (xs ++ ys))
granted_or_gone c xs ys k latch id l holds =
    fares k latch id (after c (xs ++ ys))
    (at_end c (Fares k latch id) xs ys
    (along_all c (Fares k latch id) (λ s e h f. fares_next k latch id s (next s e) (steps_on c s e latch h) f) (after c xs) ys
    (rest_is_legal c xs ys l) (ordered c xs latch (LegalFrom-front c (opening c) xs ys l), inl holds)))
