-- Blocks that are not ready, in the places where it keeps them.
use Rattle.std.proofs.Common.{◌≡◌, ◌≢◌, ℕ, suc, ◌+◌, ◌-◌, ◌<◌, ◌≤◌, ◌==◌, ◌⊎◌, inl, inr, Bool, true, false, List, [], ◌∷◌, ◌++◌}
use Rattle.std.proofs.Common.{length, get_or, set, take, cond, refl, sym, ap, ◌∙◌, subst, arith}
use Rattle.std.proofs.lemmas.Bool.{ne_eqb, eq-eqb, eqb-true, eqb-false}
use Rattle.std.proofs.lemmas.List.{get_or-take, get_or-set_same, get_or-set_other}
use Rattle.std.specs.List.{AllByRecursion}
use Rattle.mv_config.specs.Setup.{Setup, owner_of}
use Rattle.mv_board.specs.declared.watch.Watch.{Watch}
use Rattle.mv_board.specs.declared.watch.Watch.TheVariants as watch
use Rattle.mv_calls.specs.Waits.{AreDistinct}
use Rattle.mv_wait.specs.Ready.{has_ready, ready_count, AreReadyBut}
use Rattle.mv_wait.specs.Waiting.{AreOwn, AreOwnUpTo}
use Rattle.mv_wait.proofs.Parts.{one_of}
use Rattle.mv_wait.proofs.Waits.{ready_still, ready_new, count_one}

-- it is one of the first m
abbrev pub IsAmong : (ℕ → ℕ) → ℕ → ℕ → Type 0
IsAmong f m e = (j : ℕ) × (j < m) × (f j ≡ e)

-- the last of m takes the place of the one at j: each other one is still among them
still_among : (f g : ℕ → ℕ) (m j e x : ℕ) → j < m → f j ≡ e → g j ≡ f (m - 1) → ((i : ℕ) → i ≢ j → g i ≡ f i) → (x ≡ e → ⊥)
    → IsAmong f m x → IsAmong g (m - 1) x
still_among f g m j e x lt at moved same differs (i, below, is) = last (i == m - 1) refl where
  other : i ≢ j
  other here = differs (sym is ∙ (ap f here ∙ at))

  last : (b : Bool) → (i == m - 1) ≡ b → IsAmong g (m - 1) x
  last true here =
      let end : i ≡ m - 1 = eqb-true i (m - 1) here in (j, omega (arith, other), moved ∙ (ap f (sym end) ∙ is))
  last false here =
      let before : i ≢ m - 1 = eqb-false i (m - 1) here in (i, omega arith, same i other ∙ is)

-- ---- how many blocks there are

abbrev put : (ℕ → ℕ) → ℕ → ℕ → ℕ → ℕ
put f j m i = cond (i == j) (f (m - 1)) (f i)

all_still : (ws : List Watch) (f : ℕ → ℕ) (m j e : ℕ) (es : List ℕ) → j < m → f j ≡ e → AllByRecursion (λ x. x ≡ e → ⊥) es
    → AllByRecursion (λ x. (has_ready ws x ≡ true) ⊎ IsAmong f m x) es
    → AllByRecursion (λ x. (has_ready ws x ≡ true) ⊎ IsAmong (put f j m) (m - 1) x) es
all_still ws f m j e [] lt at differ all = tt
all_still ws f m j e (x ∷ es) lt at differ all = (one all.0, all_still ws f m j e es lt at differ.1 all.1) where
  one : (has_ready ws x ≡ true) ⊎ IsAmong f m x → (has_ready ws x ≡ true) ⊎ IsAmong (put f j m) (m - 1) x
  one (inl is) = inl is
  one (inr a) = inr (still_among f (put f j m) m j e x lt at
      (ap (λ b. cond b (f (m - 1)) (f j)) (eq-eqb j j refl))
      (λ i other. ap (λ b. cond b (f (m - 1)) (f i)) (ne_eqb i j other)) differ.0 a)

-- distinct blocks of which each is ready or among m are no more than those that are ready, and m
pub few : (ws : List Watch) (es : List ℕ) (f : ℕ → ℕ) (m : ℕ) → AreDistinct es
    → AllByRecursion (λ e. (has_ready ws e ≡ true) ⊎ IsAmong f m e) es → length es ≤ ready_count ws es + m
few ws [] f m d all = omega arith
few ws (e ∷ es) f m d all = one (λ g n there. few ws es g n d.1 there) all.0 where
  count : ready_count ws (e ∷ es) ≡ cond (has_ready ws e) 1 0 + ready_count ws es
  count = count_one ws e es

  one : ((g : ℕ → ℕ) (n : ℕ) → AllByRecursion (λ x. (has_ready ws x ≡ true) ⊎ IsAmong g n x) es → length es ≤ ready_count ws es + n)
      → (has_ready ws e ≡ true) ⊎ IsAmong f m e → length (e ∷ es) ≤ ready_count ws (e ∷ es) + m
  one rest (inl is) =
      let more = rest f m all.1 in
      let first : cond {A = ℕ} (has_ready ws e) 1 0 ≡ 1 = ap (λ b. cond {A = ℕ} b 1 0) is in omega (arith, count)
  one rest (inr (j, lt, at)) =
      let more = rest (put f j m) (m - 1) (all_still ws f m j e es lt at d.0 all.1) in omega (arith, count)

none_ready : (es : List ℕ) → ready_count [] es ≡ 0
none_ready [] = refl
none_ready (e ∷ es) = none_ready es

each_below : (m : ℕ) (es : List ℕ) → AllByRecursion (λ e. e < m) es
    → AllByRecursion (λ e. (has_ready [] e ≡ true) ⊎ IsAmong (λ j. j) m e) es
each_below m [] all = tt
each_below m (e ∷ es) all = (inr (e, all.0, refl), each_below m es all.1)

there : (c : Setup) (k : ℕ) (es : List ℕ) → AreOwn c k es → AllByRecursion (λ e. e < length c.owners) es
there c k [] own = tt
there c k (e ∷ es) own = (own.0.0, there c k es own.1)

-- a task's own blocks, of which none stands twice, are no more than there are blocks
pub within : (c : Setup) (k : ℕ) (es : List ℕ) → AreDistinct es → AreOwn c k es → length es ≤ length c.owners
within c k es d own =
    let some = few [] es (λ j. j) (length c.owners) d (each_below (length c.owners) es (there c k es own)) in
    let none = none_ready es in omega arith

-- if at most this many are not ready, the others are
pub ready_rest : (ws : List Watch) (es places : List ℕ) (m spare count : ℕ) → AreDistinct es → AreReadyBut places m ws es → m ≤ spare
    → spare + count ≡ length es → count ≤ ready_count ws es
ready_rest ws es places m spare count d seen le size = let some = few ws es (λ j. get_or places j 0) m d seen in omega arith

-- ---- at first none is ready

first_there : (es places : List ℕ) (p : ℕ) → take (length es) places ≡ es → p < length es → get_or places p 0 ≡ get_or es p 0
first_there es places p is lt = sym (get_or-take (length es) places p 0 lt) ∙ ap (λ xs. get_or xs p 0) is

pub own_first : (c : Setup) (k : ℕ) (es places : List ℕ) → take (length es) places ≡ es → AreOwn c k es
    → AreOwnUpTo c k places (length es)
own_first c k es places is own j lt =
    subst (λ e. (e < length c.owners) × (owner_of c e ≡ k)) (sym (first_there es places j is lt))
    (one_of (λ e. (e < length c.owners) × (owner_of c e ≡ k)) es j 0 own lt)

all_among : (ws : List Watch) (f : ℕ → ℕ) (k m : ℕ) (es : List ℕ) → ((p : ℕ) → p < length es → f (k + p) ≡ get_or es p 0)
    → k + length es ≤ m → AllByRecursion (λ e. (has_ready ws e ≡ true) ⊎ IsAmong f m e) es
all_among ws f k m [] at le = tt
all_among ws f k m (e ∷ es) at le = (
  inr (k, omega arith, ap f (let q : k ≡ k + 0 = omega arith in q) ∙ at 0 (omega arith)),
  all_among ws f (k + 1) m es
      (λ p lt. ap f (let q : k + 1 + p ≡ k + suc p = omega arith in q) ∙ at (suc p) (omega arith)) (omega arith),
)

pub all_unready : (ws : List Watch) (es places : List ℕ) → take (length es) places ≡ es → AreReadyBut places (length es) ws es
all_unready ws es places is = all_among ws (λ j. get_or places j 0) 0 (length es) es
    (λ p lt. ap (λ n. get_or places n 0) (let q : 0 + p ≡ p = omega arith in q) ∙ first_there es places p is lt) (omega arith)

-- ---- one that is complete leaves its place to the last

module _ (places : List ℕ) (m j : ℕ) (lt : j < m) (size : m ≤ length places) where
  -- the block at j, and the places then
  abbrev e : ℕ
  e = get_or places j 0

  abbrev after : List ℕ
  after = set places j (get_or places (m - 1) 0)

  moved : get_or after j 0 ≡ get_or places (m - 1) 0
  moved = get_or-set_same places j (get_or places (m - 1) 0) 0 (omega (arith, lt, size))

  others : (i : ℕ) → i ≢ j → get_or after i 0 ≡ get_or places i 0
  others i other = get_or-set_other places j i (get_or places (m - 1) 0) 0 other

  pub own_still : (c : Setup) (k : ℕ) → AreOwnUpTo c k places m → AreOwnUpTo c k after (m - 1)
  own_still c k own i below = go (i == j) refl where
    go : (b : Bool) → (i == j) ≡ b → (get_or after i 0 < length c.owners) × (owner_of c (get_or after i 0) ≡ k)
    go true is =
        let here : i ≡ j = eqb-true i j is in
        subst (λ x. (x < length c.owners) × (owner_of c x ≡ k)) (sym (ap (λ n. get_or after n 0) here ∙ moved))
        (own (m - 1) (omega (arith, lt)))
    go false is =
        subst (λ x. (x < length c.owners) × (owner_of c x ≡ k)) (sym (others i (eqb-false i j is))) (own i (omega (arith, below)))

  pub ready_more : (ws : List Watch) (es : List ℕ) → AreReadyBut places m ws es → AreReadyBut after (m - 1) (ws ++ watch.Ecb e ∷ []) es
  ready_more ws [] all = tt
  ready_more ws (x ∷ es) all = (one all.0, ready_more ws es all.1) where
    another : (b : Bool) → (x == e) ≡ b → IsAmong (λ i. get_or places i 0) m x
        → (has_ready (ws ++ watch.Ecb e ∷ []) x ≡ true) ⊎ IsAmong (λ i. get_or after i 0) (m - 1) x
    another true is a = inl (subst (λ n. has_ready (ws ++ watch.Ecb e ∷ []) n ≡ true) (sym (eqb-true x e is)) (ready_new ws e))
    another false is a = inr (still_among (λ i. get_or places i 0) (λ i. get_or after i 0) m j e x lt refl moved others
        (eqb-false x e is) a)

    one : (has_ready ws x ≡ true) ⊎ IsAmong (λ i. get_or places i 0) m x
        → (has_ready (ws ++ watch.Ecb e ∷ []) x ≡ true) ⊎ IsAmong (λ i. get_or after i 0) (m - 1) x
    one (inl is) = inl (ready_still ws (watch.Ecb e) x is)
    one (inr a) = another (x == e) refl a
