-- Registering with the sources of blocks, one after the other.
use Rattle.std.proofs.Common.{◌≡◌, ℕ, ◌+◌, ◌<◌, ◌≤◌, Bool, true, false, cond, List, [], ◌∷◌, ◌++◌, length, ◌⊎◌, inl, inr, refl, sym, ap}
use Rattle.std.proofs.Common.{◌∙◌, arith}
use Rattle.std.proofs.lemmas.Bool.{false≢true}
use Rattle.futures.specs.declared.task.source.Source.{Source}
use Rattle.mv_board.specs.declared.watch.Watch.{Watch}
use Rattle.mv_wait.specs.Ready.{has_ready, ready_count}
use Rattle.mv_wait.proofs.Waits.{count_one}
use Rattle.mv_polled.specs.Futures.{NeedsBlock}

-- what is ready stays so
abbrev pub Stays : List Watch → List Watch → Type 0
Stays ready later = (n : ℕ) → has_ready ready n ≡ true → has_ready later n ≡ true

pub still_not : (ready later : List Watch) (e : ℕ) (b : Bool) → Stays ready later → has_ready ready e ≡ b → has_ready later e ≡ false
    → has_ready ready e ≡ false
still_not ready later e true stays is none = absurd (false≢true (sym none ∙ stays e is))
still_not ready later e false stays is none = is

-- a source that is needed later is needed now
pub needs_still : (ready later : List Watch) (es : List ℕ) (xs : List Source) (s : ℕ) → Stays ready later → NeedsBlock later es xs s
    → NeedsBlock ready es xs s
needs_still ready later [] xs s stays n = absurd n
needs_still ready later (e ∷ es) [] s stays n = absurd n
needs_still ready later (e ∷ es) (x ∷ xs) s stays (inl p) = inl (still_not ready later e (has_ready ready e) stays refl p.0, p.1)
needs_still ready later (e ∷ es) (x ∷ xs) s stays (inr n) = inr (needs_still ready later es xs s stays n)

-- of one block more
pub needs_last : (ready : List Watch) (es : List ℕ) (xs : List Source) (e : ℕ) (x : Source) (s : ℕ) → length es ≡ length xs
    → NeedsBlock ready (es ++ e ∷ []) (xs ++ x ∷ []) s → NeedsBlock ready es xs s ⊎ ((has_ready ready e ≡ false) × (s ≡ x.id))
needs_last ready [] [] e x s q (inl p) = inr p
needs_last ready [] [] e x s q (inr n) = absurd n
needs_last ready [] (y ∷ xs) e x s q n = absurd (omega arith)
needs_last ready (a ∷ es) [] e x s q n = absurd (omega arith)
needs_last ready (a ∷ es) (y ∷ xs) e x s q (inl p) = inl (inl p)
needs_last ready (a ∷ es) (y ∷ xs) e x s q (inr n) = go (needs_last ready es xs e x s (omega arith) n) where
  go : NeedsBlock ready es xs s ⊎ ((has_ready ready e ≡ false) × (s ≡ x.id))
      → NeedsBlock ready (a ∷ es) (y ∷ xs) s ⊎ ((has_ready ready e ≡ false) × (s ≡ x.id))
  go (inl m) = inl (inr m)
  go (inr p) = inr p

bit_le : (a b : Bool) → (a ≡ true → b ≡ true) → cond {A = ℕ} a 1 0 ≤ cond b 1 0
bit_le true b f = rw (f refl) (omega arith)
bit_le false b f = omega arith

-- so no fewer are ready later
pub count_still : (ready later : List Watch) (es : List ℕ) → Stays ready later → ready_count ready es ≤ ready_count later es
count_still ready later [] stays = omega arith
count_still ready later (e ∷ es) stays =
    let rest = count_still ready later es stays in
    let a = count_one ready e es in
    let b = count_one later e es in
    let one = bit_le (has_ready ready e) (has_ready later e) (stays e) in omega arith

count_last : (ws : List Watch) (es : List ℕ) (e : ℕ) → ready_count ws (es ++ e ∷ []) ≡ ready_count ws es + cond (has_ready ws e) 1 0
count_last ws [] e = let a = count_one ws e [] in omega arith
count_last ws (x ∷ es) e =
    let rest = count_last ws es e in
    let a = count_one ws x es in
    let b = count_one ws x (es ++ e ∷ []) in omega arith

-- and of one block more, which is ready later or not
pub count_more : (ready later : List Watch) (es : List ℕ) (e : ℕ) (is : Bool) → Stays ready later → is ≡ has_ready later e
    → ready_count ready es + cond is 1 0 ≤ ready_count later (es ++ e ∷ [])
count_more ready later es e is stays own =
    let last = count_last later es e in
    let before = count_still ready later es stays in
    let one : cond {A = ℕ} is 1 0 ≡ cond (has_ready later e) 1 0 = ap (λ (b : Bool). cond {A = ℕ} b 1 0) own in omega arith

-- if one of them is not ready, the poll is armed
pub armed_more : (A B : Type 0) (is : Bool) (n i m : ℕ) → n + cond is 1 0 ≤ m → (n < i → A) → (A → B) → (is ≡ false → B) → m < i + 1 → B
armed_more A B true n i m le before keep here lt = keep (before (omega arith))
armed_more A B false n i m le before keep here lt = here refl

-- by either
pub either : {A B C : Type 0} → A ⊎ B → (A → C) → (B → C) → C
either (inl a) f g = f a
either (inr b) f g = g b
