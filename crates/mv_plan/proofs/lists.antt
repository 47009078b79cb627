-- Lists, tables and sums: what holds of each element of a list; tables in which one entry is changed; sums over the numbers below a
-- bound, and how often a number is in a list. Beside the machine's lemmas on lists.
use Rattle.mv_plan.proofs.Words.{ℕ, zero, suc, List, [], ◌∷◌, get_or, AllByRecursion, drop, ◌≡◌, refl, sym, cases_eq, with_at, rules, ◌+◌}
use Rattle.mv_plan.proofs.Words.{◌<◌, ◌≤◌, ◌==◌, if◌then◌else◌, ◌++◌, length, Option, Some, None, ap, ◌∙◌, arith, eq-eqb, filter_map}
use Rattle.mv_plan.proofs.Words.{common_steps}
use Rattle.mv_machine.proofs.Histories as at

-- what holds of each by two others that do
pub all_join : {X : Type 0} {P Q R : X → Type 0} → ((x : X) → P x → Q x → R x) → (xs : List X) → AllByRecursion P xs
    → AllByRecursion Q xs → AllByRecursion R xs
all_join f [] a b = tt
all_join f (x ∷ xs) a b = (f x a.0 b.0, all_join f xs a.1 b.1)

-- of what is left of a list
pub all_drop : {X : Type 0} (P : X → Type 0) (n : ℕ) (xs : List X) → AllByRecursion P xs → AllByRecursion P (drop n xs)
all_drop P zero xs a = a
all_drop P (suc n) [] a = tt
all_drop P (suc n) (x ∷ xs) a = all_drop P n xs a.1

-- of one of a list, or of what stands for one that is not there
pub all_get : {X : Type 0} (P : X → Type 0) (xs : List X) (i : ℕ) (d : X) → AllByRecursion P xs → P d → P (get_or xs i d)
all_get P [] i d a p = p
all_get P (y ∷ xs) zero d a p = a.0
all_get P (y ∷ xs) (suc i) d a p = all_get P xs i d a.1 p

-- ---- tables in which one entry is changed

-- the entry that is changed
pub with_at-same : {A : Type 0} (f : ℕ → A) (n : ℕ) (a : A) → with_at f n a n ≡ a
with_at-same f n a = at.with_at-same f n a n refl

-- another entry
pub with_at-other : {A : Type 0} (f : ℕ → A) (n k : ℕ) (a : A) → (n ≡ k → ⊥) → with_at f n a k ≡ f k
with_at-other f n k a other = at.with_at-other f n a k (λ e. other (sym e))

-- what holds of the entry that is changed, and of the others as they were, holds of each
pub all_but : {A : Type 0} (Q : ℕ → A → Type 0) (f : ℕ → A) (n : ℕ) (a : A) (k : ℕ) → Q n a → ((n ≡ k → ⊥) → Q k (f k))
    → Q k (with_at f n a k)
all_but Q f n a k new old = search (rules, cases_eq, with_at-same, with_at-other)

-- what holds of each entry still does where it holds of the one that is changed
pub all_with : {A : Type 0} (Q : ℕ → A → Type 0) (f : ℕ → A) (n : ℕ) (a : A) (k : ℕ) → Q n a → Q k (f k) → Q k (with_at f n a k)
all_with Q f n a k new old = all_but Q f n a k new (λ d. old)

-- ---- sums over the numbers below a bound

abbrev pub sum_to : ℕ → (ℕ → ℕ) → ℕ
sum_to zero f = 0
sum_to (suc n) f = sum_to n f + f n

pub sum_ext : (n : ℕ) (f g : ℕ → ℕ) → ((j : ℕ) → j < n → f j ≡ g j) → sum_to n f ≡ sum_to n g
sum_ext zero f g e = refl
sum_ext (suc n) f g e = grind (arith, common_steps, sum_ext n f g)

pub sum_zero : (n : ℕ) (f : ℕ → ℕ) → ((j : ℕ) → j < n → f j ≡ 0) → sum_to n f ≡ 0
sum_zero zero f e = refl
sum_zero (suc n) f e = grind (arith, common_steps, sum_zero n f)

pub sum_le : (n : ℕ) (f g : ℕ → ℕ) → ((j : ℕ) → j < n → f j ≤ g j) → sum_to n f ≤ sum_to n g
sum_le zero f g e = omega arith
sum_le (suc n) f g e = grind (arith, common_steps, sum_le n f g)

-- one of them
pub sum_member : (n i : ℕ) (f : ℕ → ℕ) → i < n → f i ≤ sum_to n f
sum_member zero i f lt = absurd (omega arith)
sum_member (suc n) i f lt = grind (arith, common_steps, sum_member n i f)

-- one of them changes
pub sum_change : (n i : ℕ) (f g : ℕ → ℕ) → i < n → ((j : ℕ) → (i ≡ j → ⊥) → g j ≡ f j) → sum_to n g + f i ≡ sum_to n f + g i
sum_change zero i f g lt e = absurd (omega arith)
sum_change (suc n) i f g lt e = grind (arith, common_steps, cases_eq, sum_ext, sum_change n i f g)

-- two of them
pub sum_two : (n i m : ℕ) (f : ℕ → ℕ) → i < n → m < n → (i ≡ m → ⊥) → f i + f m ≤ sum_to n f
sum_two n i m f lt less d =
    let a = sum_change n i f (with_at f i 0) lt (λ j e. with_at-other f i j 0 e) in
    let b = with_at-same f i 0 in
    let e = sum_member n m (with_at f i 0) less in
    let g = with_at-other f i m 0 d in
    omega arith

-- of what is so of each in a table, where one is changed
pub sum_with_at : {A : Type 0} (n i : ℕ) (F : A → ℕ) (points : ℕ → A) (p : A) → i < n
    → sum_to n (λ m. F (with_at points i p m)) + F (points i) ≡ sum_to n (λ m. F (points m)) + F p
sum_with_at n i F points p lt =
    let a = sum_change n i (λ m. F (points m)) (λ m. F (with_at points i p m)) lt (λ j d. ap F (with_at-other points i j p d)) in
    a ∙ ap (λ z. sum_to n (λ m. F (points m)) + F z) (with_at-same points i p)

-- the first taken apart
pub sum_front : (n : ℕ) (f : ℕ → ℕ) → sum_to (suc n) f ≡ f 0 + sum_to n (λ j. f (suc j))
sum_front zero f = omega arith
sum_front (suc n) f = let a : sum_to (suc n) f ≡ f 0 + sum_to n (λ j. f (suc j)) = sum_front n f in omega arith

-- so many times
abbrev pub times : ℕ → ℕ → ℕ
times zero x = 0
times (suc n) x = x + times n x

pub times_once : (n x : ℕ) → n ≤ 1 → times n x ≤ x
times_once x y le = grind (arith, common_steps)

-- ---- in lists

-- how often a number is in a list
abbrev pub count_of : ℕ → List ℕ → ℕ
count_of n [] = 0
count_of n (m ∷ ms) = if m == n then suc (count_of n ms) else count_of n ms

pub count-push : (n m : ℕ) (ms : List ℕ) → count_of n (ms ++ m ∷ []) ≡ count_of n ms + (if m == n then 1 else 0)
count-push n m [] = omega arith
count-push n m (k ∷ ms) = grind (arith, common_steps, count-push n m ms)

-- what is not in it
pub count_none : (n : ℕ) (ms : List ℕ) → count_of n ms ≡ 0 → AllByRecursion (λ m. m ≡ n → ⊥) ms
count_none n [] e = tt
count_none n (m ∷ ms) e = grind (arith, common_steps, eq-eqb, count_none n ms)

-- 1 where there is a number
abbrev pub one_of : Option ℕ → ℕ
one_of None = 0
one_of (Some n) = 1

-- the length of a list that is picked from another, which has one more
pub length-pushed : {X : Type 0} (f : X → Option ℕ) (xs : List X) (x : X)
    → length (filter_map f (xs ++ x ∷ [])) ≡ length (filter_map f xs) + one_of (f x)
length-pushed f [] x = grind (arith, common_steps)
length-pushed f (y ∷ xs) x = grind (arith, common_steps, length-pushed f xs x)
