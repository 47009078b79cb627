-- Which requests are newly granted once some were taken out: those behind the ones that held the latch before.
use Rattle.std.proofs.Common.{◌≡◌, ℕ, ◌≤◌, Bool, true, false, not, List, [], ◌∷◌, ◌++◌, length}
use Rattle.std.proofs.Common.{drop, filter, cond, refl, sym, ap, ◌∙◌, subst, arith, length-append}
use Rattle.std.specs.List.{AllByRecursion, list_any}
use Rattle.std.proofs.lemmas.List.{drop_at}
use Rattle.std.proofs.lemmas.List.Elements.{filter-append}
use Rattle.std.proofs.lemmas.Bool.{eq-eqb, or_left, or_right}
use Rattle.mv_latch.specs.declared.request.Request.{Request}
use Rattle.mv_latch.specs.Request.{shared_request, has_id}
use Rattle.mv_latch.specs.Latch.{shared_front, granted, newly_granted, HasDistinctIds}
use Rattle.mv_latch.proofs.Splits.{all_filter, all_front, all_granted, front_shared, front_split, apart, length_filter, length_granted}

-- no request of xs has a number of front
abbrev AreNew : List Request → List Request → Type 0
AreNew front xs = AllByRecursion (λ q. list_any (has_id q.id) front ≡ false) xs

-- each request of xs has a number of front
abbrev AreOld : List Request → List Request → Type 0
AreOld front xs = AllByRecursion (λ q. list_any (has_id q.id) front ≡ true) xs

keep_new : (front xs : List Request) → AreNew front xs → filter (λ q. not (list_any (has_id q.id) front)) xs ≡ xs
keep_new front [] a = refl
keep_new front (q ∷ qs) a = rw (a.0, keep_new front qs a.1) refl

old_more : (front xs : List Request) (x : Request) → AreOld front xs → AreOld (x ∷ front) xs
old_more front [] x a = tt
old_more front (q ∷ qs) x a = (or_right (has_id q.id x) (list_any (has_id q.id) front) a.0, old_more front qs x a.1)

old_itself : (front : List Request) → AreOld front front
old_itself [] = tt
old_itself (x ∷ xs) = (or_left (has_id x.id x) (list_any (has_id x.id) xs) (eq-eqb x.id x.id refl), old_more xs xs x (old_itself xs))

drop_old : (p : Request → Bool) (front xs : List Request) → AreOld front xs
    → filter (λ q. not (list_any (has_id q.id) front)) (filter p xs) ≡ []
drop_old p front [] a = refl
drop_old p front (q ∷ qs) a = go (p q) (drop_old p front qs a.1) where
  go : (t : Bool) → filter (λ q. not (list_any (has_id q.id) front)) (filter p qs) ≡ []
      → filter (λ q. not (list_any (has_id q.id) front)) (cond t (q ∷ filter p qs) (filter p qs)) ≡ []
  go true ih = rw (a.0) ih
  go false ih = ih

drop_all_old : (front xs : List Request) → AreOld front xs → filter (λ q. not (list_any (has_id q.id) front)) xs ≡ []
drop_all_old front [] a = refl
drop_all_old front (q ∷ qs) a = rw (a.0) (drop_all_old front qs a.1)

-- where nothing changes, nothing is newly granted
pub newly_granted-same : (qs : List Request) → newly_granted qs qs ≡ []
newly_granted-same qs = drop_all_old (granted qs) (granted qs) (old_itself (granted qs))

-- ---- what is granted of what is left
front_append : (fs rest : List Request) → AllByRecursion (λ q. shared_request q ≡ true) fs
    → shared_front (fs ++ rest) ≡ fs ++ shared_front rest
front_append [] rest a = refl
front_append (f ∷ fs) rest a = rw (a.0, front_append fs rest a.1) refl

-- what is granted of the rest behind a front of shared requests, which may be empty
abbrev Next : List Request → List Request → List Request
Next [] rest = granted rest
Next (f ∷ fs) rest = shared_front rest

granted_next : (fs rest : List Request) → AllByRecursion (λ q. shared_request q ≡ true) fs → granted (fs ++ rest) ≡ fs ++ Next fs rest
granted_next [] rest a = refl
granted_next (f ∷ fs) rest a = rw (a.0, front_append fs rest a.1) refl

all_next : (P : Request → Type 0) (fs rest : List Request) → AllByRecursion P rest → AllByRecursion P (Next fs rest)
all_next P [] rest a = all_granted P rest a
all_next P (f ∷ fs) rest a = all_front P rest a

-- those that held the latch and are left come first, and then new ones
record Grown (p : Request → Bool) (qs : List Request) : Type 0 where
  extra : List Request
  is : granted (filter p qs) ≡ filter p (granted qs) ++ extra
  new : AreNew (granted qs) extra

grown : (p : Request → Bool) (qs : List Request) → HasDistinctIds qs → Grown p qs
grown p [] d = record { extra = []; is = refl; new = tt }
grown p (x ∷ xs) d = go (shared_request x) refl where
  alone : (t : Bool) → shared_request x ≡ false
      → granted (cond t (x ∷ filter p xs) (filter p xs)) ≡ cond t (x ∷ []) [] ++ cond t [] (granted (filter p xs))
  alone true e = rw e refl
  alone false e = refl

  behind : (t : Bool) → AreNew (x ∷ []) (cond t [] (granted (filter p xs)))
  behind true = tt
  behind false =
      all_granted (λ q. list_any (has_id q.id) (x ∷ []) ≡ false) (filter p xs)
      (all_filter (λ q. list_any (has_id q.id) (x ∷ []) ≡ false) p xs (apart (x ∷ []) xs d))

  go : (s : Bool) → shared_request x ≡ s → Grown p (x ∷ xs)
  go false e = record {
    extra = cond (p x) [] (granted (filter p xs));
    is = rw e (alone (p x) e);
    new = rw e (behind (p x));
  }
  go true e =
      let qs : List Request = x ∷ xs in
      let front : List Request = shared_front qs in
      let rest : List Request = drop (length front) qs in
      let holds : granted qs ≡ front = rw e refl in
      let parts : filter p qs ≡ filter p front ++ filter p rest = ap (filter p) (sym (front_split qs)) ∙ filter-append p front rest in
      let unlike : AreNew front rest = apart front rest (subst HasDistinctIds (sym (front_split qs)) d) in
      record {
        extra = Next (filter p front) (filter p rest);
        is =
            ap granted parts ∙ granted_next (filter p front) (filter p rest)
            (all_filter (λ q. shared_request q ≡ true) p front (front_shared qs))
            ∙ ap (λ z. filter p z ++ Next (filter p front) (filter p rest)) (sym holds);
        new =
            subst (λ z. AreNew z (Next (filter p front) (filter p rest))) (sym holds)
            (all_next (λ q. list_any (has_id q.id) front ≡ false) (filter p front) (filter p rest)
            (all_filter (λ q. list_any (has_id q.id) front ≡ false) p rest unlike));
      }

-- a list before and after what fails a test is taken out, and how many of the old holders are left
pub record IsPass (p : Request → Bool) (old new : List Request) (left : ℕ) : Type 0 where
  pub distinct : HasDistinctIds old
  pub left_is : left ≡ length (filter p (granted old))
  pub new_is : new ≡ filter p old

pub left_within : (p : Request → Bool) (old new : List Request) (left : ℕ) → IsPass p old new left → left ≤ length (granted new)
left_within p old new left w =
    let g : Grown p old = grown p old w.distinct in
    omega (arith, ap (λ z. length (granted z)) w.new_is, ap length g.is, length-append (filter p (granted old)) g.extra, w.left_is)

pub newly_dropped : (p : Request → Bool) (old new : List Request) (left : ℕ) → IsPass p old new left
    → newly_granted old new ≡ drop left (granted new)
newly_dropped p old new left w =
    let g : Grown p old = grown p old w.distinct in
    let e : granted new ≡ filter p (granted old) ++ g.extra = ap granted w.new_is ∙ g.is in
    let new_are : newly_granted old new ≡ g.extra =
    ap (filter (λ q. not (list_any (has_id q.id) (granted old)))) e
    ∙ filter-append (λ q. not (list_any (has_id q.id) (granted old))) (filter p (granted old)) g.extra
    ∙ ap (λ z. z ++ filter (λ q. not (list_any (has_id q.id) (granted old))) g.extra)
    (drop_old p (granted old) (granted old) (old_itself (granted old)))
    ∙ keep_new (granted old) g.extra g.new in
    new_are ∙ sym (ap (drop left) e ∙ drop_at (filter p (granted old)) g.extra left (sym w.left_is))

-- no more are newly granted than are left
pub newly_fit : (old new : List Request) → length (newly_granted old new) ≤ length new
newly_fit old new = omega (arith, length_filter (λ q. not (list_any (has_id q.id) (granted old))) (granted new), length_granted new)

-- what is read behind the old holders are the newly granted
pub newly_is : (p : Request → Bool) (old new view newly : List Request) (left : ℕ) → IsPass p old new left → view ≡ new
    → newly ≡ drop left (granted view) → newly ≡ newly_granted old new
newly_is p old new view newly left w same read = read ∙ ap (λ z. drop left (granted z)) same ∙ sym (newly_dropped p old new left w)
