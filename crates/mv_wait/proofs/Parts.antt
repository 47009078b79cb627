-- Small steps that several calls share.
use Rattle.std.proofs.Common.{◌≡◌, ℕ, false, zero, suc, ◌+◌, ◌<◌, List, [], ◌∷◌, ◌++◌, length, take, drop, get_or, sym, ap}
use Rattle.std.proofs.Common.{◌∙◌, subst, arith}
use Rattle.std.proofs.lemmas.List.{append-nil, drop_all, take_all}
use Rattle.std.specs.List.{AllByRecursion}
use Rattle.mv_config.specs.Setup.{Setup}
use Rattle.mv_board.specs.Faces.{BoardFace, CallerFace, IsOf, IsFresh, AreFresh, IsSame}
use Rattle.mv_wait.specs.Waiting.{AreOwn, ArePlain}
use Rattle.mv_calls.specs.Keeping.{kept_of}
use Rattle.mv_config.specs.Setup.{owner_of}

-- the same caller is of the same board
pub still_of : (b d : BoardFace) (t u : CallerFace) → IsSame t u → IsOf b t → d ≡ b → IsOf d u
still_of b d t u s o e =
    (s.table ∙ (o.0 ∙ sym (ap (λ (x : BoardFace). x.table) e)), s.about ∙ (o.1 ∙ sym (ap (λ (x : BoardFace). x.config ∷ []) e)))

pub one_of : {A : Type 0} (P : A → Type 0) (xs : List A) (i : ℕ) (d : A) → AllByRecursion P xs → i < length xs → P (get_or xs i d)
one_of P [] i d all lt = absurd (omega arith)
one_of P (y ∷ xs) zero d all lt = all.0
one_of P (y ∷ xs) (suc i) d all lt = one_of P xs i d all.1 (omega arith)

-- an own block of the list, by the station's own configuration
pub own_one : (c d : Setup) (j k : ℕ) (es : List ℕ) (i : ℕ) → d ≡ c → j ≡ k → AreOwn c k es → i < length es
    → (get_or es i 0 < length d.owners) × (owner_of d (get_or es i 0) ≡ j)
own_one c d j k es i same number all lt =
    let one = one_of (λ e. (e < length c.owners) × (owner_of c e ≡ k)) es i 0 all lt in (
      subst (λ (s : Setup). get_or es i 0 < length s.owners) (sym same) one.0,
      subst (λ (s : Setup). owner_of s (get_or es i 0) ≡ j) (sym same) (one.1 ∙ sym number),
    )

-- blocks that were not extended by a log are not extended by the same one
pub plain_still : (t u : CallerFace) (es : List ℕ) → u.number ≡ t.number → u.log ≡ t.log → ArePlain t es → ArePlain u es
plain_still t u es n l all = subst (λ k. AllByRecursion (λ e. (kept_of k u.log).extended e ≡ false) es) (sym n)
    (subst (λ log. AllByRecursion (λ e. (kept_of t.number log).extended e ≡ false) es) (sym l) all)

-- a task is the same caller, seen from inside
pub same_view : (t r : CallerFace) → r ≡ t → IsSame t r
same_view t r e = record {
  table = ap (λ (d : CallerFace). d.table) e;
  about = ap (λ (d : CallerFace). d.about) e;
  number = ap (λ (d : CallerFace). d.number) e;
}

-- a new task by its number
pub fresh_at : (b : BoardFace) (j k : ℕ) (tasks : List CallerFace) (d : CallerFace) → AreFresh b j tasks → k < length tasks
    → IsFresh b (j + k) (get_or tasks k d)
fresh_at b j k [] d all lt = absurd (omega arith)
fresh_at b j zero (t ∷ tasks) d all lt = subst (λ n. IsFresh b n t) (let e : j ≡ j + 0 = omega arith in e) all.0
fresh_at b j (suc k) (t ∷ tasks) d all lt =
    subst (λ n. IsFresh b n (get_or tasks k d)) (let e : suc j + k ≡ j + suc k = omega arith in e)
    (fresh_at b (suc j) k tasks d all.1 (omega arith))

-- what a slice of a list gave back, as the list has it
pub given_back : {A : Type 0} (n : ℕ) (new old : List A) → length new ≡ length old → n ≡ length old
    → take n (new ++ drop (length new) old) ≡ new
given_back n new old same size =
    ap (λ xs. take n (new ++ xs)) (drop_all (length new) old (omega arith)) ∙ ap (take n) (append-nil new) ∙ take_all n new (omega arith)
