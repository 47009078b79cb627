-- The callers of a new board.
use Rattle.std.proofs.Common.{◌≡◌, ℕ, suc, zero, ◌+◌, List, [], ◌∷◌, ◌++◌, length, get_or, replicate, refl, subst, arith}
use Rattle.mv_board.specs.Faces.{BoardFace, CallerFace, IsFresh, AreFresh}

pub fresh_snoc : (b : BoardFace) (k n : ℕ) (cs : List CallerFace) (c : CallerFace) → AreFresh b k cs → n ≡ length cs + k → IsFresh b n c
    → AreFresh b k (cs ++ c ∷ [])
fresh_snoc b k n [] c all e is = let z : n ≡ k = omega arith in (subst (λ m. IsFresh b m c) z is, tt)
fresh_snoc b k n (d ∷ cs) c all e is = (all.0, fresh_snoc b (suc k) n cs c all.1 (omega arith) is)

-- each word of a new table is 0
pub zeros : (n i : ℕ) → get_or (replicate {A = ℕ} n 0) i 0 ≡ 0
zeros zero i = refl
zeros (suc n) zero = refl
zeros (suc n) (suc i) = zeros n i

-- the last of them
pub fresh_last : (b : BoardFace) (k : ℕ) (cs : List CallerFace) (c : CallerFace) → AreFresh b k (cs ++ c ∷ []) → IsFresh b (length cs + k) c
fresh_last b k [] c all = let z : k ≡ 0 + k = omega arith in subst (λ m. IsFresh b m c) z all.0
fresh_last b k (d ∷ cs) c all = let z : length cs + suc k ≡ length (d ∷ cs) + k =
    omega arith in subst (λ m. IsFresh b m c) z (fresh_last b (suc k) cs c all.1)

-- those before it
pub fresh_front : (b : BoardFace) (k : ℕ) (cs ds : List CallerFace) → AreFresh b k (cs ++ ds) → AreFresh b k cs
fresh_front b k [] ds all = tt
fresh_front b k (d ∷ cs) ds all = (all.0, fresh_front b (suc k) cs ds all.1)
