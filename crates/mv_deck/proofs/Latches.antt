-- What the array of eight latches says of them.
use Rattle.std.proofs.Common.{◌≡◌, ℕ, zero, suc, ◌≤◌, map, drop, Option, is_some}
use Rattle.std.proofs.Common.{refl, arith}
use Rattle.std.specs.List.{list_any}
use Rattle.mv_latch.specs.declared.request.Mode.{Mode}
use Rattle.mv_deck.specs.Held.{latches}

-- whether one is held from a latch on
pub held_from : (f : ℕ → Option Mode) (latch : ℕ) → latch ≤ 7
    → list_any (λ (m : Option Mode). is_some m) (drop latch (map f latches)) ≡ list_any (λ l. is_some (f l)) (drop latch latches)
held_from f zero le = refl
held_from f (suc zero) le = refl
held_from f (suc (suc zero)) le = refl
held_from f (suc (suc (suc zero))) le = refl
held_from f (suc (suc (suc (suc zero)))) le = refl
held_from f (suc (suc (suc (suc (suc zero))))) le = refl
held_from f (suc (suc (suc (suc (suc (suc zero)))))) le = refl
held_from f (suc (suc (suc (suc (suc (suc (suc zero))))))) le = refl
held_from f (suc (suc (suc (suc (suc (suc (suc (suc n)))))))) le = absurd (omega arith)
