-- A caller's own elements are there, and nobody else's.
use Rattle.std.proofs.Common.{◌≡◌, ℕ, suc, ◌+◌, ◌-◌, ◌*◌, ◌/◌, ◌<◌, ◌≤◌, ap, ◌∙◌, arith}
use Rattle.std.proofs.Math.Nat.{mul-le-mul_right}
use Rattle.std.proofs.lemmas.Nat.{div-mul-add}
use Rattle.mv_config.specs.Setup.{Setup, element_count, element_owner}

pub is_own : (c : Setup) (k n : ℕ) → k < c.callers → k * c.elements_per_caller ≤ n → n < k * c.elements_per_caller + c.elements_per_caller
    → (n < element_count c) × (element_owner c n ≡ k)
is_own c k n lt low high =
    let e = c.elements_per_caller in
    let i = n - k * e in
    let few : i < e = omega arith in
    let at : n ≡ k * e + i = omega arith in
    let all : suc k * e ≤ c.callers * e = mul-le-mul_right e lt in
    (omega arith, ap (λ m. m / e) at ∙ div-mul-add k e i few)
