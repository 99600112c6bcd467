-- The words of the elements of a memory.
use Rattle.std.proofs.Common.{◌≡◌, ℕ, ◌+◌, ◌*◌, ◌^◌, ◌<◌, ◌≤◌, ap, arith, inl, inr}
use Rattle.std.proofs.Math.Nat.{mul-le-mul_right, add-mul}
use Rattle.std.proofs.lemmas.Bool.{cases_lt}

-- each element has a word with a number of 32 bits
pub in_words : (base count stride k : ℕ) → k < count → base < 2 ^ 32 → base + count * stride ≤ 2 ^ 32 → base + k * stride < 2 ^ 32
in_words base count stride k below fits all =
    let next : (k + 1) * stride ≤ count * stride = mul-le-mul_right {m = k + 1} stride (omega arith) in
    let split : (k + 1) * stride ≡ k * stride + 1 * stride = add-mul k 1 stride in
    elim (cases_lt 0 stride) as (λ _. base + k * stride < 2 ^ 32) [ inl some ↦ omega arith | inr none ↦ (let z : k * stride ≡ k * 0 = ap (λ (s : ℕ). k * s) (omega arith) in omega arith) ]
