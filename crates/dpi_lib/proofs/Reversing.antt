-- Reversing bits one by one gives the number that `reversed` says.
use Rattle.std.proofs.Common.{◌≡◌, ℕ, zero, suc, ◌+◌, ◌-◌, ◌*◌, ◌/◌, ◌%◌, ◌^◌, ◌<◌, refl, sym, ap, ◌∙◌, arith}
use Rattle.std.specs.Int.{bit_at, reverse_bits_onto}
use Rattle.std.proofs.lemmas.Nat.Bits.{bit_at_lowest, bit_at-suc, bit_at_cat_low}
use Rattle.std.proofs.lemmas.Nat.{shr_split}
use Rattle.std.proofs.Math.Nat.{pow-suc}
use Rattle.dpi_lib.specs.Library.{from_bits, reversed}

from_bits_same : (k : ℕ) (f g : ℕ → ℕ) → ((i : ℕ) → i < k → f i ≡ g i) → from_bits k f ≡ from_bits k g
unfolding from_bits
from_bits_same zero f g same = refl
from_bits_same (suc k) f g same =
    ap (λ (n : ℕ). n + f k * 2 ^ k) (from_bits_same k f g (λ i h. same i (omega arith))) ∙ ap (λ (n : ℕ). from_bits k g + n * 2 ^ k) (same k (omega arith))

-- the lowest bits of a number go on top of those of another
reversed_onto : (k n on : ℕ) → reverse_bits_onto k n on ≡ on * 2 ^ k + from_bits k (λ i. bit_at n (k - 1 - i))
unfolding reverse_bits_onto from_bits
reversed_onto zero n on = omega arith
reversed_onto (suc k) n on =
    let further : reverse_bits_onto k (n / 2) (on * 2 + n % 2) ≡ (on * 2 + n % 2) * 2 ^ k + from_bits k (λ i. bit_at (n / 2) (k - 1 - i)) = reversed_onto k (n / 2) (on * 2 + n % 2) in
    let place : suc k - 1 - k ≡ 0 = omega arith in
    let lowest : bit_at n (suc k - 1 - k) ≡ n % 2 = ap (bit_at n) place ∙ bit_at_lowest n in
    let others : from_bits k (λ i. bit_at (n / 2) (k - 1 - i)) ≡ from_bits k (λ i. bit_at n (suc k - 1 - i)) =
    from_bits_same k (λ i. bit_at (n / 2) (k - 1 - i)) (λ i. bit_at n (suc k - 1 - i)) (λ i h. (let next : suc (k - 1 - i) ≡ suc k - 1 - i = omega arith in sym (bit_at-suc n (k - 1 - i)) ∙ ap (bit_at n) next)) in
    let power : 2 ^ suc k ≡ 2 * 2 ^ k = omega (arith, pow-suc 2 k) in
    further ∙ ap (λ (m : ℕ). (on * 2 + n % 2) * 2 ^ k + m) others
    ∙ total (2 ^ k) (from_bits k (λ i. bit_at n (suc k - 1 - i))) (n % 2)
    ∙ ap (λ (p : ℕ). on * p + (from_bits k (λ i. bit_at n (suc k - 1 - i)) + n % 2 * 2 ^ k)) (sym power)
    ∙ ap (λ (b : ℕ). on * 2 ^ suc k + (from_bits k (λ i. bit_at n (suc k - 1 - i)) + b * 2 ^ k)) (sym lowest)
  where
    total : (p rest bit : ℕ) → (on * 2 + bit) * p + rest ≡ on * (2 * p) + (rest + bit * p)
    total p rest bit = omega arith

bit_at_low : (a i : ℕ) → i < 32 → bit_at (a % 2 ^ 32) i ≡ bit_at a i
bit_at_low a i h = sym (bit_at_cat_low (a / 2 ^ 32) 32 (a % 2 ^ 32) i h) ∙ ap (λ (n : ℕ). bit_at n i) (shr_split a 32)

pub reversed_is : (a : ℕ) → reverse_bits_onto 32 (a % 2 ^ 32) 0 ≡ reversed a
reversed_is a =
    let onto : reverse_bits_onto 32 (a % 2 ^ 32) 0 ≡ 0 * 2 ^ 32 + from_bits 32 (λ i. bit_at (a % 2 ^ 32) (32 - 1 - i)) = reversed_onto 32 (a % 2 ^ 32) 0 in
    let none : 0 * 2 ^ 32 + from_bits 32 (λ i. bit_at (a % 2 ^ 32) (32 - 1 - i)) ≡ from_bits 32 (λ i. bit_at (a % 2 ^ 32) (31 - i)) = omega arith in
    onto ∙ none ∙ from_bits_same 32 _ _ (λ i h. bit_at_low a (31 - i) (omega arith))
