-- A rotation of 32 bits, which joins two parts bit by bit, is the sum that `rotated` says.
use Rattle.std.proofs.Common.{◌≡◌, ℕ, ◌+◌, ◌-◌, ◌*◌, ◌/◌, ◌%◌, ◌^◌, ◌<◌, sym, ap, ◌∙◌, arith, inl, inr}
use Rattle.std.specs.Prelude.{bit_or}
use Rattle.std.specs.Int.{rotate_left, w32}
use Rattle.std.proofs.lemmas.Bool.{cases_lt}
use Rattle.std.proofs.lemmas.Nat.{pow_pos, pow-add, shr_split, shl_below, shr_below, shr_high, mod_low, or_shifted, mod_below}
use Rattle.std.proofs.Math.Nat.{mod-eq_of_lt, div-eq_of_lt}
use lib.Bits.{or_self}
use Rattle.dpi_lib.specs.Library.{rotated}

-- moved up by k, where r more bits would leave the 32
module _ (x k r : ℕ) (fits : x < 2 ^ 32) (all : r + k ≡ 32) where
  moved_splits : x * 2 ^ k ≡ x / 2 ^ r * 2 ^ 32 + x % 2 ^ r * 2 ^ k
  moved_splits =
      let power : 2 ^ 32 ≡ 2 ^ r * 2 ^ k = ap (λ (n : ℕ). 2 ^ n) (sym all) ∙ pow-add 2 r k in
      ap (λ (n : ℕ). n * 2 ^ k) (sym (shr_split x r)) ∙ apart (x / 2 ^ r) (2 ^ r) (x % 2 ^ r) (2 ^ k)
      ∙ ap (λ (n : ℕ). x / 2 ^ r * n + x % 2 ^ r * 2 ^ k) (sym power)
    where
      apart : (high p low q : ℕ) → (high * p + low) * q ≡ high * (p * q) + low * q
      apart high p low q = omega arith

  low_fits : x % 2 ^ r * 2 ^ k < 2 ^ 32
  low_fits = let below : x % 2 ^ r * 2 ^ k < 2 ^ (r + k) = shl_below (x % 2 ^ r) r k (mod_below x (2 ^ r) (pow_pos r)) in rw all at below

  moved_mod : x * 2 ^ k % 2 ^ 32 ≡ x % 2 ^ r * 2 ^ k
  moved_mod = ap (λ (n : ℕ). n % 2 ^ 32) moved_splits ∙ mod_low (x / 2 ^ r) 32 (x % 2 ^ r * 2 ^ k) low_fits

  moved_div : x * 2 ^ k / 2 ^ 32 ≡ x / 2 ^ r
  moved_div = ap (λ (n : ℕ). n / 2 ^ 32) moved_splits ∙ shr_high (x / 2 ^ r) 32 (x % 2 ^ r * 2 ^ k) low_fits

  high_fits : x / 2 ^ r < 2 ^ k
  high_fits = let whole : k + r ≡ 32 = omega arith in let wide : x < 2 ^ (k + r) = rw whole fits in shr_below x k r wide

  joined : bit_or (x * 2 ^ k % 2 ^ 32) (x / 2 ^ r) ≡ x * 2 ^ k % 2 ^ 32 + x * 2 ^ k / 2 ^ 32
  joined =
      ap (λ (n : ℕ). bit_or n (x / 2 ^ r)) moved_mod ∙ or_shifted (x % 2 ^ r) k (x / 2 ^ r) high_fits
      ∙ (λ i. sym moved_mod i + sym moved_div i)

-- no move at all
unmoved : (x : ℕ) → x < 2 ^ 32 → bit_or (x * 2 ^ 0 % 2 ^ 32) (x / 2 ^ 0) ≡ x * 2 ^ 0 % 2 ^ 32 + x * 2 ^ 0 / 2 ^ 32
unmoved x fits =
    let same : x * 2 ^ 0 ≡ x = omega arith in
    let whole : x / 2 ^ 0 ≡ x = omega arith in
    (λ i. bit_or (same i % 2 ^ 32) (whole i)) ∙ ap (λ (n : ℕ). bit_or n x) (mod-eq_of_lt fits) ∙ or_self x
    ∙ (let sum : x ≡ x % 2 ^ 32 + x / 2 ^ 32 = omega (arith, mod-eq_of_lt fits, div-eq_of_lt fits) in sum)
    ∙ (λ i. sym same i % 2 ^ 32 + sym same i / 2 ^ 32)

rotate_left_is : (x k : ℕ) → x < 2 ^ 32 → k < 32 → rotate_left w32 x k ≡ x * 2 ^ k % 2 ^ 32 + x * 2 ^ k / 2 ^ 32
rotate_left_is x k fits below =
    let by : k % 32 ≡ k = mod-eq_of_lt below in
    ap (λ (n : ℕ). bit_or (x * 2 ^ n % 2 ^ 32) (x / 2 ^ ((32 - n) % 32))) by
    ∙ (elim (cases_lt 0 k) [
      | inl some ↦ (let back : (32 - k) % 32 ≡ 32 - k = mod-eq_of_lt (omega arith) in
          ap (λ (n : ℕ). bit_or (x * 2 ^ k % 2 ^ 32) (x / 2 ^ n)) back ∙ joined x k (32 - k) fits (omega arith))
      | inr none ↦ (let is : k ≡ 0 = omega arith in
          ap (λ (n : ℕ). bit_or (x * 2 ^ n % 2 ^ 32) (x / 2 ^ ((32 - n) % 32))) is ∙ unmoved x fits
          ∙ ap (λ (n : ℕ). x * 2 ^ n % 2 ^ 32 + x * 2 ^ n / 2 ^ 32) (sym is))
    ])

pub rotated_is : (a n : ℕ) → rotate_left w32 (a % 2 ^ 32) (n % 32) ≡ rotated a n
rotated_is a n = rotate_left_is (a % 2 ^ 32) (n % 32) (mod_below a (2 ^ 32) (pow_pos 32)) (mod_below n 32 (omega arith))
