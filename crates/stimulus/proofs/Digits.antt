-- Hexadecimal numbers, digit by digit.
use Rattle.std.proofs.Common.{◌≡◌, ℕ, suc, ◌+◌, ◌-◌, ◌*◌, ◌^◌, ◌<◌, ◌≤◌, List, [], ◌∷◌, length, get_or, take, drop, true, sym, ap, ◌∙◌, subst, arith, lit<}
use Rattle.std.specs.Prelude.{◌&&◌, fold}
use Rattle.std.specs.List.{list_all}
use Rattle.std.proofs.lemmas.Nat.{pow-add}
use Rattle.std.proofs.Math.Nat.{pow-le-pow_right}
use Rattle.stimulus.specs.StimulusText.{is_hex_digit, hex_digit_value, hex_value}
use Rattle.stimulus.proofs.Tails.{tail_is}

-- what the loop over the digits keeps
pub record Reading (text rest : List ℕ) (value : ℕ) : Type 0 where
  pub digits : list_all is_hex_digit rest ≡ list_all is_hex_digit text
  pub total : fold (λ n c. n * 16 + hex_digit_value c) value rest ≡ hex_value text
  pub few : length rest ≤ 32
  pub small : value < 2 ^ (4 * (32 - length rest))

next_small : (k v d : ℕ) → v < 2 ^ (4 * k) → d < 16 → v * 16 + d < 2 ^ (4 * suc k)
next_small k v d h small =
    let e : 2 ^ (4 * suc k) ≡ 2 ^ (4 * k) * 16 = ap (λ n. 2 ^ n) (omega arith) ∙ pow-add 2 (4 * k) 4 in
    omega arith

next_fits : (text more : List ℕ) (value c d : ℕ) → Reading text (c ∷ more) value → d < 16 → value * 16 + d < 2 ^ (4 * (32 - length more))
next_fits text more value c d r small =
    let few = r.few in
    let e : suc (32 - length (c ∷ more)) ≡ 32 - length more = omega arith in
    subst (λ k. value * 16 + d < 2 ^ (4 * k)) e (next_small (32 - length (c ∷ more)) value d r.small small)

-- one digit more fits 128 bits
pub digit_fits : (text rest : List ℕ) (value d : ℕ) → 1 ≤ length rest → Reading text rest value → d < 16 → value * 16 + d < 2 ^ 128
digit_fits text [] value d one r small = absurd (omega arith)
digit_fits text (c ∷ more) value d one r small =
    let fits = next_fits text more value c d r small in
    let most : 4 * (32 - length more) ≤ 128 = omega arith in
    let in_word : 2 ^ (4 * (32 - length more)) ≤ 2 ^ 128 = pow-le-pow_right (lit< tt) most in
    omega arith

pub digit_read : (text rest : List ℕ) (value d : ℕ) → 1 ≤ length rest → Reading text rest value → is_hex_digit (get_or rest 0 0) ≡ true → d ≡ hex_digit_value (get_or rest 0 0) → d < 16
    → Reading text (take (length rest - 1) (drop 1 rest)) (value * 16 + d)
digit_read text [] value d one r digit is_d small = absurd (omega arith)
digit_read text (c ∷ more) value d one r digit is_d small = subst (λ l. Reading text l (value * 16 + d)) (sym (tail_is c more)) (record {
  digits = sym (ap (λ b. b && list_all is_hex_digit more) digit) ∙ r.digits;
  total = ap (λ (n : ℕ). fold (λ n c. n * 16 + hex_digit_value c) (value * 16 + n) more) is_d ∙ r.total;
  few = let few = r.few in omega arith;
  small = next_fits text more value c d r small;
})
