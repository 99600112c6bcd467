-- Counts, digit by digit.
use Rattle.std.proofs.Common.{◌≡◌, ℕ, suc, ◌+◌, ◌-◌, ◌*◌, ◌^◌, ◌<◌, ◌≤◌, List, [], ◌∷◌, length, get_or, take, drop, true, refl, sym, ap, ◌∙◌, subst, arith, lit<}
use Rattle.std.specs.Prelude.{◌&&◌, fold}
use Rattle.std.specs.List.{list_all}
use Rattle.std.proofs.lemmas.Nat.{pow-add}
use Rattle.std.proofs.Math.Nat.{pow-le-pow_right}
use Rattle.stimulus.specs.StimulusText.{is_digit, count_value}
use Rattle.stimulus.proofs.Tails.{tail_is}

-- what the loop over the digits keeps
pub record Counting (text rest : List ℕ) (value : ℕ) : Type 0 where
  pub digits : list_all is_digit rest ≡ list_all is_digit text
  pub total : fold (λ n c. n * 10 + (c - 48)) value rest ≡ count_value text
  pub few : length rest ≤ 7
  pub small : value < 10 ^ (7 - length rest)

pub counting_starts : (text : List ℕ) → length text ≤ 7 → Counting text text 0
counting_starts text few = record {
  digits = refl;
  total = refl;
  few = few;
  small =
      let least : 0 ≤ 7 - length text = omega arith in
      let one : 10 ^ 0 ≤ 10 ^ (7 - length text) = pow-le-pow_right (lit< tt) least in
      omega arith;
}

next_small : (k v d : ℕ) → v < 10 ^ k → d < 10 → v * 10 + d < 10 ^ suc k
next_small k v d h small =
    let e : 10 ^ suc k ≡ 10 ^ k * 10 = ap (λ n. 10 ^ n) (omega arith) ∙ pow-add 10 k 1 in
    omega arith

next_fits : (text more : List ℕ) (value c d : ℕ) → Counting text (c ∷ more) value → d < 10 → value * 10 + d < 10 ^ (7 - length more)
next_fits text more value c d r small =
    let few = r.few in
    let e : suc (7 - length (c ∷ more)) ≡ 7 - length more = omega arith in
    subst (λ k. value * 10 + d < 10 ^ k) e (next_small (7 - length (c ∷ more)) value d r.small small)

-- one digit more has at most seven digits
pub count_fits : (text rest : List ℕ) (value d : ℕ) → 1 ≤ length rest → Counting text rest value → d < 10 → value * 10 + d < 10000000
count_fits text [] value d one r small = absurd (omega arith)
count_fits text (c ∷ more) value d one r small =
    let fits = next_fits text more value c d r small in
    let most : 7 - length more ≤ 7 = omega arith in
    let in_seven : 10 ^ (7 - length more) ≤ 10 ^ 7 = pow-le-pow_right (lit< tt) most in
    omega arith

pub count_read : (text rest : List ℕ) (value d : ℕ) → 1 ≤ length rest → Counting text rest value → is_digit (get_or rest 0 0) ≡ true → d ≡ get_or rest 0 0 - 48 → d < 10
    → Counting text (take (length rest - 1) (drop 1 rest)) (value * 10 + d)
count_read text [] value d one r digit is_d small = absurd (omega arith)
count_read text (c ∷ more) value d one r digit is_d small = subst (λ l. Counting text l (value * 10 + d)) (sym (tail_is c more)) (record {
  digits = sym (ap (λ b. b && list_all is_digit more) digit) ∙ r.digits;
  total = ap (λ (n : ℕ). fold (λ n c. n * 10 + (c - 48)) (value * 10 + n) more) is_d ∙ r.total;
  few = let few = r.few in omega arith;
  small = next_fits text more value c d r small;
})
