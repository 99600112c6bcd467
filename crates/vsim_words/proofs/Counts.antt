-- Numbers, digit by digit.
use Rattle.std.proofs.Common.{◌≡◌, ℕ, suc, ◌+◌, ◌-◌, ◌*◌, ◌^◌, ◌<◌, ◌≤◌, List, [], ◌∷◌, length, get_or, take, drop, true, refl, sym, ap, ◌∙◌, subst, arith, lit<}
use Rattle.std.specs.Prelude.{◌&&◌, fold}
use Rattle.std.specs.List.{list_all}
use Rattle.std.proofs.lemmas.Nat.{pow-add}
use Rattle.std.proofs.Math.Nat.{pow-le-pow_right}
use Rattle.vsim_words.specs.Settings.{is_digit, number_in}
use Rattle.vsim_words.proofs.Tails.{tail_is}

-- what the loop over the digits keeps
pub record Numbering (text rest : List ℕ) (value : ℕ) : Type 0 where
  pub digits : list_all is_digit rest ≡ list_all is_digit text
  pub total : fold (λ n c. n * 10 + (c - 48)) value rest ≡ number_in text
  pub few : length rest ≤ 9
  pub small : value < 10 ^ (9 - length rest)

pub numbering_starts : (text : List ℕ) → length text ≤ 9 → Numbering text text 0
numbering_starts text few = record {
  digits = refl;
  total = refl;
  few = few;
  small =
      let least : 0 ≤ 9 - length text = omega arith in
      let one : 10 ^ 0 ≤ 10 ^ (9 - length text) = pow-le-pow_right (lit< tt) least in
      omega arith;
}

next_small : (k v d : ℕ) → v < 10 ^ k → d < 10 → v * 10 + d < 10 ^ suc k
next_small k v d h small =
    let e : 10 ^ suc k ≡ 10 ^ k * 10 = ap (λ n. 10 ^ n) (omega arith) ∙ pow-add 10 k 1 in
    omega arith

next_fits : (text more : List ℕ) (value c d : ℕ) → Numbering text (c ∷ more) value → d < 10 → value * 10 + d < 10 ^ (9 - length more)
next_fits text more value c d r small =
    let few = r.few in
    let e : suc (9 - length (c ∷ more)) ≡ 9 - length more = omega arith in
    subst (λ k. value * 10 + d < 10 ^ k) e (next_small (9 - length (c ∷ more)) value d r.small small)

-- one digit more has at most nine digits
pub number_fits : (text rest : List ℕ) (value d : ℕ) → 1 ≤ length rest → Numbering text rest value → d < 10 → value * 10 + d < 1000000000
number_fits text [] value d one r small = absurd (omega arith)
number_fits text (c ∷ more) value d one r small =
    let fits = next_fits text more value c d r small in
    let most : 9 - length more ≤ 9 = omega arith in
    let in_nine : 10 ^ (9 - length more) ≤ 10 ^ 9 = pow-le-pow_right (lit< tt) most in
    omega arith

pub number_read : (text rest : List ℕ) (value d : ℕ) → 1 ≤ length rest → Numbering text rest value → is_digit (get_or rest 0 0) ≡ true → d ≡ get_or rest 0 0 - 48 → d < 10
    → Numbering text (take (length rest - 1) (drop 1 rest)) (value * 10 + d)
number_read text [] value d one r digit is_d small = absurd (omega arith)
number_read text (c ∷ more) value d one r digit is_d small = subst (λ l. Numbering text l (value * 10 + d)) (sym (tail_is c more)) (record {
  digits = sym (ap (λ b. b && list_all is_digit more) digit) ∙ r.digits;
  total = ap (λ (n : ℕ). fold (λ n c. n * 10 + (c - 48)) (value * 10 + n) more) is_d ∙ r.total;
  few = let few = r.few in omega arith;
  small = next_fits text more value c d r small;
})
