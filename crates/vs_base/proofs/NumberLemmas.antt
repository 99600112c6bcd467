-- What the calls of `Bits` compute, over plain numbers.
use Rattle.std.proofs.Common.{◌≡◌, ℕ, ◌+◌, ◌-◌, ◌*◌, ◌%◌, ◌^◌, ◌<◌, ◌≤◌, true, sym, ap, ◌∙◌, subst, arith}
use Rattle.std.proofs.lemmas.Nat.{pow_pos, pow-add}
use Rattle.std.proofs.Math.Nat.{pow-le-pow_right, mul-mod_left, mod-add-mod, add-mod-mod}
use Rattle.vs_base.specs.Number.{Number, IsNumber, kept, extended}
use Rattle.vs_base.specs.NumberLaws.{kept-kept, same_number, residue_down, extended-negative}

pub residue_top : (w v w0 : ℕ) → w ≤ 128 → v < 2 ^ w0 → w0 ≤ 128 → (v + (2 ^ 128 - 2 ^ w0)) % 2 ^ w ≡ 2 ^ w - 1 - (2 ^ w0 - v - 1) % 2 ^ w
residue_top w v w0 h fits h0 =
    let whole : 2 ^ 128 ≡ 2 ^ w * 2 ^ (128 - w) = (let e : 128 ≡ w + (128 - w) = omega arith in ap (λ (n : ℕ). 2 ^ n) e ∙ pow-add 2 w (128 - w)) in
    let below : 2 ^ w0 ≤ 2 ^ 128 = pow-le-pow_right (omega arith) h0 in
    let t : ℕ = 2 ^ w0 - v - 1 in
    let is : v + (2 ^ 128 - 2 ^ w0) ≡ 2 ^ w * 2 ^ (128 - w) - 1 - t = omega arith in
    ap (λ (n : ℕ). n % 2 ^ w) is ∙ residue_down (2 ^ w) (2 ^ (128 - w)) t (pow_pos w) (omega arith)

-- nothing of a number that was moved up by 128 places is left
pub up_is_lost : (v k : ℕ) → 128 ≤ k → v * 2 ^ k % 2 ^ 128 ≡ 0
up_is_lost v k h =
    let e : k ≡ (k - 128) + 128 = omega arith in
    let split : v * 2 ^ k ≡ (v * 2 ^ (k - 128)) * 2 ^ 128 =
    ap (λ (n : ℕ). v * 2 ^ n) e ∙ ap (λ (n : ℕ). v * n) (pow-add 2 (k - 128) 128) ∙ omega arith in
    ap (λ (n : ℕ). n % 2 ^ 128) split ∙ mul-mod_left (v * 2 ^ (k - 128)) (2 ^ 128)

pub word_extended-negative : (n : Number) (w : ℕ) → w ≤ 128 → n.width ≤ 128 → n.value < 2 ^ n.width → 2 ^ (n.width - 1) ≤ n.value → kept w (n.value + (2 ^ 128 - 2 ^ n.width)) ≡ extended n w true
word_extended-negative n w h h0 fits top = same_number w (residue_top w n.value n.width h fits h0 ∙ sym (extended-negative n w fits top))

pub IsNumber-same : (a b : Number) → a ≡ b → IsNumber a → IsNumber b
IsNumber-same a b e h = subst IsNumber e h

pub low_power : (i j : ℕ) → i ≤ j → 2 ^ i ≤ 2 ^ j
low_power i j h = pow-le-pow_right (omega arith) h

-- what sums on words of 128 bits keep
pub kept-word_sum : (w a b : ℕ) → w ≤ 128 → kept w ((a + b) % 2 ^ 128) ≡ kept w (a + b)
kept-word_sum w a b h = kept-kept 128 w (a + b) h

pub kept-word_sums : (w a b d : ℕ) → w ≤ 128 → kept w (((a + b % 2 ^ 128) % 2 ^ 128 + d % 2 ^ 128) % 2 ^ 128) ≡ kept w (a + b + d)
kept-word_sums w a b d h =
    let first : (a + b % 2 ^ 128) % 2 ^ 128 ≡ (a + b) % 2 ^ 128 = add-mod-mod a b (2 ^ 128) in
    let both : ((a + b) % 2 ^ 128 + d % 2 ^ 128) % 2 ^ 128 ≡ (a + b + d) % 2 ^ 128 =
    mod-add-mod (a + b) (2 ^ 128) (d % 2 ^ 128) ∙ add-mod-mod (a + b) d (2 ^ 128) in
    ap (λ (n : ℕ). kept w ((n + d % 2 ^ 128) % 2 ^ 128)) first ∙ ap (kept w) both ∙ kept-kept 128 w (a + b + d) h
