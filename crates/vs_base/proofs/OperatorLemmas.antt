-- What the operators' calls compute, over plain numbers.
use Rattle.std.proofs.Common.{◌≡◌, ℕ, zero, suc, ◌+◌, ◌-◌, ◌*◌, ◌/◌, ◌%◌, ◌^◌, ◌<◌, ◌≤◌, Bool, true, false, cond, not, nat_eq, refl, sym, ap, ◌∙◌, subst, arith, ℤ, pos, negsuc, neg_ℤ, ◌-ℤ◌, inl, inr}
use Rattle.std.specs.Prelude.{int_div, int_rem, int_lt, unsigned_abs}
use Rattle.std.specs.Int.Count.{count_leading_zeros, leading_of_zero}
use Rattle.std.proofs.Math.Bool.{beq}
use Rattle.std.proofs.lemmas.Int.{ints}
use Rattle.std.proofs.lemmas.Bool.{cases_lt, le-ltb, ne_eqb}
use Rattle.std.proofs.lemmas.Nat.{pow_pos, pow-add, mod-mul-add, mod_below, div-add-mod', leading_length}
use Rattle.std.proofs.Math.Nat.{mod-eq_of_lt, mod_self, mod-add-mod, add-mul-mod_self_left, pow-le-pow_right}
use Rattle.vs_base.specs.Number.{Number, kept, residue, reading}
use Rattle.vs_base.specs.NumberLaws.{same_number, kept-kept, residue_down, high_is_zero, signed_reading-positive}
use Rattle.vs_base.specs.Operators.{wrapped, inverted, negated, divided, remaining, joined, repeated, log_ceiling, IsCeilingLog}
use Rattle.vs_base.specs.OperatorLaws.{joined-fits}
use Rattle.vs_base.proofs.NumberLemmas.{up_is_lost}

-- an inverted number fits as it is
pub kept_inverted : (w v : ℕ) → kept w (2 ^ w - 1 - v) ≡ inverted (record { width = w; value = v })
kept_inverted w v =
    let some : 0 < 2 ^ w = pow_pos w in
    same_number w (mod-eq_of_lt (omega arith))

-- nothing less than m leaves all of it
all_left : (m : ℕ) → (m - 0) % m ≡ 0
all_left m =
    let e : m - 0 ≡ m = omega arith in
    ap (λ (n : ℕ). n % m) e ∙ mod_self m

-- one more than a number modulo m, below m
next_residue : (v m : ℕ) → 0 < m → (m - suc v % m) % m ≡ m - 1 - v % m
next_residue v m some =
    let r : v % m < m = mod_below v m some in
    let whole : v / m * m + v % m ≡ v = div-add-mod' v m in
    elim (cases_lt (v % m + 1) m) [
      | inl low ↦ (let e : suc v ≡ v / m * m + (v % m + 1) = omega arith in
          let s : suc v % m ≡ v % m + 1 = ap (λ (n : ℕ). n % m) e ∙ mod-mul-add (v / m) m (v % m + 1) low in
          ap (λ (n : ℕ). (m - n) % m) s ∙ mod-eq_of_lt (omega arith) ∙ omega arith)
      | inr top ↦ (let e : suc v ≡ (v / m + 1) * m + 0 = omega arith in
          let s : suc v % m ≡ 0 = ap (λ (n : ℕ). n % m) e ∙ mod-mul-add (v / m + 1) m 0 some in
          ap (λ (n : ℕ). (m - n) % m) s ∙ all_left m ∙ omega arith)
    ]

-- the residue of a number below 0 is what its size lacks
pub residue_neg : (v m : ℕ) → 0 < m → residue (neg_ℤ (pos v)) m ≡ (m - v % m) % m
residue_neg zero m some = mod-eq_of_lt some ∙ sym (ap (λ (n : ℕ). (m - n) % m) (mod-eq_of_lt some) ∙ all_left m)
residue_neg (suc v) m some = sym (next_residue v m some)

-- the residue of a number below 0 looks only at its size's residue
pub residue_neg_mod : (v m : ℕ) → 0 < m → residue (neg_ℤ (pos (v % m))) m ≡ residue (neg_ℤ (pos v)) m
residue_neg_mod v m some =
    residue_neg (v % m) m some ∙ ap (λ (n : ℕ). (m - n) % m) (mod-eq_of_lt (mod_below v m some)) ∙ sym (residue_neg v m some)

-- the quotient, with the sign that it has
abbrev pick : ℕ → ℕ → Bool → Bool → ℕ
pick m q s t = cond (not (beq s t)) (residue (neg_ℤ (pos (q % m))) m) (q % m)

not_below : (a : ℕ) → int_lt (pos a) (pos 0) ≡ false
not_below a = le-ltb a 0 (omega arith)

quotient_is : (a b : ℤ) (m : ℕ) → 0 < m → residue (int_div a b) m ≡ pick m (unsigned_abs a / unsigned_abs b) (int_lt a (pos 0)) (int_lt b (pos 0))
quotient_is (pos a) (pos b) m some =
    ap (λ s. pick m (a / b) s false) (sym (not_below a)) ∙ ap (pick m (a / b) (int_lt (pos a) (pos 0))) (sym (not_below b))
quotient_is (pos a) (negsuc b) m some = sym (residue_neg_mod (a / suc b) m some) ∙ ap (λ s. pick m (a / suc b) s true) (sym (not_below a))
quotient_is (negsuc a) (pos b) m some = sym (residue_neg_mod (suc a / b) m some) ∙ ap (pick m (suc a / b) true) (sym (not_below b))
quotient_is (negsuc a) (negsuc b) m some = refl

remainder_is : (a b : ℤ) (m : ℕ) → 0 < m → residue (int_rem a b) m ≡ pick m (unsigned_abs a % unsigned_abs b) (int_lt a (pos 0)) false
remainder_is (pos a) b m some = ap (λ s. pick m (a % unsigned_abs b) s false) (sym (not_below a))
remainder_is (negsuc a) b m some = sym (residue_neg_mod (suc a % unsigned_abs b) m some)

-- turning a number's sign leaves its width
with_sign_is : (w q : ℕ) (turned : Bool) → cond turned (negated (kept w q)) (kept w q) ≡ record { width = w; value = cond turned (residue (neg_ℤ (pos (q % 2 ^ w))) (2 ^ w)) (q % 2 ^ w) }
with_sign_is w q true = refl
with_sign_is w q false = refl

zero_reads_zero : (signed : Bool) (n : Number) → n.value ≡ 0 → unsigned_abs (reading signed n) ≡ 0
zero_reads_zero false n none = none
zero_reads_zero true n none =
    let half : 0 < 2 ^ (n.width - 1) = pow_pos (n.width - 1) in
    ap unsigned_abs (signed_reading-positive n (omega arith)) ∙ none

divisor_not_zero : (signed : Bool) (n : Number) → 0 < unsigned_abs (reading signed n) → nat_eq n.value 0 ≡ false
divisor_not_zero signed n some = ne_eqb n.value 0 (λ none. (let e : unsigned_abs (reading signed n) ≡ 0 = zero_reads_zero signed n none in omega arith))

pub divided_is : (signed : Bool) (a b : Number) → 0 < unsigned_abs (reading signed b) → let q = kept a.width (unsigned_abs (reading signed a) / unsigned_abs (reading signed b)) in cond (not (beq (int_lt (reading signed a) (pos 0)) (int_lt (reading signed b) (pos 0)))) (negated q) q ≡ divided signed a b
divided_is signed a b some =
    with_sign_is a.width (unsigned_abs (reading signed a) / unsigned_abs (reading signed b)) (not (beq (int_lt (reading signed a) (pos 0)) (int_lt (reading signed b) (pos 0))))
    ∙ same_number a.width (sym (quotient_is (reading signed a) (reading signed b) (2 ^ a.width) (pow_pos a.width)))
    ∙ ap (λ none. cond none (kept a.width 0) (wrapped a.width (int_div (reading signed a) (reading signed b)))) (sym (divisor_not_zero signed b some))

negative_is : (s : Bool) → not (beq s false) ≡ s
negative_is true = refl
negative_is false = refl

pub remaining_is : (signed : Bool) (a b : Number) → 0 < unsigned_abs (reading signed b) → let r = kept a.width (unsigned_abs (reading signed a) % unsigned_abs (reading signed b)) in cond (int_lt (reading signed a) (pos 0)) (negated r) r ≡ remaining signed a b
remaining_is signed a b some =
    let r : Number = kept a.width (unsigned_abs (reading signed a) % unsigned_abs (reading signed b)) in
    let s : Bool = int_lt (reading signed a) (pos 0) in
    ap (λ x. cond x (negated r) r) (sym (negative_is s))
    ∙ with_sign_is a.width (unsigned_abs (reading signed a) % unsigned_abs (reading signed b)) (not (beq s false))
    ∙ same_number a.width (sym (remainder_is (reading signed a) (reading signed b) (2 ^ a.width) (pow_pos a.width)))
    ∙ ap (λ none. cond none (kept a.width 0) (wrapped a.width (int_rem (reading signed a) (reading signed b)))) (sym (divisor_not_zero signed b some))

-- differences on words of 128 bits

word_splits : (w : ℕ) → w ≤ 128 → 2 ^ 128 ≡ 2 ^ w * 2 ^ (128 - w)
word_splits w h = (let e : 128 ≡ w + (128 - w) = omega arith in ap (λ (n : ℕ). 2 ^ n) e ∙ pow-add 2 w (128 - w))

pub below_word : (w : ℕ) → w ≤ 128 → 2 ^ w ≤ 2 ^ 128
below_word w h = pow-le-pow_right (omega arith) h

pub kept_negation : (w v : ℕ) → w ≤ 128 → v < 2 ^ w → kept w ((0 + (2 ^ 128 - v)) % 2 ^ 128) ≡ negated (record { width = w; value = v })
kept_negation w zero h fits = refl
kept_negation w (suc v) h fits =
    let whole : 2 ^ 128 ≡ 2 ^ w * 2 ^ (128 - w) = word_splits w h in
    let within : 2 ^ w ≤ 2 ^ 128 = below_word w h in
    let lacks : 0 + (2 ^ 128 - suc v) ≡ 2 ^ w * 2 ^ (128 - w) - 1 - v = omega arith in
    kept-kept 128 w (0 + (2 ^ 128 - suc v)) h ∙ same_number w (ap (λ (n : ℕ). n % 2 ^ w) lacks ∙ residue_down (2 ^ w) (2 ^ (128 - w)) v (pow_pos w) (omega arith))

difference_down : (w a b : ℕ) → w ≤ 128 → b < 2 ^ w → a < b → (a + (2 ^ 128 - b)) % 2 ^ w ≡ residue (pos a -ℤ pos b) (2 ^ w)
difference_down w a b h fits less =
    let whole : 2 ^ 128 ≡ 2 ^ w * 2 ^ (128 - w) = word_splits w h in
    let within : 2 ^ w ≤ 2 ^ 128 = below_word w h in
    let lacks : a + (2 ^ 128 - b) ≡ 2 ^ w * 2 ^ (128 - w) - 1 - (b - a - 1) = omega arith in
    let is : pos a -ℤ pos b ≡ negsuc (b - a - 1) = omega (arith, ints) in
    ap (λ (n : ℕ). n % 2 ^ w) lacks ∙ residue_down (2 ^ w) (2 ^ (128 - w)) (b - a - 1) (pow_pos w) (omega arith) ∙ sym (ap (λ z. residue z (2 ^ w)) is)

difference_up : (w a b : ℕ) → w ≤ 128 → b < 2 ^ w → b ≤ a → (a + (2 ^ 128 - b)) % 2 ^ w ≡ residue (pos a -ℤ pos b) (2 ^ w)
difference_up w a b h fits more =
    let whole : 2 ^ 128 ≡ 2 ^ w * 2 ^ (128 - w) = word_splits w h in
    let within : 2 ^ w ≤ 2 ^ 128 = below_word w h in
    let over : a + (2 ^ 128 - b) ≡ (a - b) + 2 ^ w * 2 ^ (128 - w) = omega arith in
    let is : pos a -ℤ pos b ≡ pos (a - b) = omega (arith, ints) in
    ap (λ (n : ℕ). n % 2 ^ w) over ∙ add-mul-mod_self_left (a - b) (2 ^ w) (2 ^ (128 - w)) ∙ sym (ap (λ z. residue z (2 ^ w)) is)

pub kept_difference : (w a b : ℕ) → w ≤ 128 → b < 2 ^ w → kept w ((a + (2 ^ 128 - b)) % 2 ^ 128) ≡ wrapped w (pos a -ℤ pos b)
kept_difference w a b h fits = kept-kept 128 w (a + (2 ^ 128 - b)) h ∙ same_number w (elim (cases_lt a b) [ inl less ↦ difference_down w a b h fits less | inr more ↦ difference_up w a b h fits more ])

-- joined numbers

pub joined_word : (w v l b : ℕ) → v < 2 ^ w → b < 2 ^ l → w + l ≤ 128 → kept (w + l) ((v * 2 ^ l % 2 ^ 128 + b) % 2 ^ 128) ≡ joined (record { width = w; value = v }) (record { width = l; value = b })
joined_word w v l b high low h =
    ap (kept (w + l)) (mod-add-mod (v * 2 ^ l) (2 ^ 128) b) ∙ kept-kept 128 (w + l) (v * 2 ^ l + b) h
    ∙ same_number (w + l) (mod-eq_of_lt (joined-fits (record { width = w; value = v }) (record { width = l; value = b }) high low))

pub repeated_once : (a : Number) → a ≡ repeated 1 a
unfolding repeated
repeated_once a =
    let w : a.width ≡ 0 + a.width = omega arith in
    let v : a.value ≡ 0 * 2 ^ a.width + a.value = omega arith in
    λ i. record { width = w i; value = v i }

-- the digits of one less
pub ceiling_log_is : (n : Number) (r : Number) → r ≡ kept 32 (128 - count_leading_zeros 128 (n.value - 1)) → 1 < n.value → n.value < 2 ^ 128 → IsCeilingLog n r.value
ceiling_log_is n r is some fits =
    let s = leading_length 128 (n.value - 1) (omega arith) in
    let m : ℕ = s.0 in
    let sum : count_leading_zeros 128 (n.value - 1) + m ≡ 128 = s.1 in
    let above : n.value - 1 < 2 ^ m = s.2 in
    let below : 2 ^ m ≤ 2 * (n.value - 1) + 1 = s.3 in
    let k : 128 - count_leading_zeros 128 (n.value - 1) ≡ m = omega arith in
    let value : r.value ≡ m = ap (λ (q : Number). q.value) is ∙ ap (λ (q : ℕ). q % 2 ^ 32) k ∙ mod-eq_of_lt (omega arith) in
    let halves : (j : ℕ) → n.value ≤ 2 ^ j → m ≤ j =
    (λ j h. elim (cases_lt j m) [
      | inr done ↦ done
      | inl less ↦
          (let twice : 2 ^ m ≡ 2 ^ (m - 1) * 2 = (let e : m ≡ (m - 1) + 1 = omega arith in ap (λ (q : ℕ). 2 ^ q) e ∙ pow-add 2 (m - 1) 1) in
          let up : 2 ^ j ≤ 2 ^ (m - 1) = pow-le-pow_right (omega arith) (omega arith) in
          let none : ⊥ = omega arith in absurd none)
    ]) in
    subst (λ (q : ℕ). IsCeilingLog n q) (sym value) (record { reaches = omega arith; least = halves })

-- shifts by 128 places and more leave nothing
pub kept_up_is_lost : (w v k : ℕ) → w ≤ 128 → 128 ≤ k → kept w 0 ≡ kept w (v * 2 ^ k)
kept_up_is_lost w v k h far = ap (kept w) (sym (up_is_lost v k far)) ∙ kept-kept 128 w (v * 2 ^ k) h

pub kept_down_is_lost : (w v k : ℕ) → v < 2 ^ w → w ≤ 128 → 128 ≤ k → kept w 0 ≡ kept w (v / 2 ^ k)
kept_down_is_lost w v k fits h far = ap (kept w) (sym (high_is_zero v w k fits (omega arith)))

pub log_of_little : (n : Number) → n.value ≤ 1 → kept 32 0 ≡ log_ceiling n
log_of_little n h =
    let none : n.value - 1 ≡ 0 = omega arith in
    sym (ap (λ (k : ℕ). kept 32 (128 - count_leading_zeros 128 k)) none ∙ ap (λ (k : ℕ). kept 32 (128 - k)) (leading_of_zero 128))
