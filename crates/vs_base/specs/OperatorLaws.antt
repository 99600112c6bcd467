-- Laws of the operators, for the proofs of this crate and of those above it.
use Rattle.std.proofs.Common.{◌≡◌, ℕ, zero, suc, ◌+◌, ◌*◌, ◌^◌, ◌<◌, ◌≤◌, Bool, true, false, refl, ap, ◌∙◌, arith, ℤ}
use Rattle.std.proofs.lemmas.Nat.{pow_pos, pow-add}
use Rattle.std.proofs.Math.Nat.{mul-le-mul_right}
use Rattle.vs_base.specs.Number.{Number, IsNumber}
use Rattle.vs_base.specs.NumberLaws.{residue-below}
use Rattle.vs_base.specs.Operators.{wrapped, inverted, truth, joined, repeated, IsCeilingLog}

-- what each operator gives is a number that a program can hold

pub wrapped-IsNumber : (w : ℕ) (z : ℤ) → 1 ≤ w → w ≤ 128 → IsNumber (wrapped w z)
wrapped-IsNumber w z some most = record { some = some; most = most; fits = residue-below z (2 ^ w) (pow_pos w) }

pub inverted-IsNumber : (a : Number) → IsNumber a → IsNumber (inverted a)
inverted-IsNumber a is =
    let some : 0 < 2 ^ a.width = pow_pos a.width in
    record { some = is.some; most = is.most; fits = omega arith }

pub truth-IsNumber : (holds : Bool) → IsNumber (truth holds)
truth-IsNumber true = record { some = omega arith; most = omega arith; fits = omega arith }
truth-IsNumber false = record { some = omega arith; most = omega arith; fits = omega arith }

pub joined-fits : (a b : Number) → a.value < 2 ^ a.width → b.value < 2 ^ b.width → (joined a b).value < 2 ^ (joined a b).width
joined-fits a b high low =
    let whole : 2 ^ (a.width + b.width) ≡ 2 ^ a.width * 2 ^ b.width = pow-add 2 a.width b.width in
    let up : (a.value + 1) * 2 ^ b.width ≤ 2 ^ a.width * 2 ^ b.width = mul-le-mul_right (2 ^ b.width) (omega arith) in
    omega arith

pub joined-IsNumber : (a b : Number) → IsNumber a → IsNumber b → a.width + b.width ≤ 128 → IsNumber (joined a b)
joined-IsNumber a b high low most =
    let some : 1 ≤ a.width = high.some in
    record { some = omega arith; most = most; fits = joined-fits a b high.fits low.fits }

-- repeated numbers

pub repeated-width : (times : ℕ) (a : Number) → (repeated times a).width ≡ times * a.width
unfolding repeated
repeated-width zero a = (let e : 0 ≡ 0 * a.width = omega arith in e)
repeated-width (suc times) a = ap (λ (n : ℕ). n + a.width) (repeated-width times a) ∙ omega arith

pub repeated_next : (times : ℕ) (a : Number) → repeated (suc times) a ≡ joined (repeated times a) a
unfolding repeated
repeated_next times a = refl

pub repeated-fits : (times : ℕ) (a : Number) → a.value < 2 ^ a.width → (repeated times a).value < 2 ^ (repeated times a).width
unfolding repeated
repeated-fits zero a fits = omega arith
repeated-fits (suc times) a fits = joined-fits (repeated times a) a (repeated-fits times a fits) fits

-- a number has one ceiling of its logarithm
pub ceiling_unique : (n : Number) (j k : ℕ) → IsCeilingLog n j → IsCeilingLog n k → j ≡ k
ceiling_unique n j k first second =
    let low : j ≤ k = first.least k second.reaches in
    let high : k ≤ j = second.least j first.reaches in
    omega arith
