-- Laws of values, for the proofs of this crate and of those above it.
use Rattle.std.proofs.Common.{◌≡◌, ℕ, ◌+◌, ◌-◌, ◌*◌, ◌/◌, ◌%◌, ◌^◌, ◌<◌, ◌≤◌, Bool, true, false, cond, refl, sym, ap, ◌∙◌, arith, ℤ, pos, negsuc, ◌-ℤ◌, ◌<ℤ◌, ◌≤ℤ◌, inl, inr}
use Rattle.std.specs.Prelude.{bit_and}
use Rattle.std.proofs.lemmas.Bool.{le-ltb, lt-ltb, cases_lt}
use Rattle.std.proofs.lemmas.Int.{ints}
use Rattle.std.specs.Int.RustNames.{unsigned_abs}
use Rattle.std.proofs.lemmas.Nat.{mod-mul-add, pow_pos, pow-add, mod_below, div-add-mod', div_below, and_comm}
use Rattle.std.proofs.Math.Nat.{pow-le-pow_right, div-eq_of_lt, mod-add-mod, add-mod-mod, mod-eq_of_lt}
use Rattle.std.proofs.Math.Pow.{mod-mod-pow}
use Rattle.vs_base.specs.Number.{Number, IsNumber, kept, residue, reading, signed_reading, extended, sliced, overwritten, topmost, placed, added, conjoined}

-- two values of one width are equal where their numbers are
pub same_number : (w : ℕ) {a b : ℕ} → a ≡ b → ◌≡◌ {A = Number} (record { width = w; value = a }) (record { width = w; value = b })
same_number w e = ap (λ (n : ℕ). let r : Number = record { width = w; value = n } in r) e

-- what is kept

pub kept-fits : (w x : ℕ) → (kept w x).value < 2 ^ w
kept-fits w x = mod_below x (2 ^ w) (pow_pos w)

pub kept-IsNumber : (w x : ℕ) → 1 ≤ w → w ≤ 128 → IsNumber (kept w x)
kept-IsNumber w x some most = record { some = some; most = most; fits = kept-fits w x }

-- a number that fits is kept as it is
pub kept-number : (n : Number) → n.value < 2 ^ n.width → kept n.width n.value ≡ n
kept-number n fits = same_number n.width (mod-eq_of_lt fits)

-- of what was kept in more bits the same is kept
pub kept-kept : (v w x : ℕ) → w ≤ v → kept w (x % 2 ^ v) ≡ kept w x
kept-kept v w x h =
    let e : v ≡ (v - w) + w = omega arith in
    same_number w (ap (λ (k : ℕ). x % 2 ^ k % 2 ^ w) e ∙ mod-mod-pow x (v - w) w)

-- what is kept of a sum looks only at what is kept of its parts
pub kept-sum_left : (w a b : ℕ) → kept w (a % 2 ^ w + b) ≡ kept w (a + b)
kept-sum_left w a b = same_number w (mod-add-mod a (2 ^ w) b)

pub kept-sum_right : (w a b : ℕ) → kept w (a + b % 2 ^ w) ≡ kept w (a + b)
kept-sum_right w a b = same_number w (add-mod-mod a b (2 ^ w))

-- signed readings, at a top bit of 1 and of 0

below_zero : (v b : ℕ) → v < b → pos v -ℤ pos b ≡ negsuc (b - v - 1)
below_zero v b h = omega (arith, ints)

pub signed_reading-negative : (n : Number) → n.value < 2 ^ n.width → 2 ^ (n.width - 1) ≤ n.value → signed_reading n ≡ negsuc (2 ^ n.width - n.value - 1)
signed_reading-negative n fits top = ap (λ b. cond b (pos n.value) (pos n.value -ℤ pos (2 ^ n.width))) (le-ltb n.value (2 ^ (n.width - 1)) top) ∙ below_zero n.value (2 ^ n.width) fits

pub signed_reading-positive : (n : Number) → n.value < 2 ^ (n.width - 1) → signed_reading n ≡ pos n.value
signed_reading-positive n low = ap (λ b. cond b (pos n.value) (pos n.value -ℤ pos (2 ^ n.width))) (lt-ltb n.value (2 ^ (n.width - 1)) low)

-- division by powers

-- nothing of a number of w bits stands at place k or above
pub high_is_zero : (v w k : ℕ) → v < 2 ^ w → w ≤ k → v / 2 ^ k ≡ 0
high_is_zero v w k fits h =
    let le : 2 ^ w ≤ 2 ^ k = pow-le-pow_right (omega arith) h in
    div-eq_of_lt (omega arith)

-- a number and what it lacks to a multiple of m, less 1

down_split : (m d a r : ℕ) → r < m → m * (a + 1 + d) - 1 - (a * m + r) ≡ d * m + (m - 1 - r)
down_split m d a r h = omega arith

-- from the top of a multiple of m, down
pub residue_down : (m q t : ℕ) → 0 < m → t < m * q → (m * q - 1 - t) % m ≡ m - 1 - t % m
residue_down m q t some below =
    let r : t % m < m = mod_below t m some in
    let whole : t / m * m + t % m ≡ t = div-add-mod' t m in
    let a : t / m < q = div_below t m q some (omega arith) in
    let d : ℕ = q - 1 - t / m in
    let up : t / m + 1 + d ≡ q = omega arith in
    let split : m * q - 1 - t ≡ d * m + (m - 1 - t % m) =
    ap (λ (n : ℕ). m * n - 1 - t) (sym up) ∙ ap (λ (n : ℕ). m * (t / m + 1 + d) - 1 - n) (sym whole) ∙ down_split m d (t / m) (t % m) r in
    ap (λ (n : ℕ). n % m) split ∙ mod-mul-add d m (m - 1 - t % m) (omega arith)

residue_from_top : (m q t : ℕ) → 0 < m → t < m * q → m - 1 - (m * q - 1 - t) % m ≡ t % m
residue_from_top m q t some below =
    let r : t % m < m = mod_below t m some in
    ap (λ (n : ℕ). m - 1 - n) (residue_down m q t some below) ∙ omega arith

-- other widths

pub residue-below : (z : ℤ) (m : ℕ) → 0 < m → residue z m < m
residue-below (pos a) m some = mod_below a m some
residue-below (negsuc a) m some = omega arith

pub extended-IsNumber : (n : Number) (w : ℕ) (signed : Bool) → 1 ≤ w → w ≤ 128 → IsNumber (extended n w signed)
extended-IsNumber n w signed some most = record { some = some; most = most; fits = residue-below (reading signed n) (2 ^ w) (pow_pos w) }

-- where the top bit is 0, an extension adds zeros
pub extended-positive : (n : Number) (w : ℕ) → n.value < 2 ^ (n.width - 1) → extended n w true ≡ kept w n.value
extended-positive n w low = same_number w (ap (λ z. residue z (2 ^ w)) (signed_reading-positive n low))

-- where the top bit is 1, it reads the same below the new top
pub extended-negative : (n : Number) (w : ℕ) → n.value < 2 ^ n.width → 2 ^ (n.width - 1) ≤ n.value → (extended n w true).value ≡ 2 ^ w - 1 - (2 ^ n.width - n.value - 1) % 2 ^ w
extended-negative n w fits top = ap (λ z. residue z (2 ^ w)) (signed_reading-negative n fits top)

narrow-negative : (n : Number) (w : ℕ) → n.value < 2 ^ n.width → w ≤ n.width → 2 ^ (n.width - 1) ≤ n.value → extended n w true ≡ kept w n.value
narrow-negative n w fits h top =
    let e : n.width ≡ w + (n.width - w) = omega arith in
    let whole : 2 ^ n.width ≡ 2 ^ w * 2 ^ (n.width - w) = ap (λ (k : ℕ). 2 ^ k) e ∙ pow-add 2 w (n.width - w) in
    let lacks : 2 ^ n.width - n.value - 1 ≡ 2 ^ w * 2 ^ (n.width - w) - 1 - n.value = omega arith in
    same_number w (extended-negative n w fits top ∙ ap (λ (k : ℕ). 2 ^ w - 1 - k % 2 ^ w) lacks
    ∙ residue_from_top (2 ^ w) (2 ^ (n.width - w)) n.value (pow_pos w) (omega arith))

-- to no more bits the value is cut, whatever its sign
pub extended-narrow : (n : Number) (w : ℕ) (signed : Bool) → n.value < 2 ^ n.width → w ≤ n.width → extended n w signed ≡ kept w n.value
extended-narrow n w false fits h = refl
extended-narrow n w true fits h =
    elim (cases_lt n.value (2 ^ (n.width - 1))) [ inl low ↦ extended-positive n w low | inr top ↦ narrow-negative n w fits h top ]

-- to its own width it stays
pub extended-same : (n : Number) (signed : Bool) → n.value < 2 ^ n.width → extended n n.width signed ≡ n
extended-same n signed fits = extended-narrow n n.width signed fits (omega arith) ∙ kept-number n fits

wide-positive : (n : Number) (w : ℕ) → n.width ≤ w → n.value < 2 ^ (n.width - 1) → signed_reading (extended n w true) ≡ signed_reading n
wide-positive n w h low =
    let half : 2 ^ (n.width - 1) ≤ 2 ^ (w - 1) = pow-le-pow_right (omega arith) (omega arith) in
    let whole : 2 ^ (w - 1) ≤ 2 ^ w = pow-le-pow_right (omega arith) (omega arith) in
    let same : n.value % 2 ^ w ≡ n.value = mod-eq_of_lt (omega arith) in
    ap signed_reading (extended-positive n w low ∙ same_number w same)
    ∙ signed_reading-positive (record { width = w; value = n.value }) (omega arith) ∙ sym (signed_reading-positive n low)

wide-negative : (n : Number) (w : ℕ) → IsNumber n → n.width ≤ w → 2 ^ (n.width - 1) ≤ n.value → signed_reading (extended n w true) ≡ signed_reading n
wide-negative n w is h top =
    let some : 1 ≤ n.width = is.some in
    let fits : n.value < 2 ^ n.width = is.fits in
    let half : 2 ^ (n.width - 1) ≤ 2 ^ (w - 1) = pow-le-pow_right (omega arith) (omega arith) in
    let twice : (k : ℕ) → 1 ≤ k → 2 ^ k ≡ 2 * 2 ^ (k - 1) = λ k s. (let e : k ≡ (k - 1) + 1 = omega arith in ap (λ (j : ℕ). 2 ^ j) e ∙ pow-add 2 (k - 1) 1 ∙ omega arith) in
    let here : 2 ^ n.width ≡ 2 * 2 ^ (n.width - 1) = twice n.width some in
    let there : 2 ^ w ≡ 2 * 2 ^ (w - 1) = twice w (omega arith) in
    let lacks : ℕ = 2 ^ n.width - n.value - 1 in
    let same : lacks % 2 ^ w ≡ lacks = mod-eq_of_lt (omega arith) in
    let e : Number = extended n w true in
    let is_value : e.value ≡ 2 ^ w - 1 - lacks = extended-negative n w fits top ∙ ap (λ (k : ℕ). 2 ^ w - 1 - k) same in
    let back : 2 ^ w - e.value - 1 ≡ lacks = omega arith in
    signed_reading-negative e (omega arith) (omega arith) ∙ ap negsuc back ∙ sym (signed_reading-negative n fits top)

-- in no fewer bits a signed value reads the same
pub signed_reading-wide : (n : Number) (w : ℕ) → IsNumber n → n.width ≤ w → signed_reading (extended n w true) ≡ signed_reading n
signed_reading-wide n w is h =
    elim (cases_lt n.value (2 ^ (n.width - 1))) [ inl low ↦ wide-positive n w h low | inr top ↦ wide-negative n w is h top ]

-- slices and placed parts

pub sliced-width : (n : Number) (at : ℤ) (w : ℕ) → (sliced n at w).width ≡ w
sliced-width n (pos at) w = refl
sliced-width n (negsuc at) w = refl

pub sliced-IsNumber : (n : Number) (at : ℤ) (w : ℕ) → 1 ≤ w → w ≤ 128 → IsNumber (sliced n at w)
sliced-IsNumber n (pos at) w some most = kept-IsNumber w (n.value / 2 ^ at) some most
sliced-IsNumber n (negsuc at) w some most = kept-IsNumber w (n.value * 2 ^ (at + 1)) some most

pub placed-width : (n : Number) (at : ℤ) (part : Number) → (placed n at part).width ≡ n.width
placed-width n (pos at) part = refl
placed-width n (negsuc at) part = refl

pub placed-IsNumber : (n : Number) (at : ℤ) (part : Number) → IsNumber n → IsNumber (placed n at part)
placed-IsNumber n (pos at) part is = record { some = is.some; most = is.most; fits = mod_below _ (2 ^ n.width) (pow_pos n.width) }
placed-IsNumber n (negsuc at) part is = record { some = is.some; most = is.most; fits = mod_below _ (2 ^ n.width) (pow_pos n.width) }

-- a place below 0 is so far below it, and any other so far above
pub sliced-below : (n : Number) (at : ℤ) (w : ℕ) → at <ℤ pos 0 → sliced n at w ≡ kept w (n.value * 2 ^ unsigned_abs at)
sliced-below n (pos a) w h = let none : ⊥ = omega (arith, ints) in absurd none
sliced-below n (negsuc a) w h = ap (λ (k : ℕ). kept w (n.value * 2 ^ k)) (omega arith)

pub sliced-above : (n : Number) (at : ℤ) (w : ℕ) → pos 0 ≤ℤ at → sliced n at w ≡ kept w (n.value / 2 ^ unsigned_abs at)
sliced-above n (pos a) w h = refl
sliced-above n (negsuc a) w h = let none : ⊥ = omega (arith, ints) in absurd none

pub placed-below : (n : Number) (at : ℤ) (part : Number) → at <ℤ pos 0 → placed n at part ≡ overwritten n 0 (topmost part (unsigned_abs at))
placed-below n (pos a) part h = let none : ⊥ = omega (arith, ints) in absurd none
placed-below n (negsuc a) part h = ap (λ (k : ℕ). overwritten n 0 (topmost part k)) (omega arith)

pub placed-above : (n : Number) (at : ℤ) (part : Number) → pos 0 ≤ℤ at → placed n at part ≡ overwritten n (unsigned_abs at) part
placed-above n (pos a) part h = refl
placed-above n (negsuc a) part h = let none : ⊥ = omega (arith, ints) in absurd none

-- sums and common bits

pub added-IsNumber : (a b : Number) → IsNumber a → IsNumber (added a b)
added-IsNumber a b is = kept-IsNumber a.width (a.value + b.value) is.some is.most

pub conjoined-IsNumber : (a b : Number) → IsNumber a → IsNumber (conjoined a b)
conjoined-IsNumber a b is = kept-IsNumber a.width (bit_and a.value b.value) is.some is.most

pub added_comm : (a b : Number) → a.width ≡ b.width → added a b ≡ added b a
added_comm a b same = ap (λ (w : ℕ). kept w (a.value + b.value)) same ∙ ap (kept b.width) (omega arith)

pub added_assoc : (a b d : Number) → a.width ≡ b.width → added (added a b) d ≡ added a (added b d)
added_assoc a b d same =
    let order : a.value + b.value + d.value ≡ a.value + (b.value + d.value) = omega arith in
    let first : kept a.width ((added a b).value + d.value) ≡ kept a.width (a.value + b.value + d.value) = kept-sum_left a.width (a.value + b.value) d.value in
    let second : kept a.width (a.value + (b.value + d.value) % 2 ^ a.width) ≡ kept a.width (a.value + (b.value + d.value)) = kept-sum_right a.width a.value (b.value + d.value) in
    first ∙ ap (kept a.width) order ∙ sym second ∙ ap (λ (w : ℕ). kept a.width (a.value + (b.value + d.value) % 2 ^ w)) same

pub conjoined_comm : (a b : Number) → a.width ≡ b.width → conjoined a b ≡ conjoined b a
conjoined_comm a b same = ap (λ (w : ℕ). kept w (bit_and a.value b.value)) same ∙ ap (kept b.width) (and_comm a.value b.value)
