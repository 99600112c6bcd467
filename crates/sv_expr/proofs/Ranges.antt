-- Widths that are counted up to 2^32 - 1 only, and replications.
use Rattle.std.proofs.Common.{◌≡◌, ◌≤◌, ◌<◌, ℕ, zero, suc, ◌-◌, ◌*◌, ◌^◌, min, Bool, true, false, cond, ◌&&◌, inl, inr, nat_le, Option, refl, sym, ap, ◌∙◌, arith, ℤ, pos, negsuc, ◌*ℤ◌}
use Rattle.std.specs.Prelude.{neg_ℤ}
use Rattle.std.proofs.lemmas.Bool.{cases_lt}
use Rattle.vs_base.specs.declared.origin.Origin.{Origin}
use Rattle.vs_base.specs.Number.{kept}
use Rattle.vs_base.specs.Operators.{truth}
use Rattle.sv_expr.specs.declared.fault.WalkFault.{WalkFault}
use Rattle.sv_expr.specs.declared.fault.WalkFault.TheVariants.{TooWide, BadRange}
use Rattle.sv_expr.specs.declared.typed.Typed.{Typed}
use Rattle.sv_expr.specs.Bound.{is_width, whole_part, ranged, refused, unsigned}

-- ---- a width that is counted up to a bound

-- what is more than 128 bits
pub too_wide : (at : Origin) (earlier : Option WalkFault) (n : ℕ) → 128 < n → ranged at earlier (pos n) ≡ refused earlier (TooWide at)
too_wide at earlier n wide =
    let some : nat_le (suc n) 1 ≡ false = grind arith in
    let most : nat_le n 128 ≡ false = grind arith in
    let good : Typed = record { kind = unsigned n; fault = earlier } in
    ap (λ b. cond b (refused earlier (BadRange at)) (cond (nat_le 1 n && nat_le n 128) good (refused earlier (TooWide at)))) some
    ∙ ap (λ b. cond (nat_le 1 n && b) good (refused earlier (TooWide at))) most
    ∙ never (nat_le 1 n) good (refused earlier (TooWide at))
  where
    never : (b : Bool) (x y : Typed) → cond (b && false) x y ≡ y
    never true x y = refl
    never false x y = refl

pub no_width : (n : ℕ) → 128 < n → is_width n ≡ false
no_width n wide = (let most : nat_le n 128 ≡ false = grind arith in ap (λ b. nat_le 1 n && b) most ∙ never (nat_le 1 n))
  where
    never : (b : Bool) → (b && false) ≡ false
    never true = refl
    never false = refl

pub bad_range : (at : Origin) (earlier : Option WalkFault) (n : ℕ) → ranged at earlier (neg_ℤ (pos n)) ≡ refused earlier (BadRange at)
bad_range at earlier zero = refl
bad_range at earlier (suc n) = refl

pub bad_width : (n : ℕ) → is_width (whole_part (neg_ℤ (pos n))) ≡ false
bad_width zero = refl
bad_width (suc n) = refl

more : (k w : ℕ) → w ≤ suc k * w
more k w = grind arith

pub ranged_capped : (at : Origin) (earlier : Option WalkFault) (count : ℤ) (w : ℕ) → ranged at earlier (count *ℤ pos (min w (2 ^ 32 - 1))) ≡ ranged at earlier (count *ℤ pos w)
ranged_capped at earlier (negsuc n) w = bad_range at earlier (suc n * min w (2 ^ 32 - 1)) ∙ sym (bad_range at earlier (suc n * w))
ranged_capped at earlier (pos zero) w = (let e : 0 * min w (2 ^ 32 - 1) ≡ 0 * w = omega arith in ap (λ (n : ℕ). ranged at earlier (pos n)) e)
ranged_capped at earlier (pos (suc k)) w = elim (cases_lt w (2 ^ 32)) [ inl low ↦ same low | inr high ↦ over high ]
  where
    same : w < 2 ^ 32 → ranged at earlier (pos (suc k) *ℤ pos (min w (2 ^ 32 - 1))) ≡ ranged at earlier (pos (suc k) *ℤ pos w)
    same low = (let e : min w (2 ^ 32 - 1) ≡ w = omega arith in ap (λ (n : ℕ). ranged at earlier (pos (suc k) *ℤ pos n)) e)

    over : 2 ^ 32 ≤ w → ranged at earlier (pos (suc k) *ℤ pos (min w (2 ^ 32 - 1))) ≡ ranged at earlier (pos (suc k) *ℤ pos w)
    over high =
        let a : min w (2 ^ 32 - 1) ≤ suc k * min w (2 ^ 32 - 1) = more k (min w (2 ^ 32 - 1)) in
        let b : w ≤ suc k * w = more k w in
        too_wide at earlier (suc k * min w (2 ^ 32 - 1)) (omega arith) ∙ sym (too_wide at earlier (suc k * w) (omega arith))

pub width_capped : (count : ℤ) (w : ℕ) → is_width (whole_part (count *ℤ pos (min w (2 ^ 32 - 1)))) ≡ is_width (whole_part (count *ℤ pos w))
width_capped (negsuc n) w = bad_width (suc n * min w (2 ^ 32 - 1)) ∙ sym (bad_width (suc n * w))
width_capped (pos zero) w = (let e : 0 * min w (2 ^ 32 - 1) ≡ 0 * w = omega arith in ap is_width e)
width_capped (pos (suc k)) w = elim (cases_lt w (2 ^ 32)) [ inl low ↦ same low | inr high ↦ over high ]
  where
    same : w < 2 ^ 32 → is_width (suc k * min w (2 ^ 32 - 1)) ≡ is_width (suc k * w)
    same low = (let e : min w (2 ^ 32 - 1) ≡ w = omega arith in ap (λ (n : ℕ). is_width (suc k * n)) e)

    over : 2 ^ 32 ≤ w → is_width (suc k * min w (2 ^ 32 - 1)) ≡ is_width (suc k * w)
    over high =
        let a : min w (2 ^ 32 - 1) ≤ suc k * min w (2 ^ 32 - 1) = more k (min w (2 ^ 32 - 1)) in
        let b : w ≤ suc k * w = more k w in
        no_width (suc k * min w (2 ^ 32 - 1)) (omega arith) ∙ sym (no_width (suc k * w) (omega arith))

-- ---- a count that gives a width

-- what a width is said of
pub record Counts (count : ℤ) (w : ℕ) : Type 0 where
  pub some : 1 ≤ whole_part count
  pub is : count ≡ pos (whole_part count)
  pub most : whole_part count * w ≤ 128
  pub wide : w ≤ 128
  pub few : whole_part count ≤ 128

width_some : (n : ℕ) → is_width n ≡ true → 1 ≤ n
width_some n h = grind arith

width_most : (n : ℕ) → is_width n ≡ true → n ≤ 128
width_most n h = grind arith

pub counts : (count : ℤ) (w : ℕ) → is_width (whole_part (count *ℤ pos w)) ≡ true → Counts count w
counts (negsuc n) w h = absurd (let none : false ≡ true = sym (bad_width (suc n * w)) ∙ h in cc)
counts (pos zero) w h = absurd (let some : 1 ≤ 0 * w = width_some (0 * w) h in omega arith)
counts (pos (suc k)) zero h = absurd (let some : 1 ≤ suc k * 0 = width_some (suc k * 0) h in omega arith)
counts (pos (suc k)) (suc w) h =
    let most : suc k * suc w ≤ 128 = width_most (suc k * suc w) h in
    let wide : suc w ≤ suc k * suc w = more k (suc w) in
    let few : suc k ≤ suc k * suc w = grind arith in
    record { some = omega arith; is = refl; most = most; wide = omega arith; few = omega arith }

-- ---- one bit of an answer

pub kept_truth : (b : Bool) → kept 1 (cond b 1 0) ≡ truth b
kept_truth true = refl
kept_truth false = refl
