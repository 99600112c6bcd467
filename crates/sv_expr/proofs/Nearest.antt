-- Numbers that are taken as the nearest one of 64 bits with a sign, where a width is asked of them.
use Rattle.std.proofs.Common.{◌≡◌, ◌≤◌, ◌<◌, ℕ, zero, suc, ◌+◌, ◌-◌, ◌*◌, ◌^◌, Bool, true, false, cond, ◌⊎◌, inl, inr, Option, refl, sym, ap, ◌∙◌, arith, ℤ, pos, negsuc, ◌+ℤ◌, ◌*ℤ◌, int_lt, nat_lt}
use Rattle.std.proofs.lemmas.Int.{ints}
use Rattle.vs_base.specs.declared.origin.Origin.{Origin}
use Rattle.vs_base.specs.WholeNumber.{nearest, least_word, greatest_word}
use Rattle.sv_expr.specs.declared.fault.WalkFault.{WalkFault}
use Rattle.sv_expr.specs.Bound.{is_width, whole_part, ranged}
use Rattle.sv_expr.proofs.Ranges.{too_wide, no_width, bad_range, bad_width}

-- ---- a number and the nearest one

pub record Near (z : ℤ) : Type 0 where
  pub same : (nearest z ≡ z) ⊎ ((nearest z ≡ least_word) × (int_lt z least_word ≡ true)) ⊎ ((nearest z ≡ greatest_word) × (int_lt greatest_word z ≡ true))

near : (z : ℤ) → Near z
near z = by (int_lt z least_word) refl (int_lt greatest_word z) refl
  where
    by : (low : Bool) → int_lt z least_word ≡ low → (high : Bool) → int_lt greatest_word z ≡ high → Near z
    by true low high h = record { same = inr (inl (ap (λ b. cond b least_word (cond (int_lt greatest_word z) greatest_word z)) low, low)) }
    by false low true h = record { same = inr (inr (ap (λ b. cond b least_word (cond (int_lt greatest_word z) greatest_word z)) low ∙ ap (λ b. cond b greatest_word z) h, h)) }
    by false low false h = record { same = inl (ap (λ b. cond b least_word (cond (int_lt greatest_word z) greatest_word z)) low ∙ ap (λ b. cond b greatest_word z) h) }

no_pos : (n : ℕ) → int_lt (pos n) least_word ≡ true → ⊥
no_pos n h = (let none : false ≡ true = h in cc)

no_neg : (n : ℕ) → int_lt greatest_word (negsuc n) ≡ true → ⊥
no_neg n h = (let none : false ≡ true = h in cc)

no_one : int_lt (negsuc 0) least_word ≡ true → ⊥
no_one h = (let none : false ≡ true = h in cc)

above_word : (n : ℕ) → int_lt greatest_word (pos n) ≡ true → 2 ^ 63 ≤ n
above_word n h = (let less : nat_lt (2 ^ 63 - 1) n ≡ true = h in grind arith)

one_up : (m : ℕ) → negsuc (suc m) +ℤ pos 1 ≡ negsuc m
one_up m = omega (arith, ints)

-- ---- a count, and a part from one index down to another

pub count_near : (at : Origin) (earlier : Option WalkFault) (z : ℤ) → ranged at earlier (nearest z) ≡ ranged at earlier z
count_near at earlier z = elim ((near z).same) [ inl same ↦ ap (ranged at earlier) same | inr far ↦ elim far [ inl low ↦ ap (ranged at earlier) low.0 ∙ below z low.1 | inr high ↦ ap (ranged at earlier) high.0 ∙ above z high.1 ] ]
  where
    below : (k : ℤ) → int_lt k least_word ≡ true → ranged at earlier least_word ≡ ranged at earlier k
    below (negsuc n) h = refl
    below (pos n) h = absurd (no_pos n h)

    above : (k : ℤ) → int_lt greatest_word k ≡ true → ranged at earlier greatest_word ≡ ranged at earlier k
    above (negsuc n) h = absurd (no_neg n h)
    above (pos n) h = (let far : 2 ^ 63 ≤ n = above_word n h in too_wide at earlier (2 ^ 63 - 1) (omega arith) ∙ sym (too_wide at earlier n (omega arith)))

pub down_near : (at : Origin) (earlier : Option WalkFault) (z : ℤ) → ranged at earlier (nearest z +ℤ pos 1) ≡ ranged at earlier (z +ℤ pos 1)
down_near at earlier z = elim ((near z).same) [ inl same ↦ ap (λ (k : ℤ). ranged at earlier (k +ℤ pos 1)) same | inr far ↦ elim far [ inl low ↦ ap (λ (k : ℤ). ranged at earlier (k +ℤ pos 1)) low.0 ∙ below z low.1 | inr high ↦ ap (λ (k : ℤ). ranged at earlier (k +ℤ pos 1)) high.0 ∙ above z high.1 ] ]
  where
    below : (k : ℤ) → int_lt k least_word ≡ true → ranged at earlier (least_word +ℤ pos 1) ≡ ranged at earlier (k +ℤ pos 1)
    below (negsuc zero) h = absurd (no_one h)
    below (negsuc (suc m)) h = sym (ap (ranged at earlier) (one_up m))
    below (pos n) h = absurd (no_pos n h)

    above : (k : ℤ) → int_lt greatest_word k ≡ true → ranged at earlier (greatest_word +ℤ pos 1) ≡ ranged at earlier (k +ℤ pos 1)
    above (negsuc n) h = absurd (no_neg n h)
    above (pos n) h = (let far : 2 ^ 63 ≤ n = above_word n h in too_wide at earlier (2 ^ 63) (omega arith) ∙ sym (too_wide at earlier (n + 1) (omega arith)))

-- ---- so many times a width

more : (k w : ℕ) → suc k ≤ suc k * suc w
more k w = grind arith

no_times : (k : ℕ) → k * 0 ≡ 0
no_times k = omega arith

far_times : (v : ℕ) → 128 < (2 ^ 63 - 1) * suc v
far_times v = (let least : 2 ^ 63 - 1 ≤ (2 ^ 63 - 1) * suc v = more (2 ^ 63 - 2) v in omega arith)

farther : (k v : ℕ) → 2 ^ 63 ≤ suc k → 128 < suc k * suc v
farther k v h = (let least : suc k ≤ suc k * suc v = more k v in omega arith)

pub times_near : (at : Origin) (earlier : Option WalkFault) (count : ℤ) (w : ℕ) → ranged at earlier (nearest count *ℤ pos w) ≡ ranged at earlier (count *ℤ pos w)
times_near at earlier count w = elim ((near count).same) [ inl same ↦ ap (λ (k : ℤ). ranged at earlier (k *ℤ pos w)) same | inr far ↦ elim far [ inl low ↦ ap (λ (k : ℤ). ranged at earlier (k *ℤ pos w)) low.0 ∙ below count low.1 | inr high ↦ ap (λ (k : ℤ). ranged at earlier (k *ℤ pos w)) high.0 ∙ above count w high.1 ] ]
  where
    below : (z : ℤ) → int_lt z least_word ≡ true → ranged at earlier (least_word *ℤ pos w) ≡ ranged at earlier (z *ℤ pos w)
    below (negsuc n) h = bad_range at earlier (2 ^ 63 * w) ∙ sym (bad_range at earlier (suc n * w))
    below (pos n) h = absurd (no_pos n h)

    above : (z : ℤ) (v : ℕ) → int_lt greatest_word z ≡ true → ranged at earlier (greatest_word *ℤ pos v) ≡ ranged at earlier (z *ℤ pos v)
    above (negsuc n) v h = absurd (no_neg n h)
    above (pos zero) v h = absurd (let far : 2 ^ 63 ≤ 0 = above_word 0 h in omega arith)
    above (pos (suc k)) zero h = sym (ap (λ (n : ℕ). ranged at earlier (pos n)) (no_times (suc k)))
    above (pos (suc k)) (suc v) h = too_wide at earlier ((2 ^ 63 - 1) * suc v) (far_times v) ∙ sym (too_wide at earlier (suc k * suc v) (farther k v (above_word (suc k) h)))

pub fits_near : (count : ℤ) (w : ℕ) → is_width (whole_part (nearest count *ℤ pos w)) ≡ is_width (whole_part (count *ℤ pos w))
fits_near count w = elim ((near count).same) [ inl same ↦ ap (λ (k : ℤ). is_width (whole_part (k *ℤ pos w))) same | inr far ↦ elim far [ inl low ↦ ap (λ (k : ℤ). is_width (whole_part (k *ℤ pos w))) low.0 ∙ below count low.1 | inr high ↦ ap (λ (k : ℤ). is_width (whole_part (k *ℤ pos w))) high.0 ∙ above count w high.1 ] ]
  where
    below : (z : ℤ) → int_lt z least_word ≡ true → is_width (whole_part (least_word *ℤ pos w)) ≡ is_width (whole_part (z *ℤ pos w))
    below (negsuc n) h = bad_width (2 ^ 63 * w) ∙ sym (bad_width (suc n * w))
    below (pos n) h = absurd (no_pos n h)

    above : (z : ℤ) (v : ℕ) → int_lt greatest_word z ≡ true → is_width (whole_part (greatest_word *ℤ pos v)) ≡ is_width (whole_part (z *ℤ pos v))
    above (negsuc n) v h = absurd (no_neg n h)
    above (pos zero) v h = absurd (let far : 2 ^ 63 ≤ 0 = above_word 0 h in omega arith)
    above (pos (suc k)) zero h = sym (ap is_width (no_times (suc k)))
    above (pos (suc k)) (suc v) h = no_width ((2 ^ 63 - 1) * suc v) (far_times v) ∙ sym (no_width (suc k * suc v) (farther k v (above_word (suc k) h)))
