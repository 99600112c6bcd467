-- Sets of nodes by bits.
use Rattle.std.proofs.Common.{◌≡◌, ◌+◌, ◌*◌, ◌/◌, ◌%◌, ◌^◌, ◌<◌, ◌≤◌, ◌==◌, ℕ, List, length, get_or, set, Bool, true, false, not, ◌&&◌, ◌||◌, sym, ap, ◌∙◌, inl, inr, ◌⊎◌, suc, ◌-◌, arith, get_or-set_same, get_or-set_other, pow-suc, Option, Some, None, MatchOption, replicate, bit_and, bit_or, max, cond, nat_lt}
use Rattle.std.specs.Int.{bit_at, bit_not, trailing_zeros, leading_zeros, w64}
use Rattle.std.proofs.lemmas.Bool.{cases_eq, cases_lt, eq-eqb, ne_eqb, lt-ltb, le-ltb}
use Rattle.std.proofs.lemmas.List.{get_or-replicate, get_or_past, length-replicate}
use Rattle.std.proofs.Math.Pow.{pow_mono}
use Rattle.std.proofs.lemmas.Nat.{pow_pos, shr-shr, shr_le, shr_split, div-mul-add, leading_top, one_shl, and_mask, mod_below}
use Rattle.std.proofs.lemmas.Nat.Bits.{bit_at_set_same, bit_at_set_other, bit_at_clear_same, bit_at_clear_other, bit_at-zero, bit_at-trailing_zeros, shr_and_one, bit_at_or, bit_at-lt, bit_at_above, bit_at_cat_low}
use Rattle.node_sets.specs.Sets.{is_member}

pub member_set_here : (words : List ℕ) (n m new : ℕ) → n / 64 < length words → m / 64 ≡ n / 64 → is_member (set words (n / 64) new) m ≡ (bit_at new (m % 64) == 1)
unfolding is_member
member_set_here words n m new within same = ap (λ w. bit_at w (m % 64) == 1) (ap (λ k. get_or (set words (n / 64) new) k 0) same ∙ get_or-set_same words (n / 64) new 0 within)

pub member_set_else : (words : List ℕ) (n m new : ℕ) → (m / 64 ≡ n / 64 → ⊥) → is_member (set words (n / 64) new) m ≡ is_member words m
unfolding is_member
member_set_else words n m new other = ap (λ w. bit_at w (m % 64) == 1) (get_or-set_other words (n / 64) (m / 64) new 0 other)

pub inserted : (words : List ℕ) (n m new : ℕ) → n / 64 < length words → new ≡ bit_or (get_or words (n / 64) 0) (1 * 2 ^ (n % 64) % 2 ^ 64)
    → is_member (set words (n / 64) new) m ≡ ((m == n) || is_member words m)
unfolding is_member
inserted words n m new within is = by_place (cases_eq (m / 64) (n / 64))
  where
    by_place : (m / 64 ≡ n / 64) ⊎ (m / 64 ≡ n / 64 → ⊥) → is_member (set words (n / 64) new) m ≡ ((m == n) || is_member words m)
    by_place (inr other) = member_set_else words n m new other ∙ sym (ap (λ (b : Bool). b || is_member words m) (ne_eqb m n (λ e. other (ap (λ k. k / 64) e))))
    by_place (inl same) = member_set_here words n m new within same ∙ by_number (cases_eq m n)
      where
        by_number : (m ≡ n) ⊎ (m ≡ n → ⊥) → (bit_at new (m % 64) == 1) ≡ ((m == n) || is_member words m)
        by_number (inl e) =
            ap (λ k. k == 1) (ap (λ w. bit_at w (m % 64)) is ∙ ap (λ k. bit_at (bit_or (get_or words (n / 64) 0) (1 * 2 ^ (n % 64) % 2 ^ 64)) (k % 64)) e ∙ bit_at_set_same w64 (get_or words (n / 64) 0) (n % 64) (omega arith))
            ∙ sym (ap (λ (b : Bool). b || is_member words m) (eq-eqb m n e))
        by_number (inr other) =
            ap (λ k. k == 1) (ap (λ w. bit_at w (m % 64)) is ∙ bit_at_set_other w64 (get_or words (n / 64) 0) (n % 64) (omega arith) (m % 64) (λ e. other (omega arith)) ∙ ap (λ k. bit_at (get_or words k 0) (m % 64)) (sym same))
            ∙ sym (ap (λ (b : Bool). b || is_member words m) (ne_eqb m n other))

pub removed : (words : List ℕ) (n m new : ℕ) → n / 64 < length words → new ≡ bit_and (get_or words (n / 64) 0) (bit_not w64 (1 * 2 ^ (n % 64) % 2 ^ 64))
    → is_member (set words (n / 64) new) m ≡ (not (m == n) && is_member words m)
unfolding is_member
removed words n m new within is = by_place (cases_eq (m / 64) (n / 64))
  where
    by_place : (m / 64 ≡ n / 64) ⊎ (m / 64 ≡ n / 64 → ⊥) → is_member (set words (n / 64) new) m ≡ (not (m == n) && is_member words m)
    by_place (inr other) = member_set_else words n m new other ∙ sym (ap (λ (b : Bool). not b && is_member words m) (ne_eqb m n (λ e. other (ap (λ k. k / 64) e))))
    by_place (inl same) = member_set_here words n m new within same ∙ by_number (cases_eq m n)
      where
        by_number : (m ≡ n) ⊎ (m ≡ n → ⊥) → (bit_at new (m % 64) == 1) ≡ (not (m == n) && is_member words m)
        by_number (inl e) =
            ap (λ k. k == 1) (ap (λ w. bit_at w (m % 64)) is ∙ ap (λ k. bit_at (bit_and (get_or words (n / 64) 0) (bit_not w64 (1 * 2 ^ (n % 64) % 2 ^ 64))) (k % 64)) e ∙ bit_at_clear_same w64 (get_or words (n / 64) 0) (n % 64) (omega arith))
            ∙ sym (ap (λ (b : Bool). not b && is_member words m) (eq-eqb m n e))
        by_number (inr other) =
            ap (λ k. k == 1) (ap (λ w. bit_at w (m % 64)) is ∙ bit_at_clear_other w64 (get_or words (n / 64) 0) (n % 64) (omega arith) (m % 64) (omega arith) (λ e. other (omega arith)) ∙ ap (λ k. bit_at (get_or words k 0) (m % 64)) (sym same))
            ∙ sym (ap (λ (b : Bool). not b && is_member words m) (ne_eqb m n other))

-- where a word is 0 it has no members
pub no_member : (words : List ℕ) (m : ℕ) → get_or words (m / 64) 0 ≡ 0 → is_member words m ≡ false
unfolding is_member
no_member words m none = ap (λ w. bit_at w (m % 64) == 1) none ∙ ap (λ k. k == 1) (bit_at-zero (m % 64))

pub none_in_zeros : (count m : ℕ) → is_member (replicate count 0) m ≡ false
none_in_zeros count m = no_member (replicate count 0) m (by_length (cases_lt (m / 64) count))
  where
    by_length : (m / 64 < count) ⊎ (count ≤ m / 64) → ◌≡◌ {A = ℕ} (get_or (replicate count 0) (m / 64) 0) 0
    by_length (inl less) = get_or-replicate count (m / 64) 0 0 less
    by_length (inr more) = get_or_past (replicate count 0) (m / 64) 0 (let len : length (replicate {A = ℕ} count 0) ≡ count = length-replicate count 0 in omega arith)

-- where all words from one on are 0 there are no members from there on
pub none_from : (words : List ℕ) (from : ℕ) → ((k : ℕ) → from ≤ k → k < length words → get_or words k 0 ≡ 0) → (m : ℕ) → 64 * from ≤ m → is_member words m ≡ false
none_from words from none m high = no_member words m (by_length (cases_lt (m / 64) (length words)))
  where
    by_length : (m / 64 < length words) ⊎ (length words ≤ m / 64) → get_or words (m / 64) 0 ≡ 0
    by_length (inl less) = none (m / 64) (omega arith) less
    by_length (inr more) = get_or_past words (m / 64) 0 more

-- the lowest bit of the first word from one on that is not 0 is the least member from there on
pub least_from : (words : List ℕ) (from i word n : ℕ) → from ≤ i → word ≡ get_or words i 0 → 0 < word → word < 2 ^ 64 → ((k : ℕ) → from ≤ k → k < i → get_or words k 0 ≡ 0) → n ≡ i * 64 + trailing_zeros w64 word
    → (64 * from ≤ n) × (is_member words n ≡ true) × ((m : ℕ) → 64 * from ≤ m → m < n → is_member words m ≡ false)
unfolding is_member
least_from words from i word n past is some fits before place =
    let bit = bit_at-trailing_zeros w64 word some fits in
    let low : n % 64 ≡ trailing_zeros w64 word = omega (arith, bit.0) in
    let at : n / 64 ≡ i = omega (arith, bit.0) in (
      omega arith,
      (λ j. bit_at (get_or words (at j) 0) (low j) == 1) ∙ ap (λ w. bit_at w (trailing_zeros w64 word) == 1) (sym is) ∙ ap (λ k. k == 1) bit.1,
      λ m high less. by_word m high less (cases_lt (m / 64) i),
    )
  where
    by_word : (m : ℕ) → 64 * from ≤ m → m < n → (m / 64 < i) ⊎ (i ≤ m / 64) → is_member words m ≡ false
    by_word m high less (inl lower) = no_member words m (before (m / 64) (omega arith) lower)
    by_word m high less (inr same) =
        let bit = bit_at-trailing_zeros w64 word some fits in
        let at : m / 64 ≡ i = omega (arith, bit.0) in
        let lower : m % 64 < trailing_zeros w64 word = omega (arith, bit.0) in
        ap (λ k. bit_at (get_or words k 0) (m % 64) == 1) at ∙ ap (λ w. bit_at w (m % 64) == 1) (sym is) ∙ ap (λ k. k == 1) (bit.2 (m % 64) lower)

-- ---- from the other end

-- where all words before one are 0 there are no members before it
pub none_below : (words : List ℕ) (end : ℕ) → ((k : ℕ) → k < end → get_or words k 0 ≡ 0) → (m : ℕ) → m < 64 * end → is_member words m ≡ false
none_below words end none m low = no_member words m (none (m / 64) (omega arith))

-- the place of the highest bit of a number
pub top_bit : (word j : ℕ) → 2 ^ j ≤ word → word < 2 ^ suc j → (bit_at word j ≡ 1) × ((i : ℕ) → j < i → bit_at word i ≡ 0)
top_bit word j low high =
    let two : 2 ^ suc j ≡ 2 ^ j * 2 = pow-suc 2 j in
    let one : word / 2 ^ j ≡ 1 = one_time (2 ^ j) low (omega arith) in
    (ap (λ k. k % 2) one, λ i above. bit_at_above word (suc j) i high (omega arith))
  where
    one_time : (p : ℕ) → p ≤ word → word < p * 2 → word / p ≡ 1
    one_time p least most = ap (λ k. k / p) (split p least) ∙ div-mul-add 1 p (word - p) (omega arith)
      where
        split : (p : ℕ) → p ≤ word → word ≡ 1 * p + (word - p)
        split p least = omega arith

-- the highest bit of the last word before one that is not 0 is the greatest member before it
pub greatest_below : (words : List ℕ) (end i word n : ℕ) → i < end → word ≡ get_or words i 0 → 0 < word → word < 2 ^ 64 → ((k : ℕ) → i < k → k < end → get_or words k 0 ≡ 0) → n ≡ i * 64 + (63 - leading_zeros w64 word)
    → (n < 64 * end) × (is_member words n ≡ true) × ((m : ℕ) → n < m → m < 64 * end → is_member words m ≡ false)
unfolding is_member
greatest_below words end i word n before is some fits after place = by_top (leading_top 64 word some fits)
  where
    by_top : (j : ℕ) × (leading_zeros w64 word + suc j ≡ 64) × (2 ^ j ≤ word) × (word < 2 ^ suc j) → (n < 64 * end) × (is_member words n ≡ true) × ((m : ℕ) → n < m → m < 64 * end → is_member words m ≡ false)
    by_top top =
        let j = top.0 in
        let sum = top.1 in
        let bit = top_bit word j top.2 top.3 in
        let low : n % 64 ≡ j = omega arith in
        let at : n / 64 ≡ i = omega arith in (
          omega arith,
          (λ x. bit_at (get_or words (at x) 0) (low x) == 1) ∙ ap (λ w. bit_at w j == 1) (sym is) ∙ ap (λ k. k == 1) bit.0,
          λ m above inside. by_word j at low bit.1 m above inside (cases_lt i (m / 64)),
        )
      where
        by_word : (j : ℕ) → n / 64 ≡ i → n % 64 ≡ j → ((x : ℕ) → j < x → bit_at word x ≡ 0) → (m : ℕ) → n < m → m < 64 * end → (i < m / 64) ⊎ (m / 64 ≤ i) → is_member words m ≡ false
        by_word j at low none m above inside (inl later) = no_member words m (after (m / 64) later (omega arith))
        by_word j at low none m above inside (inr here) =
            let same : m / 64 ≡ i = omega arith in
            let higher : j < m % 64 = omega arith in
            ap (λ k. bit_at (get_or words k 0) (m % 64) == 1) same ∙ ap (λ w. bit_at w (m % 64) == 1) (sym is) ∙ ap (λ k. k == 1) (none (m % 64) higher)

-- ---- within one word

-- the bits above one
above_bits : (word k j : ℕ) → bit_at (word / 2 ^ k / 2 ^ 1) j ≡ bit_at word (k + 1 + j)
above_bits word k j = ap (λ w. w / 2 ^ j % 2) (shr-shr word k 1) ∙ ap (λ w. w % 2) (shr-shr word (k + 1) j)

pub next_here : (words : List ℕ) (n word above : ℕ) → word ≡ get_or words (n / 64) 0 → above ≡ word / 2 ^ (n % 64) / 2 ^ 1 → 0 < above → word < 2 ^ 64
    → (trailing_zeros w64 above + (n % 64) < 63) × (is_member words (n + 1 + trailing_zeros w64 above) ≡ true) × ((m : ℕ) → n < m → m < n + 1 + trailing_zeros w64 above → is_member words m ≡ false)
unfolding is_member
next_here words n word above is shifted some fits =
    let low = shr_le word (n % 64) in
    let lower = shr_le (word / 2 ^ (n % 64)) 1 in
    let bit = bit_at-trailing_zeros w64 above some (omega arith) in
    let there : bit_at word ((n % 64) + 1 + trailing_zeros w64 above) ≡ 1 = sym (above_bits word (n % 64) (trailing_zeros w64 above)) ∙ ap (λ w. bit_at w (trailing_zeros w64 above)) (sym shifted) ∙ bit.1 in
    let inside = in_word ((n % 64) + 1 + trailing_zeros w64 above) there (cases_lt ((n % 64) + 1 + trailing_zeros w64 above) 64) in
    let at : (n + 1 + trailing_zeros w64 above) / 64 ≡ n / 64 = omega arith in
    let place : (n + 1 + trailing_zeros w64 above) % 64 ≡ (n % 64) + 1 + trailing_zeros w64 above = omega arith in (
      omega arith,
      (λ x. bit_at (get_or words (at x) 0) (place x) == 1) ∙ ap (λ w. bit_at w ((n % 64) + 1 + trailing_zeros w64 above) == 1) (sym is) ∙ ap (λ k. k == 1) there,
      λ m after less. none_at m after less inside bit.2,
    )
  where
    in_word : (k : ℕ) → bit_at word k ≡ 1 → (k < 64) ⊎ (64 ≤ k) → k < 64
    in_word k one (inl less) = less
    in_word k one (inr more) = absurd (let none = bit_at_above word 64 k fits more in omega arith)

    none_at : (m : ℕ) → n < m → m < n + 1 + trailing_zeros w64 above → (n % 64) + 1 + trailing_zeros w64 above < 64 → ((i : ℕ) → i < trailing_zeros w64 above → bit_at above i ≡ 0) → is_member words m ≡ false
    none_at m after less inside none =
        let same : m / 64 ≡ n / 64 = omega arith in
        let place : m % 64 ≡ (n % 64) + 1 + (m - n - 1) = omega arith in
        (λ x. bit_at (get_or words (same x) 0) (place x) == 1) ∙ ap (λ w. bit_at w ((n % 64) + 1 + (m - n - 1)) == 1) (sym is)
        ∙ ap (λ k. k == 1) (sym (above_bits word (n % 64) (m - n - 1)) ∙ ap (λ w. bit_at w (m - n - 1)) (sym shifted) ∙ none (m - n - 1) (omega arith))

-- where there is none in the word, none stands before the next word
pub none_here : (words : List ℕ) (n word m : ℕ) → word ≡ get_or words (n / 64) 0 → word / 2 ^ (n % 64) / 2 ^ 1 ≡ 0 → n < m → m < 64 * (n / 64 + 1) → is_member words m ≡ false
unfolding is_member
none_here words n word m is none after less =
    let same : m / 64 ≡ n / 64 = omega arith in
    let place : m % 64 ≡ (n % 64) + 1 + (m - n - 1) = omega arith in
    (λ x. bit_at (get_or words (same x) 0) (place x) == 1) ∙ ap (λ w. bit_at w ((n % 64) + 1 + (m - n - 1)) == 1) (sym is)
    ∙ ap (λ k. k == 1) (sym (above_bits word (n % 64) (m - n - 1)) ∙ ap (λ w. bit_at w (m - n - 1)) none ∙ bit_at-zero (m - n - 1))

-- the bits below one
below_bits : (word k j : ℕ) → j < k → bit_at (word % 2 ^ k) j ≡ bit_at word j
below_bits word k j less = sym (bit_at_cat_low (word / 2 ^ k) k (word % 2 ^ k) j less) ∙ ap (λ w. bit_at w j) (shr_split word k)

low_mask : (word k : ℕ) → k < 64 → bit_and word (1 * 2 ^ k % 2 ^ 64 - 1) ≡ word % 2 ^ k
low_mask word k less = ap (λ p. bit_and word (p - 1)) (one_shl k 64 less) ∙ and_mask word k

pub last_here : (words : List ℕ) (n word below : ℕ) → word ≡ get_or words (n / 64) 0 → below ≡ bit_and word (1 * 2 ^ (n % 64) % 2 ^ 64 - 1) → 0 < below → word < 2 ^ 64
    → (n / 64 * 64 + (63 - leading_zeros w64 below) < n) × (is_member words (n / 64 * 64 + (63 - leading_zeros w64 below)) ≡ true) × ((m : ℕ) → n / 64 * 64 + (63 - leading_zeros w64 below) < m → m < n → is_member words m ≡ false)
unfolding is_member
last_here words n word below is masked some fits =
    let reduced : below ≡ word % 2 ^ (n % 64) = masked ∙ low_mask word (n % 64) (omega arith) in
    let small = mod_below word (2 ^ (n % 64)) (pow_pos (n % 64)) in
    let grown = pow_mono {i = n % 64} {j = 64} (omega arith) in
    by_top reduced (omega arith) (leading_top 64 below some (omega arith))
  where
    by_top : below ≡ word % 2 ^ (n % 64) → below < 2 ^ (n % 64) → (j : ℕ) × (leading_zeros w64 below + suc j ≡ 64) × (2 ^ j ≤ below) × (below < 2 ^ suc j)
        → (n / 64 * 64 + (63 - leading_zeros w64 below) < n) × (is_member words (n / 64 * 64 + (63 - leading_zeros w64 below)) ≡ true) × ((m : ℕ) → n / 64 * 64 + (63 - leading_zeros w64 below) < m → m < n → is_member words m ≡ false)
    by_top reduced small top =
        let j = top.0 in
        let sum = top.1 in
        let bit = top_bit below j top.2 top.3 in
        let lower : j < n % 64 = by_order (cases_lt j (n % 64)) in
        let at : (n / 64 * 64 + (63 - leading_zeros w64 below)) / 64 ≡ n / 64 = omega arith in
        let place : (n / 64 * 64 + (63 - leading_zeros w64 below)) % 64 ≡ j = omega arith in (
          omega arith,
          (λ x. bit_at (get_or words (at x) 0) (place x) == 1) ∙ ap (λ w. bit_at w j == 1) (sym is) ∙ ap (λ k. k == 1) (sym (below_bits word (n % 64) j lower) ∙ ap (λ w. bit_at w j) (sym reduced) ∙ bit.0),
          λ m above less. none_at j sum lower bit.1 m above less,
        )
      where
        by_order : (top.0 < n % 64) ⊎ (n % 64 ≤ top.0) → top.0 < n % 64
        by_order (inl less) = less
        by_order (inr more) = absurd (let p = pow_mono {i = n % 64} {j = top.0} more in let q = top.2 in omega arith)

        none_at : (j : ℕ) → leading_zeros w64 below + suc j ≡ 64 → j < n % 64 → ((i : ℕ) → j < i → bit_at below i ≡ 0) → (m : ℕ) → n / 64 * 64 + (63 - leading_zeros w64 below) < m → m < n → is_member words m ≡ false
        none_at j sum lower none m above less =
            let same : m / 64 ≡ n / 64 = omega arith in
            let place : j < m % 64 = omega arith in
            ap (λ k. bit_at (get_or words k 0) (m % 64) == 1) same ∙ ap (λ w. bit_at w (m % 64) == 1) (sym is)
            ∙ ap (λ k. k == 1) (sym (below_bits word (n % 64) (m % 64) (omega arith)) ∙ ap (λ w. bit_at w (m % 64)) (sym reduced) ∙ none (m % 64) place)

pub none_lower : (words : List ℕ) (n word m : ℕ) → word ≡ get_or words (n / 64) 0 → bit_and word (1 * 2 ^ (n % 64) % 2 ^ 64 - 1) ≡ 0 → 64 * (n / 64) ≤ m → m < n → is_member words m ≡ false
unfolding is_member
none_lower words n word m is none high less =
    let same : m / 64 ≡ n / 64 = omega arith in
    let lower : m % 64 < n % 64 = omega arith in
    let reduced : word % 2 ^ (n % 64) ≡ 0 = sym (low_mask word (n % 64) (omega arith)) ∙ none in
    ap (λ k. bit_at (get_or words k 0) (m % 64) == 1) same ∙ ap (λ w. bit_at w (m % 64) == 1) (sym is)
    ∙ ap (λ k. k == 1) (sym (below_bits word (n % 64) (m % 64) lower) ∙ ap (λ w. bit_at w (m % 64)) reduced ∙ bit_at-zero (m % 64))

-- the bit that is looked at
pub bit_tells : (words : List ℕ) (n word : ℕ) → word ≡ get_or words (n / 64) 0 → (bit_and (word / 2 ^ (n % 64)) 1 == 1) ≡ is_member words n
unfolding is_member
bit_tells words n word is = ap (λ k. k == 1) (shr_and_one word (n % 64) ∙ ap (λ w. bit_at w (n % 64)) is)

-- ---- the numbers of another set

either_bit : (x y : ℕ) → x < 2 → y < 2 → (max x y == 1) ≡ ((x == 1) || (y == 1))
either_bit x y low high = by_x (cases_eq x 1) (cases_eq y 1)
  where
    by_x : (x ≡ 1) ⊎ (x ≡ 1 → ⊥) → (y ≡ 1) ⊎ (y ≡ 1 → ⊥) → (max x y == 1) ≡ ((x == 1) || (y == 1))
    by_x (inl e) f = eq-eqb (max x y) 1 (omega arith) ∙ sym (ap (λ (b : Bool). b || (y == 1)) (eq-eqb x 1 e))
    by_x (inr d) (inl f) = eq-eqb (max x y) 1 (omega arith) ∙ sym (ap (λ (b : Bool). b || (y == 1)) (ne_eqb x 1 d) ∙ eq-eqb y 1 f)
    by_x (inr d) (inr f) = ne_eqb (max x y) 1 (λ e. omega (arith, d, f)) ∙ sym (ap (λ (b : Bool). b || (y == 1)) (ne_eqb x 1 d) ∙ ne_eqb y 1 f)

-- so far the words up to a place are joined
abbrev pub JoinedUpTo : ℕ → List ℕ → List ℕ → List ℕ → Type 0
JoinedUpTo i old other now = (k : ℕ) → get_or now k 0 ≡ cond (nat_lt k i) (bit_or (get_or old k 0) (get_or other k 0)) (get_or old k 0)

pub joined_more : (i : ℕ) (old other now : List ℕ) (new : ℕ) → i < length now → JoinedUpTo i old other now → new ≡ bit_or (get_or now i 0) (get_or other i 0) → JoinedUpTo (i + 1) old other (set now i new)
joined_more i old other now new within so_far is k = by_eq (cases_eq k i)
  where
    by_eq : (k ≡ i) ⊎ (k ≡ i → ⊥) → get_or (set now i new) k 0 ≡ cond (nat_lt k (i + 1)) (bit_or (get_or old k 0) (get_or other k 0)) (get_or old k 0)
    by_eq (inl e) =
        ap (λ j. get_or (set now i new) j 0) e ∙ get_or-set_same now i new 0 within ∙ is
        ∙ ap (λ w. bit_or w (get_or other i 0)) (so_far i ∙ ap (λ (b : Bool). cond b (bit_or (get_or old i 0) (get_or other i 0)) (get_or old i 0)) (le-ltb i i (omega arith)))
        ∙ ap (λ j. bit_or (get_or old j 0) (get_or other j 0)) (sym e)
        ∙ sym (ap (λ (b : Bool). cond b (bit_or (get_or old k 0) (get_or other k 0)) (get_or old k 0)) (lt-ltb k (i + 1) (omega arith)))
    by_eq (inr apart) =
        get_or-set_other now i k new 0 apart ∙ so_far k
        ∙ ap (λ (b : Bool). cond b (bit_or (get_or old k 0) (get_or other k 0)) (get_or old k 0)) (same (cases_lt k i))
      where
        same : (k < i) ⊎ (i ≤ k) → nat_lt k i ≡ nat_lt k (i + 1)
        same (inl less) = lt-ltb k i less ∙ sym (lt-ltb k (i + 1) (omega arith))
        same (inr more) = le-ltb k i more ∙ sym (le-ltb k (i + 1) (omega (arith, apart)))

pub all_added : (i : ℕ) (old other now : List ℕ) → length old ≤ i → length other ≤ i → JoinedUpTo i old other now → (m : ℕ) → is_member now m ≡ (is_member old m || is_member other m)
unfolding is_member
all_added i old other now end_old end_other joined m =
    ap (λ w. bit_at w (m % 64) == 1) (joined (m / 64) ∙ whole (cases_lt (m / 64) i))
    ∙ ap (λ k. k == 1) (bit_at_or (get_or old (m / 64) 0) (get_or other (m / 64) 0) (m % 64))
    ∙ either_bit (bit_at (get_or old (m / 64) 0) (m % 64)) (bit_at (get_or other (m / 64) 0) (m % 64)) (bit_at-lt (get_or old (m / 64) 0) (m % 64)) (bit_at-lt (get_or other (m / 64) 0) (m % 64))
  where
    whole : (m / 64 < i) ⊎ (i ≤ m / 64) → cond (nat_lt (m / 64) i) (bit_or (get_or old (m / 64) 0) (get_or other (m / 64) 0)) (get_or old (m / 64) 0) ≡ bit_or (get_or old (m / 64) 0) (get_or other (m / 64) 0)
    whole (inl less) = ap (λ (b : Bool). cond b (bit_or (get_or old (m / 64) 0) (get_or other (m / 64) 0)) (get_or old (m / 64) 0)) (lt-ltb (m / 64) i less)
    whole (inr more) =
        let none : get_or old (m / 64) 0 ≡ 0 = get_or_past old (m / 64) 0 (omega arith) in
        let none_there : get_or other (m / 64) 0 ≡ 0 = get_or_past other (m / 64) 0 (omega arith) in
        ap (λ (b : Bool). cond b (bit_or (get_or old (m / 64) 0) (get_or other (m / 64) 0)) (get_or old (m / 64) 0)) (le-ltb (m / 64) i more) ∙ none
        ∙ sym ((λ j. bit_or (none j) (none_there j)))

-- ---- a word, and then the words behind it or before it

abbrev pub IsNext : List ℕ → ℕ → Option ℕ → Type 0
IsNext words n r = MatchOption r ((m : ℕ) → n < m → is_member words m ≡ false) (λ k. (n < k) × (is_member words k ≡ true) × ((m : ℕ) → n < m → m < k → is_member words m ≡ false))

abbrev pub IsFirstFrom : List ℕ → ℕ → Option ℕ → Type 0
IsFirstFrom words from r = MatchOption r ((m : ℕ) → 64 * from ≤ m → is_member words m ≡ false) (λ n. (64 * from ≤ n) × (is_member words n ≡ true) × ((m : ℕ) → 64 * from ≤ m → m < n → is_member words m ≡ false))

pub next_behind : (words : List ℕ) (n : ℕ) (r : Option ℕ) → ((m : ℕ) → n < m → m < 64 * (n / 64 + 1) → is_member words m ≡ false) → IsFirstFrom words (n / 64 + 1) r → IsNext words n r
next_behind words n None here found = λ m after. by_word m after (cases_lt m (64 * (n / 64 + 1)))
  where
    by_word : (m : ℕ) → n < m → (m < 64 * (n / 64 + 1)) ⊎ (64 * (n / 64 + 1) ≤ m) → is_member words m ≡ false
    by_word m after (inl less) = here m after less
    by_word m after (inr more) = found m more
next_behind words n (Some k) here found = (let low = found.0 in omega arith, found.1, λ m after less. by_word m after less (cases_lt m (64 * (n / 64 + 1))))
  where
    by_word : (m : ℕ) → n < m → m < k → (m < 64 * (n / 64 + 1)) ⊎ (64 * (n / 64 + 1) ≤ m) → is_member words m ≡ false
    by_word m after less (inl lower) = here m after lower
    by_word m after less (inr more) = found.2 m more less

abbrev pub IsBefore : List ℕ → ℕ → Option ℕ → Type 0
IsBefore words n r = MatchOption r ((m : ℕ) → m < n → is_member words m ≡ false) (λ k. (k < n) × (is_member words k ≡ true) × ((m : ℕ) → k < m → m < n → is_member words m ≡ false))

abbrev pub IsLastBelow : List ℕ → ℕ → Option ℕ → Type 0
IsLastBelow words end r = MatchOption r ((m : ℕ) → m < 64 * end → is_member words m ≡ false) (λ n. (n < 64 * end) × (is_member words n ≡ true) × ((m : ℕ) → n < m → m < 64 * end → is_member words m ≡ false))

pub before_it : (words : List ℕ) (n : ℕ) (r : Option ℕ) → ((m : ℕ) → 64 * (n / 64) ≤ m → m < n → is_member words m ≡ false) → IsLastBelow words (n / 64) r → IsBefore words n r
before_it words n None here found = λ m less. by_word m less (cases_lt m (64 * (n / 64)))
  where
    by_word : (m : ℕ) → m < n → (m < 64 * (n / 64)) ⊎ (64 * (n / 64) ≤ m) → is_member words m ≡ false
    by_word m less (inl lower) = found m lower
    by_word m less (inr more) = here m more less
before_it words n (Some k) here found = (let low = found.0 in omega arith, found.1, λ m after less. by_word m after less (cases_lt m (64 * (n / 64))))
  where
    by_word : (m : ℕ) → k < m → m < n → (m < 64 * (n / 64)) ⊎ (64 * (n / 64) ≤ m) → is_member words m ≡ false
    by_word m after less (inl lower) = found.2 m after lower
    by_word m after less (inr more) = here m more less
