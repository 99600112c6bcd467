-- Codes: their first character and the rest, and how long they are.
use Rattle.std.proofs.Common.{◌≡◌, ℕ, zero, suc, ◌+◌, ◌-◌, ◌*◌, ◌/◌, ◌%◌, ◌^◌, ◌<◌, ◌≤◌, List, [], ◌∷◌, ◌++◌, length, append_assoc, Bool, true, false, cond, ltb, refl, sym, ◌∙◌, ap, subst, arith, lit<, lit≤}
use Rattle.std.proofs.lemmas.Bool.{false_from_ne_true, ltb-true, ltb-false}
use Rattle.std.proofs.Math.Nat.{div-lt_iff_lt-mul, pow-suc}
use Rattle.vcd_out.specs.Code.{code_within, code_of}

-- a code, from what stands after its first character
abbrev code_by : ℕ → Bool → List ℕ → List ℕ
code_by k b more = (33 + k % 94) ∷ cond b [] more

by_more : (k : ℕ) (b : Bool) → ltb k 94 ≡ b → (xs ys : List ℕ) → (94 ≤ k → xs ≡ ys) → code_by k b xs ≡ code_by k b ys
by_more k true e xs ys same = refl
by_more k false e xs ys same = ap (λ (more : List ℕ). (33 + k % 94) ∷ more) (same (ltb-false k 94 e))

-- enough characters are enough
more_is_the_same : (m n k : ℕ) → k < m → k < n → code_within m k ≡ code_within n k
more_is_the_same zero n k h g = absurd (omega arith)
more_is_the_same (suc m) zero k h g = absurd (omega arith)
more_is_the_same (suc m) (suc n) k h g =
    by_more k (ltb k 94) refl (code_within m (k / 94 - 1)) (code_within n (k / 94 - 1)) (λ big. more_is_the_same m n (k / 94 - 1) (omega arith) (omega arith))

-- what stands after the first character
abbrev pub code_after : ℕ → List ℕ
code_after k = cond (ltb k 94) [] (code_of (k / 94 - 1))

-- the code of k is the character 33 + k modulo 94, and from 94 on the code of k / 94 - 1 after it
pub code_of-is : (k : ℕ) → code_of k ≡ (33 + k % 94) ∷ code_after k
unfolding code_of
code_of-is k = by_more k (ltb k 94) refl (code_within k (k / 94 - 1)) (code_within (suc (k / 94 - 1)) (k / 94 - 1)) (λ big. more_is_the_same k (suc (k / 94 - 1)) (k / 94 - 1) (omega arith) (omega arith))

length_by : (k most : ℕ) (b : Bool) → ltb k 94 ≡ b → (more : List ℕ) → (94 ≤ k → length more ≤ most) → length (code_by k b more) ≤ suc most
length_by k most true e more short = omega arith
length_by k most false e more short = let s = short (ltb-false k 94 e) in omega arith

short_within : (n most k : ℕ) → k < 94 ^ suc most → length (code_within n k) ≤ suc most
short_within zero most k h = omega arith
short_within (suc n) zero k h =
    let low : k < 94 = subst (λ (top : ℕ). k < top) (let one : 94 ^ suc zero ≡ 94 = refl in one) h in
    length_by k 0 (ltb k 94) refl (code_within n (k / 94 - 1)) (λ big. absurd (omega arith))
short_within (suc n) (suc most) k h =
    length_by k (suc most) (ltb k 94) refl (code_within n (k / 94 - 1)) (λ big.
    let grows : 94 ^ suc (suc most) ≡ 94 ^ suc most * 94 = pow-suc 94 (suc most) in
    let below : k / 94 < 94 ^ suc most = (div-lt_iff_lt-mul {k = 94} {x = k} {y = 94 ^ suc most} (lit< tt)).1 (subst (λ (top : ℕ). k < top) grows h) in
    short_within n most (k / 94 - 1) (omega arith))

-- a code of a number of 64 bits has at most ten characters
pub length-code_of : (k : ℕ) → k < 2 ^ 64 → length (code_of k) ≤ 10
unfolding code_of
length-code_of k h =
    let wide : 2 ^ 64 ≤ 94 ^ 10 = lit≤ tt in
    short_within (suc k) 9 k (omega (arith, wide))

-- ---- a code is written, character by character

not_below : (k : ℕ) → 94 ≤ k → ltb k 94 ≡ false
not_below k big = false_from_ne_true (ltb k 94) (λ e. let small : k < 94 = ltb-true k 94 e in omega arith)

pub code_starts : (text : List ℕ) (k : ℕ) → (text ++ (33 + k % 94) ∷ []) ++ code_after k ≡ text ++ code_of k
code_starts text k = append_assoc text ((33 + k % 94) ∷ []) (code_after k) ∙ ap (λ (c : List ℕ). text ++ c) (sym (code_of-is k))

opened : (k : ℕ) → 94 ≤ k → code_after k ≡ code_of (k / 94 - 1)
opened k big = ap (λ (b : Bool). cond b [] (code_of (k / 94 - 1))) (not_below k big)

pub code_goes : (text : List ℕ) (k next : ℕ) → 94 ≤ k → next ≡ k / 94 - 1 → (text ++ (33 + next % 94) ∷ []) ++ code_after next ≡ text ++ code_after k
code_goes text k next big is = code_starts text next ∙ ap (λ (c : List ℕ). text ++ c) (ap code_of is ∙ sym (opened k big))

-- what is left of it
pub left_of_start : (k : ℕ) → k < 2 ^ 64 → 1 + length (code_after k) ≤ 10
left_of_start k h =
    let short = length-code_of k h in
    let e = ap length (code_of-is k) in
    omega arith

pub left_of_next : (k next : ℕ) → 94 ≤ k → next ≡ k / 94 - 1 → length (code_after k) ≡ 1 + length (code_after next)
left_of_next k next big is =
    let e = ap length (ap code_of is ∙ sym (opened k big)) in
    let f = ap length (code_of-is next) in
    omega arith
