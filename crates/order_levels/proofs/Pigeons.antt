-- A list of different numbers below a bound is no longer than the bound.
use Rattle.std.proofs.Common.{◌≡◌, ◌≤◌, ◌==◌, ℕ, zero, suc, List, [], ◌∷◌, ◌++◌, length, Bool, true, false, not, cond, ◌&&◌, nat_lt, refl, sym, ap, ◌∙◌, inl, inr, ◌⊎◌, arith}
use Rattle.std.specs.List.{filter}
use Rattle.std.proofs.lemmas.Bool.{cases_eq, eq-eqb, ne_eqb, and_parts, and_from, not-true, not_from_false, ltb-true, lt-ltb, or_parts, or_from}
use Rattle.plan_graph.specs.Graphs.{is_among}
use Rattle.order_levels.specs.Sets.{all_below}
use Rattle.order_levels.proofs.EdgeLemmas.{among_push}

abbrev pub is_distinct : List ℕ → Bool
is_distinct [] = true
is_distinct (x ∷ xs) = not (is_among x xs) && is_distinct xs

abbrev without : ℕ → List ℕ → List ℕ
without n xs = filter (λ m. not (m == n)) xs

without_none : (n : ℕ) (xs : List ℕ) → is_among n xs ≡ false → without n xs ≡ xs
without_none n [] none = refl
without_none n (x ∷ xs) none =
    let parts = or_parts (x == n) (is_among n xs) none in
    ap (λ (b : Bool). cond (not b) (x ∷ without n xs) (without n xs)) parts.0 ∙ ap (λ (ys : List ℕ). x ∷ ys) (without_none n xs parts.1)

one_less : (n : ℕ) (xs : List ℕ) → is_distinct xs ≡ true → length xs ≤ suc (length (without n xs))
one_less n [] distinct = omega arith
one_less n (x ∷ xs) distinct = by_eq (one_less n xs (and_parts (not (is_among x xs)) (is_distinct xs) distinct).1) (cases_eq x n)
  where
    parts : (not (is_among x xs) ≡ true) × (is_distinct xs ≡ true)
    parts = and_parts (not (is_among x xs)) (is_distinct xs) distinct

    by_eq : length xs ≤ suc (length (without n xs)) → (x ≡ n) ⊎ (x ≡ n → ⊥) → suc (length xs) ≤ suc (length (cond (not (x == n)) (x ∷ without n xs) (without n xs)))
    by_eq others (inl e) =
        let none : is_among n xs ≡ false = ap (λ k. is_among k xs) (sym e) ∙ not-true (is_among x xs) parts.0 in
        let same = ap length (ap (λ (b : Bool). cond (not b) (x ∷ without n xs) (without n xs)) (eq-eqb x n e) ∙ without_none n xs none) in
        omega arith
    by_eq others (inr other) =
        let more = ap length (ap (λ (b : Bool). cond (not b) (x ∷ without n xs) (without n xs)) (ne_eqb x n other)) in
        omega arith

not_among_without : (n x : ℕ) (xs : List ℕ) → is_among x xs ≡ false → is_among x (without n xs) ≡ false
not_among_without n x [] none = refl
not_among_without n x (y ∷ xs) none = by_test (not_among_without n x xs (or_parts (y == x) (is_among x xs) none).1) (not (y == n))
  where
    parts : ((y == x) ≡ false) × (is_among x xs ≡ false)
    parts = or_parts (y == x) (is_among x xs) none

    by_test : is_among x (without n xs) ≡ false → (b : Bool) → is_among x (cond b (y ∷ without n xs) (without n xs)) ≡ false
    by_test others true = or_from (y == x) (is_among x (without n xs)) parts.0 others
    by_test others false = others

distinct_without : (n : ℕ) (xs : List ℕ) → is_distinct xs ≡ true → is_distinct (without n xs) ≡ true
distinct_without n [] distinct = refl
distinct_without n (x ∷ xs) distinct = by_test (distinct_without n xs (and_parts (not (is_among x xs)) (is_distinct xs) distinct).1) (not (x == n))
  where
    parts : (not (is_among x xs) ≡ true) × (is_distinct xs ≡ true)
    parts = and_parts (not (is_among x xs)) (is_distinct xs) distinct

    by_test : is_distinct (without n xs) ≡ true → (b : Bool) → is_distinct (cond b (x ∷ without n xs) (without n xs)) ≡ true
    by_test others true =
        and_from (not (is_among x (without n xs))) (is_distinct (without n xs))
        (not_from_false (is_among x (without n xs)) (not_among_without n x xs (not-true (is_among x xs) parts.0))) others
    by_test others false = others

below_without : (n : ℕ) (xs : List ℕ) → all_below (suc n) xs ≡ true → all_below n (without n xs) ≡ true
below_without n [] below = refl
below_without n (x ∷ xs) below = by_eq (below_without n xs (and_parts (nat_lt x (suc n)) (all_below (suc n) xs) below).1) (cases_eq x n)
  where
    parts : (nat_lt x (suc n) ≡ true) × (all_below (suc n) xs ≡ true)
    parts = and_parts (nat_lt x (suc n)) (all_below (suc n) xs) below

    by_eq : all_below n (without n xs) ≡ true → (x ≡ n) ⊎ (x ≡ n → ⊥) → all_below n (cond (not (x == n)) (x ∷ without n xs) (without n xs)) ≡ true
    by_eq others (inl e) = ap (λ (b : Bool). all_below n (cond (not b) (x ∷ without n xs) (without n xs))) (eq-eqb x n e) ∙ others
    by_eq others (inr other) =
        let less = ltb-true x (suc n) parts.0 in
        ap (λ (b : Bool). all_below n (cond (not b) (x ∷ without n xs) (without n xs))) (ne_eqb x n other)
        ∙ and_from (nat_lt x n) (all_below n (without n xs)) (lt-ltb x n (omega arith)) others

pub no_longer : (n : ℕ) (xs : List ℕ) → all_below n xs ≡ true → is_distinct xs ≡ true → length xs ≤ n
no_longer zero [] below distinct = omega arith
no_longer zero (x ∷ xs) below distinct = absurd (let less = ltb-true x 0 (and_parts (nat_lt x 0) (all_below 0 xs) below).0 in omega arith)
no_longer (suc n) xs below distinct =
    let fewer = no_longer n (without n xs) (below_without n xs below) (distinct_without n xs distinct) in
    let one = one_less n xs distinct in
    omega arith

-- a new number at the end
pub distinct_push : (xs : List ℕ) (n : ℕ) → is_distinct xs ≡ true → is_among n xs ≡ false → is_distinct (xs ++ n ∷ []) ≡ true
distinct_push [] n distinct none = refl
distinct_push (x ∷ xs) n distinct none =
    let parts = and_parts (not (is_among x xs)) (is_distinct xs) distinct in
    let apart = or_parts (x == n) (is_among n xs) none in
    and_from (not (is_among x (xs ++ n ∷ []))) (is_distinct (xs ++ n ∷ []))
    (not_from_false (is_among x (xs ++ n ∷ [])) (among_push x n xs ∙ or_from (is_among x xs) (n == x) (not-true (is_among x xs) parts.0) (turned (cases_eq n x) apart.0)))
    (distinct_push xs n parts.1 apart.1)
  where
    turned : (n ≡ x) ⊎ (n ≡ x → ⊥) → (x == n) ≡ false → (n == x) ≡ false
    turned (inl e) apart = absurd (let both : true ≡ false = sym (eq-eqb x n (sym e)) ∙ apart in cc)
    turned (inr other) apart = ne_eqb n x other
