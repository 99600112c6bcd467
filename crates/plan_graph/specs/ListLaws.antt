-- What holds of lists of numbers: a list of different numbers below a bound is no longer than the bound; what stands in a list of those that pass a test.
use Rattle.std.proofs.Common.{◌≡◌, ◌+◌, ◌<◌, ◌≤◌, ◌==◌, ℕ, zero, suc, List, [], ◌∷◌, ◌++◌, length, map, fold, Bool, true, false, not, cond, ◌&&◌, ◌||◌, nat_lt, nat_le, refl, sym, ap, subst, ◌∙◌, inl, inr, ◌⊎◌, arith}
use Rattle.std.specs.List.{filter, list_all, range_with_len, concat}
use Rattle.std.proofs.lemmas.Bool.{cases_eq, cases_lt, cases_Bool, eq-eqb, eqb-true, ne_eqb, and_parts, and_from, not-true, not_from_false, ltb-true, lt-ltb, le-ltb, or_parts, or_from, both_ways}
use Rattle.plan_graph.specs.Graphs.{is_among, cost_of_all}
use Rattle.plan_graph.specs.Groupings.{times, ascends_from}

abbrev pub all_below : ℕ → List ℕ → Bool
all_below nodes list = list_all (λ n. nat_lt n nodes) list

abbrev pub is_distinct : List ℕ → Bool
is_distinct [] = true
is_distinct (x ∷ xs) = not (is_among x xs) && is_distinct xs

abbrev pub without : ℕ → List ℕ → List ℕ
without n xs = filter (λ m. not (m == n)) xs

without_none : (n : ℕ) (xs : List ℕ) → is_among n xs ≡ false → without n xs ≡ xs
without_none n [] none = refl
without_none n (x ∷ xs) none =
    let parts = or_parts (x == n) (is_among n xs) none in
    ap (λ (b : Bool). cond (not b) (x ∷ without n xs) (without n xs)) parts.0 ∙ ap (λ (ys : List ℕ). x ∷ ys) (without_none n xs parts.1)

one_less : (n : ℕ) (xs : List ℕ) → is_distinct xs ≡ true → length xs ≤ suc (length (without n xs))
one_less n [] distinct = omega arith
one_less n (x ∷ xs) distinct = by_eq (one_less n xs (and_parts (not (is_among x xs)) (is_distinct xs) distinct).1) (cases_eq x n)
  where
    parts : (not (is_among x xs) ≡ true) × (is_distinct xs ≡ true)
    parts = and_parts (not (is_among x xs)) (is_distinct xs) distinct

    by_eq : length xs ≤ suc (length (without n xs)) → (x ≡ n) ⊎ (x ≡ n → ⊥) → suc (length xs) ≤ suc (length (cond (not (x == n)) (x ∷ without n xs) (without n xs)))
    by_eq others (inl e) =
        let none : is_among n xs ≡ false = ap (λ k. is_among k xs) (sym e) ∙ not-true (is_among x xs) parts.0 in
        let same = ap length (ap (λ (b : Bool). cond (not b) (x ∷ without n xs) (without n xs)) (eq-eqb x n e) ∙ without_none n xs none) in
        omega arith
    by_eq others (inr other) =
        let more = ap length (ap (λ (b : Bool). cond (not b) (x ∷ without n xs) (without n xs)) (ne_eqb x n other)) in
        omega arith

not_among_without : (n x : ℕ) (xs : List ℕ) → is_among x xs ≡ false → is_among x (without n xs) ≡ false
not_among_without n x [] none = refl
not_among_without n x (y ∷ xs) none = by_test (not_among_without n x xs (or_parts (y == x) (is_among x xs) none).1) (not (y == n))
  where
    parts : ((y == x) ≡ false) × (is_among x xs ≡ false)
    parts = or_parts (y == x) (is_among x xs) none

    by_test : is_among x (without n xs) ≡ false → (b : Bool) → is_among x (cond b (y ∷ without n xs) (without n xs)) ≡ false
    by_test others true = or_from (y == x) (is_among x (without n xs)) parts.0 others
    by_test others false = others

distinct_without : (n : ℕ) (xs : List ℕ) → is_distinct xs ≡ true → is_distinct (without n xs) ≡ true
distinct_without n [] distinct = refl
distinct_without n (x ∷ xs) distinct = by_test (distinct_without n xs (and_parts (not (is_among x xs)) (is_distinct xs) distinct).1) (not (x == n))
  where
    parts : (not (is_among x xs) ≡ true) × (is_distinct xs ≡ true)
    parts = and_parts (not (is_among x xs)) (is_distinct xs) distinct

    by_test : is_distinct (without n xs) ≡ true → (b : Bool) → is_distinct (cond b (x ∷ without n xs) (without n xs)) ≡ true
    by_test others true =
        and_from (not (is_among x (without n xs))) (is_distinct (without n xs))
        (not_from_false (is_among x (without n xs)) (not_among_without n x xs (not-true (is_among x xs) parts.0))) others
    by_test others false = others

below_without : (n : ℕ) (xs : List ℕ) → all_below (suc n) xs ≡ true → all_below n (without n xs) ≡ true
below_without n [] below = refl
below_without n (x ∷ xs) below = by_eq (below_without n xs (and_parts (nat_lt x (suc n)) (all_below (suc n) xs) below).1) (cases_eq x n)
  where
    parts : (nat_lt x (suc n) ≡ true) × (all_below (suc n) xs ≡ true)
    parts = and_parts (nat_lt x (suc n)) (all_below (suc n) xs) below

    by_eq : all_below n (without n xs) ≡ true → (x ≡ n) ⊎ (x ≡ n → ⊥) → all_below n (cond (not (x == n)) (x ∷ without n xs) (without n xs)) ≡ true
    by_eq others (inl e) = ap (λ (b : Bool). all_below n (cond (not b) (x ∷ without n xs) (without n xs))) (eq-eqb x n e) ∙ others
    by_eq others (inr other) =
        let less = ltb-true x (suc n) parts.0 in
        ap (λ (b : Bool). all_below n (cond (not b) (x ∷ without n xs) (without n xs))) (ne_eqb x n other)
        ∙ and_from (nat_lt x n) (all_below n (without n xs)) (lt-ltb x n (omega arith)) others

pub no_longer : (n : ℕ) (xs : List ℕ) → all_below n xs ≡ true → is_distinct xs ≡ true → length xs ≤ n
no_longer zero [] below distinct = omega arith
no_longer zero (x ∷ xs) below distinct = absurd (let less = ltb-true x 0 (and_parts (nat_lt x 0) (all_below 0 xs) below).0 in omega arith)
no_longer (suc n) xs below distinct =
    let fewer = no_longer n (without n xs) (below_without n xs below) (distinct_without n xs distinct) in
    let one = one_less n xs distinct in
    omega arith

-- ---- lists of what passes a test

pub both : (b : Bool) (x : ℕ) → x ≡ cond b x x
both true x = refl
both false x = refl

pub none_more : (n : ℕ) → 0 + n ≡ n
none_more n = omega arith

times_kept : (k m : ℕ) (here there same : Bool) (rest : List ℕ) (n : ℕ) → times k rest ≡ cond there n 0 → (same ≡ true → here ≡ there) → (m == k) ≡ same
    → times k (cond here (m ∷ rest) rest) ≡ cond there (cond same 1 0 + n) 0
times_kept k m true true same rest n more alike is = ap (λ (b : Bool). cond b 1 0 + times k rest) is ∙ ap (λ (i : ℕ). cond same 1 0 + i) more
times_kept k m false false same rest n more alike is = more
times_kept k m true false true rest n more alike is = absurd (both_ways false refl (sym (alike refl)))
times_kept k m true false false rest n more alike is = ap (λ (b : Bool). cond b 1 0 + times k rest) is ∙ none_more (times k rest) ∙ more
times_kept k m false true true rest n more alike is = absurd (both_ways false refl (alike refl))
times_kept k m false true false rest n more alike is = more ∙ sym (none_more n)

pub times_filter : (p : ℕ → Bool) (list : List ℕ) (k : ℕ) → times k (filter p list) ≡ cond (p k) (times k list) 0
times_filter p [] k = both (p k) 0
times_filter p (m ∷ more) k = times_kept k m (p m) (p k) (m == k) (filter p more) (times k more) (times_filter p more k) (λ same. ap p (eqb-true m k same)) refl

among_kept : (k m : ℕ) (here there same : Bool) (rest : List ℕ) (old : Bool) → is_among k rest ≡ (there && old) → (same ≡ true → here ≡ there) → (m == k) ≡ same
    → is_among k (cond here (m ∷ rest) rest) ≡ (there && (same || old))
among_kept k m true true same rest old more alike is = ap (λ (b : Bool). b || is_among k rest) is ∙ ap (λ (b : Bool). same || b) more
among_kept k m false false same rest old more alike is = more
among_kept k m true false true rest old more alike is = absurd (both_ways false refl (sym (alike refl)))
among_kept k m true false false rest old more alike is = ap (λ (b : Bool). b || is_among k rest) is ∙ more
among_kept k m false true true rest old more alike is = absurd (both_ways false refl (alike refl))
among_kept k m false true false rest old more alike is = more

among_none : (b : Bool) → false ≡ (b && false)
among_none true = refl
among_none false = refl

pub among_filter : (p : ℕ → Bool) (list : List ℕ) (k : ℕ) → is_among k (filter p list) ≡ (p k && is_among k list)
among_filter p [] k = among_none (p k)
among_filter p (m ∷ more) k = among_kept k m (p m) (p k) (m == k) (filter p more) (is_among k more) (among_filter p more k) (λ same. ap p (eqb-true m k same)) refl

-- ---- ranges

below_none : (n a k : ℕ) → k < a → times k (range_with_len a n) ≡ 0
below_none zero a k h = refl
below_none (suc n) a k h =
    let other : (a == k) ≡ false = ne_eqb a k (λ e. omega arith) in
    ap (λ b. cond b 1 0 + times k (range_with_len (a + 1) n)) other ∙ (let i = below_none n (a + 1) k (omega arith) in omega (arith, i))

past_none : (n a k : ℕ) → a + n ≤ k → times k (range_with_len a n) ≡ 0
past_none zero a k h = refl
past_none (suc n) a k h =
    let other : (a == k) ≡ false = ne_eqb a k (λ e. omega arith) in
    ap (λ b. cond b 1 0 + times k (range_with_len (a + 1) n)) other ∙ (let i = past_none n (a + 1) k (omega arith) in omega (arith, i))

within_one : (n a k : ℕ) → a ≤ k → k < a + n → times k (range_with_len a n) ≡ 1
within_one zero a k h l = absurd (omega arith)
within_one (suc n) a k h l = elim (cases_lt a k) [
  | inl more ↦ (
      let other : (a == k) ≡ false = ne_eqb a k (λ e. omega arith) in
      ap (λ b. cond b 1 0 + times k (range_with_len (a + 1) n)) other ∙ (let i = within_one n (a + 1) k (omega arith) (omega arith) in omega (arith, i))
      )
  | inr least ↦ (
      let here : (a == k) ≡ true = eq-eqb a k (omega arith) in
      ap (λ b. cond b 1 0 + times k (range_with_len (a + 1) n)) here ∙ (let i = below_none n (a + 1) k (omega arith) in omega (arith, i))
      )
]

pub times_range : (bound k : ℕ) → times k (range_with_len 0 bound) ≡ cond (nat_lt k bound) 1 0
times_range bound k = elim (cases_lt k bound) [
  | inl lt ↦ within_one bound 0 k (omega arith) (omega arith) ∙ ap (λ b. cond b 1 0) (sym (lt-ltb k bound lt))
  | inr le ↦ past_none bound 0 k (omega arith) ∙ ap (λ b. cond b 1 0) (sym (le-ltb k bound le))
]

pub range_has : (n a k : ℕ) → a ≤ k → k < a + n → is_among k (range_with_len a n) ≡ true
range_has zero a k h l = absurd (omega arith)
range_has (suc n) a k h l = elim (cases_lt a k) [
  | inl more ↦ ap (λ b. b || is_among k (range_with_len (a + 1) n)) (ne_eqb a k (λ e. omega arith)) ∙ range_has n (a + 1) k (omega arith) (omega arith)
  | inr least ↦ ap (λ b. b || is_among k (range_with_len (a + 1) n)) (eq-eqb a k (omega arith))
]

leb_true : (a b : ℕ) → a ≤ b → nat_le a b ≡ true
leb_true a b h = grind arith

pub ascends_kept : (p : ℕ → Bool) (n least a : ℕ) → least ≤ a → ascends_from least (filter p (range_with_len a n)) ≡ true
ascends_kept p zero least a low = refl
ascends_kept p (suc n) least a low = by_test (ascends_kept p n (suc a) (a + 1) (omega arith)) (ascends_kept p n least (a + 1) (omega arith)) (p a)
  where
    by_test : ascends_from (suc a) (filter p (range_with_len (a + 1) n)) ≡ true → ascends_from least (filter p (range_with_len (a + 1) n)) ≡ true
        → (b : Bool) → ascends_from least (cond b (a ∷ filter p (range_with_len (a + 1) n)) (filter p (range_with_len (a + 1) n))) ≡ true
    by_test taken left true = and_from (nat_le least a) (ascends_from (suc a) (filter p (range_with_len (a + 1) n))) (leb_true least a low) taken
    by_test taken left false = left

pub times_both : (k : ℕ) (xs ys : List ℕ) → times k (xs ++ ys) ≡ times k xs + times k ys
times_both k [] ys = sym (none_more (times k ys))
times_both k (x ∷ xs) ys = let more = times_both k xs ys in omega arith

pub times_in_all : (lists : ℕ → List ℕ) (k m : ℕ) (inside : Bool) → ((g : ℕ) → times k (lists g) ≡ cond inside (cond (g == m) 1 0) 0)
    → (gs : List ℕ) → times k (concat (map lists gs)) ≡ cond inside (times m gs) 0
times_in_all lists k m inside each [] = both inside 0
times_in_all lists k m inside each (g ∷ gs) = times_both k (lists g) (concat (map lists gs)) ∙ ap (λ (i : ℕ). i + times k (concat (map lists gs))) (each g)
    ∙ ap (λ (i : ℕ). cond inside (cond (g == m) 1 0) 0 + i) (times_in_all lists k m inside each gs) ∙ summed inside
  where
    summed : (b : Bool) → cond b (cond (g == m) 1 0) 0 + cond b (times m gs) 0 ≡ cond b (cond (g == m) 1 0 + times m gs) 0
    summed true = refl
    summed false = refl

pub eqb_turned : (a b : ℕ) → (a == b) ≡ (b == a)
eqb_turned a b = elim (cases_eq a b) [
  | inl e ↦ eq-eqb a b e ∙ sym (eq-eqb b a (sym e))
  | inr other ↦ ne_eqb a b other ∙ sym (ne_eqb b a (λ e. other (sym e)))
]

-- ---- where a list lacks numbers

pub without_less : (n : ℕ) (xs : List ℕ) → is_among n xs ≡ true → suc (length (without n xs)) ≤ length xs
without_less n [] among = absurd (both_ways false refl among)
without_less n (x ∷ xs) among = by_eq (λ more. without_less n xs more) (without_no_more n xs) (cases_eq x n)
  where
    without_no_more : (n : ℕ) (xs : List ℕ) → length (without n xs) ≤ length xs
    without_no_more n [] = omega arith
    without_no_more n (x ∷ xs) = by_test (without_no_more n xs) (not (x == n))
      where
        by_test : length (without n xs) ≤ length xs → (b : Bool) → length (cond b (x ∷ without n xs) (without n xs)) ≤ suc (length xs)
        by_test more true = omega arith
        by_test more false = omega arith

    by_eq : (is_among n xs ≡ true → suc (length (without n xs)) ≤ length xs) → length (without n xs) ≤ length xs → (x ≡ n) ⊎ (x ≡ n → ⊥) → suc (length (cond (not (x == n)) (x ∷ without n xs) (without n xs))) ≤ suc (length xs)
    by_eq others low (inl e) = let is = ap (λ (b : Bool). length (cond (not b) (x ∷ without n xs) (without n xs))) (eq-eqb x n e) in omega arith
    by_eq others low (inr other) =
        let is = ap (λ (b : Bool). length (cond (not b) (x ∷ without n xs) (without n xs))) (ne_eqb x n other) in
        let more = others (ap (λ (b : Bool). b || is_among n xs) (sym (ne_eqb x n other)) ∙ among) in
        omega arith

pub all_there : (n : ℕ) (xs : List ℕ) → ((k : ℕ) → k < n → is_among k xs ≡ true) → n ≤ length xs
all_there zero xs each = omega arith
all_there (suc n) xs each =
    let fewer = all_there n (without n xs) (λ k less. among_filter (λ m. not (m == n)) xs k ∙ and_from (not (k == n)) (is_among k xs) (not_from_false (k == n) (ne_eqb k n (λ e. omega arith))) (each k (omega arith))) in
    let one = without_less n xs (each n (omega arith)) in
    omega arith

-- one below a bound that is not among them, or all are
pub left_or_all : (n : ℕ) (xs : List ℕ) → ((k : ℕ) × (k < n) × (is_among k xs ≡ false)) ⊎ ((k : ℕ) → k < n → is_among k xs ≡ true)
left_or_all zero xs = inr (λ k less. absurd (omega arith))
left_or_all (suc n) xs = by_last (left_or_all n xs) (cases_Bool (is_among n xs))
  where
    by_last : ((k : ℕ) × (k < n) × (is_among k xs ≡ false)) ⊎ ((k : ℕ) → k < n → is_among k xs ≡ true) → (is_among n xs ≡ true) ⊎ (is_among n xs ≡ false)
        → ((k : ℕ) × (k < suc n) × (is_among k xs ≡ false)) ⊎ ((k : ℕ) → k < suc n → is_among k xs ≡ true)
    by_last (inl it) last = inl (it.0, (let less = it.1 in omega arith), it.2)
    by_last (inr all) (inr away) = inl (n, omega arith, away)
    by_last (inr all) (inl there) = inr (λ k less. at k less (cases_eq k n))
      where
        at : (k : ℕ) → k < suc n → (k ≡ n) ⊎ (k ≡ n → ⊥) → is_among k xs ≡ true
        at k less (inl e) = subst (λ (m : ℕ). is_among m xs ≡ true) (sym e) there
        at k less (inr other) = all k (omega (arith, other))

pub among_push : (n : ℕ) (xs : List ℕ) (t : ℕ) → is_among n (xs ++ t ∷ []) ≡ (is_among n xs || (t == n))
among_push n [] t = or_none (t == n)
  where
    or_none : (b : Bool) → (b || false) ≡ b
    or_none true = refl
    or_none false = refl
among_push n (x ∷ xs) t = ap (λ (b : Bool). (x == n) || b) (among_push n xs t) ∙ grouped (x == n)
  where
    grouped : (b : Bool) → (b || (is_among n xs || (t == n))) ≡ ((b || is_among n xs) || (t == n))
    grouped true = refl
    grouped false = refl

pub times_distinct : (xs : List ℕ) (n : ℕ) → is_distinct xs ≡ true → times n xs ≡ cond (is_among n xs) 1 0
times_distinct [] n distinct = refl
times_distinct (x ∷ xs) n distinct = by_eq (times_distinct xs n parts.1) (cases_eq x n)
  where
    parts : (not (is_among x xs) ≡ true) × (is_distinct xs ≡ true)
    parts = and_parts (not (is_among x xs)) (is_distinct xs) distinct

    by_eq : times n xs ≡ cond (is_among n xs) 1 0 → (x ≡ n) ⊎ (x ≡ n → ⊥) → cond (x == n) 1 0 + times n xs ≡ cond ((x == n) || is_among n xs) 1 0
    by_eq more (inl e) =
        let none : is_among n xs ≡ false = subst (λ (m : ℕ). is_among m xs ≡ false) e (not-true (is_among x xs) parts.0) in
        let zero_times : times n xs ≡ 0 = more ∙ ap (λ (b : Bool). cond b 1 0) none in
        ap (λ (b : Bool). cond b 1 0 + times n xs) (eq-eqb x n e) ∙ ap (λ (i : ℕ). 1 + i) zero_times ∙ sym (ap (λ (b : Bool). cond (b || is_among n xs) 1 0) (eq-eqb x n e))
    by_eq more (inr other) =
        ap (λ (b : Bool). cond b 1 0 + times n xs) (ne_eqb x n other) ∙ none_more (times n xs) ∙ more ∙ sym (ap (λ (b : Bool). cond (b || is_among n xs) 1 0) (ne_eqb x n other))

-- ---- one element more at the end

pub range_more : (n a : ℕ) → range_with_len a (suc n) ≡ range_with_len a n ++ (a + n) ∷ []
range_more zero a = ap (λ (k : ℕ). k ∷ []) (omega arith)
range_more (suc n) a = ap (λ (ks : List ℕ). a ∷ ks) (range_more n (a + 1) ∙ ap (λ (k : ℕ). range_with_len (a + 1) n ++ k ∷ []) (omega arith))

pub range_from_0 : (n : ℕ) → range_with_len 0 (n + 1) ≡ range_with_len 0 n ++ n ∷ []
range_from_0 n = ap (range_with_len 0) more ∙ range_more n 0 ∙ ap (λ (k : ℕ). range_with_len 0 n ++ k ∷ []) (none_more n)
  where
    more : n + 1 ≡ suc n
    more = omega arith

pub filter_push : {A : Type 0} (p : A → Bool) (xs : List A) (x : A) → filter p (xs ++ x ∷ []) ≡ filter p xs ++ cond (p x) (x ∷ []) []
filter_push p [] x = refl
filter_push {A} p (y ∷ xs) x = by_test (p y) (filter_push p xs x)
  where
    by_test : (b : Bool) → filter p (xs ++ x ∷ []) ≡ filter p xs ++ cond (p x) (x ∷ []) [] → cond b (y ∷ filter p (xs ++ x ∷ [])) (filter p (xs ++ x ∷ [])) ≡ cond b (y ∷ filter p xs) (filter p xs) ++ cond (p x) (x ∷ []) []
    by_test true more = ap (λ (ks : List A). y ∷ ks) more
    by_test false more = more

pub map_push : {A B : Type 0} (f : A → B) (xs : List A) (x : A) → map f (xs ++ x ∷ []) ≡ map f xs ++ f x ∷ []
map_push f [] x = refl
map_push {A} {B} f (y ∷ xs) x = ap (λ (ks : List B). f y ∷ ks) (map_push f xs x)

pub fold_push : {A B : Type 0} (f : B → A → B) (b : B) (xs : List A) (x : A) → fold f b (xs ++ x ∷ []) ≡ f (fold f b xs) x
fold_push f b [] x = refl
fold_push f b (y ∷ xs) x = fold_push f (f b y) xs x

-- ---- what numbers cost together

pub cost_push : (cost : ℕ → ℕ) (xs : List ℕ) (x : ℕ) → cost_of_all cost (xs ++ x ∷ []) ≡ cost_of_all cost xs + cost x
cost_push cost [] x = omega arith
cost_push cost (y ∷ xs) x = let more = cost_push cost xs x in omega arith

cost_without : (cost : ℕ → ℕ) (n : ℕ) (xs : List ℕ) → is_distinct xs ≡ true → cost_of_all cost xs ≤ cost n + cost_of_all cost (without n xs)
cost_without cost n [] distinct = omega arith
cost_without cost n (x ∷ xs) distinct = by_eq (cost_without cost n xs (and_parts (not (is_among x xs)) (is_distinct xs) distinct).1) (cases_eq x n)
  where
    parts : (not (is_among x xs) ≡ true) × (is_distinct xs ≡ true)
    parts = and_parts (not (is_among x xs)) (is_distinct xs) distinct

    by_eq : cost_of_all cost xs ≤ cost n + cost_of_all cost (without n xs) → (x ≡ n) ⊎ (x ≡ n → ⊥) → cost x + cost_of_all cost xs ≤ cost n + cost_of_all cost (cond (not (x == n)) (x ∷ without n xs) (without n xs))
    by_eq others (inl e) =
        let none : is_among n xs ≡ false = ap (λ k. is_among k xs) (sym e) ∙ not-true (is_among x xs) parts.0 in
        let same = ap (cost_of_all cost) (ap (λ (b : Bool). cond (not b) (x ∷ without n xs) (without n xs)) (eq-eqb x n e) ∙ without_none n xs none) in
        let here = ap cost e in
        omega arith
    by_eq others (inr other) =
        let more = ap (cost_of_all cost) (ap (λ (b : Bool). cond (not b) (x ∷ without n xs) (without n xs)) (ne_eqb x n other)) in
        omega arith

-- different numbers below a bound cost no more than all below it
pub costs_no_more : (cost : ℕ → ℕ) (n : ℕ) (xs : List ℕ) → all_below n xs ≡ true → is_distinct xs ≡ true → cost_of_all cost xs ≤ cost_of_all cost (range_with_len 0 n)
costs_no_more cost zero [] below distinct = omega arith
costs_no_more cost zero (x ∷ xs) below distinct = absurd (let less = ltb-true x 0 (and_parts (nat_lt x 0) (all_below 0 xs) below).0 in omega arith)
costs_no_more cost (suc n) xs below distinct =
    let fewer = costs_no_more cost n (without n xs) (below_without n xs below) (distinct_without n xs distinct) in
    let one = cost_without cost n xs distinct in
    let all = ap (cost_of_all cost) (range_more n 0 ∙ ap (λ (k : ℕ). range_with_len 0 n ++ k ∷ []) (none_more n)) ∙ cost_push cost (range_with_len 0 n) n in
    omega arith

-- ---- what stands at most once

none_among : (n : ℕ) (xs : List ℕ) → times n xs ≡ 0 → is_among n xs ≡ false
none_among n [] none = refl
none_among n (x ∷ xs) none = by_test (λ few. none_among n xs few) (x == n) refl
  where
    by_test : (times n xs ≡ 0 → is_among n xs ≡ false) → (b : Bool) → (x == n) ≡ b → ((x == n) || is_among n xs) ≡ false
    by_test rest true e = absurd (let is = ap (λ (c : Bool). cond c 1 0 + times n xs) e in omega arith)
    by_test rest false e = or_from (x == n) (is_among n xs) e (rest (let is = ap (λ (c : Bool). cond c 1 0 + times n xs) e in omega arith))

times_tail : (n x : ℕ) (xs : List ℕ) → times n xs ≤ times n (x ∷ xs)
times_tail n x xs = by_test (x == n)
  where
    by_test : (b : Bool) → times n xs ≤ cond b 1 0 + times n xs
    by_test true = omega arith
    by_test false = omega arith

times_head : (x : ℕ) (xs : List ℕ) → times x (x ∷ xs) ≡ suc (times x xs)
times_head x xs = ap (λ (b : Bool). cond b 1 0 + times x xs) (eq-eqb x x refl) ∙ omega arith

pub once_distinct : (xs : List ℕ) → ((n : ℕ) → times n xs ≤ 1) → is_distinct xs ≡ true
once_distinct [] once = refl
once_distinct (x ∷ xs) once =
    let here = once x in
    let head = times_head x xs in
    and_from (not (is_among x xs)) (is_distinct xs) (not_from_false (is_among x xs) (none_among x xs (omega arith)))
    (once_distinct xs (λ n. let tail = times_tail n x xs in let more = once n in omega arith))

pub times_below : (bound : ℕ) (xs : List ℕ) → ((n : ℕ) → bound ≤ n → times n xs ≡ 0) → all_below bound xs ≡ true
times_below bound [] none = refl
times_below bound (x ∷ xs) none =
    and_from (nat_lt x bound) (all_below bound xs) (by_order (cases_lt x bound))
    (times_below bound xs (λ n high. let tail = times_tail n x xs in let more = none n high in omega arith))
  where
    by_order : (x < bound) ⊎ (bound ≤ x) → nat_lt x bound ≡ true
    by_order (inl less) = lt-ltb x bound less
    by_order (inr more) = absurd (let here = none x more in let head = times_head x xs in omega arith)
