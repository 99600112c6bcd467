-- What lies within a span, and ranges that meet.
use Rattle.std.proofs.Common.{◌≡◌, ◌<◌, ◌≤◌, ℕ, zero, suc, List, [], ◌∷◌, length, fold, take, get_or, slice_get, Option, Some, None, Bool, true, false, ◌&&◌, ◌||◌, nat_lt, nat_le, max, min, refl, sym, ap, ◌∙◌, inl, inr, ◌⊎◌, arith}
use Rattle.std.specs.List.{list_any, list_all}
use Rattle.std.proofs.lemmas.Bool.{and_parts, and_from, or_cases, or_from, cases_Bool, both_ways, lt-ltb, ltb-true, false_from_ne_true, or_left, or_right}
use Rattle.logic_graph.specs.declared.ranges.WordRange.{WordRange}
use Rattle.logic_graph.specs.declared.ranges.Touched.{Touched}
use Rattle.logic_graph.specs.Reading.{meets, meet_somewhere}
use Rattle.hazard_edges.specs.Hazards.{share, share_if, nodes_share}
use Rattle.hazard_edges.specs.Spans.{is_within, covers, widened, span_of, meets_some}

le_from : (a b : ℕ) → nat_le a b ≡ true → a ≤ b
le_from a b e = grind arith

le_to : (a b : ℕ) → a ≤ b → nat_le a b ≡ true
le_to a b e = grind arith

-- two ranges meet in either order
pub meets_turned : (r s : WordRange) → meets r s ≡ meets s r
meets_turned r s = (λ i. nat_lt (first i) (end i))
  where
    first : max r.first s.first ≡ max s.first r.first
    first = omega arith

    end : min r.end s.end ≡ min s.end r.end
    end = omega arith

any_turned : (r : WordRange) (list : List WordRange) → list_any (meets r) list ≡ list_any (λ s. meets s r) list
any_turned r [] = refl
any_turned r (s ∷ list) = (λ i. meets_turned r s i || any_turned r list i)

-- what meets a range within a span meets the span
within_meets : (span s r : WordRange) → is_within span s ≡ true → meets s r ≡ true → meets span r ≡ true
within_meets span s r inside meet =
    let parts = and_parts (nat_le span.first s.first) (nat_le s.end span.end) inside in
    let first = le_from span.first s.first parts.0 in
    let end = le_from s.end span.end parts.1 in
    let less = ltb-true (max s.first r.first) (min s.end r.end) meet in
    lt-ltb (max span.first r.first) (min span.end r.end) (omega arith)

-- what does not meet the span meets none of the ranges in it
pub none_outside : (span : WordRange) (list : List WordRange) (r : WordRange) → covers span list ≡ true → meets span r ≡ false → meets_some list r ≡ false
none_outside span [] r inside apart = refl
none_outside span (s ∷ list) r inside apart =
    let parts = and_parts (is_within span s) (covers span list) inside in
    or_from (meets s r) (meets_some list r)
    (false_from_ne_true (meets s r) (λ meet. both_ways (meets span r) apart (within_meets span s r parts.0 meet)))
    (none_outside span list r parts.1 apart)

-- ---- all pairs, in either order

any_or : (p q : WordRange → Bool) (list : List WordRange) → list_any (λ s. p s || q s) list ≡ (list_any p list || list_any q list)
any_or p q [] = refl
any_or p q (s ∷ list) = ap (λ (b : Bool). (p s || q s) || b) (any_or p q list) ∙ swapped (p s) (q s) (list_any p list) (list_any q list)
  where
    swapped : (a b c d : Bool) → ((a || b) || (c || d)) ≡ ((a || c) || (b || d))
    swapped true b c d = refl
    swapped false true true d = refl
    swapped false true false d = refl
    swapped false false true d = refl
    swapped false false false d = refl

none_meet : (list : List WordRange) → false ≡ list_any (meets_some []) list
none_meet [] = refl
none_meet (r ∷ list) = none_meet list

-- some of these meet some of those: told from the others
pub some_turned : (some others : List WordRange) → list_any (meets_some some) others ≡ meet_somewhere some others
some_turned [] others = sym (none_meet others)
some_turned (s ∷ some) others =
    any_or (meets s) (meets_some some) others ∙ ap (λ (b : Bool). list_any (meets s) others || b) (some_turned some others)

-- and in the other order
pub somewhere_turned : (some others : List WordRange) → meet_somewhere some others ≡ meet_somewhere others some
somewhere_turned some others = sym (some_turned some others) ∙ same others
  where
    same : (list : List WordRange) → list_any (meets_some some) list ≡ meet_somewhere list some
    same [] = refl
    same (r ∷ list) = (λ i. sym (any_turned r some) i || same list i)

-- the three tests of the code are those of the definition
pub turned : (a b : Touched) → (meet_somewhere a.writes b.reads || (meet_somewhere b.writes a.reads || meet_somewhere a.writes b.writes)) ≡ share a b
turned a b = ap (λ (x : Bool). meet_somewhere a.writes b.reads || (x || meet_somewhere a.writes b.writes)) (somewhere_turned b.writes a.reads)

-- ---- the span of some ranges

-- it is no narrower than it was
wider : (span : WordRange) (ranges : List WordRange) → ((fold widened span ranges).first ≤ span.first) × (span.end ≤ (fold widened span ranges).end)
wider span [] = (omega arith, omega arith)
wider span (r ∷ ranges) = let more = wider (widened span r) ranges in let first = more.0 in let end = more.1 in (omega arith, omega arith)

covers_from : (span : WordRange) (ranges : List WordRange) → covers (fold widened span ranges) ranges ≡ true
covers_from span [] = refl
covers_from span (r ∷ ranges) =
    let wide : WordRange = fold widened (widened span r) ranges in
    let more = wider (widened span r) ranges in
    let first = more.0 in
    let end = more.1 in
    and_from (is_within wide r) (covers wide ranges) (and_from (nat_le wide.first r.first) (nat_le r.end wide.end) (le_to wide.first r.first (omega arith)) (le_to r.end wide.end (omega arith)))
    (covers_from (widened span r) ranges)

pub span_covers : (ranges : List WordRange) → covers (span_of ranges) ranges ≡ true
span_covers ranges = covers_from (record { first = 4294967295; end = 0 }) ranges

-- ---- the nodes at two places

pub share_there : (touched : List Touched) (i j : ℕ) (a b : Touched) → i < length touched → j < length touched → a ≡ get_or touched i a → b ≡ get_or touched j b → share a b ≡ nodes_share touched i j
share_there touched i j a b first second is_a is_b = (λ k. share_if (some i a first is_a k) (some j b second is_b k))
  where
    found : (xs : List Touched) (i : ℕ) (a : Touched) → i < length xs → Some (get_or xs i a) ≡ slice_get xs i
    found [] i a within = absurd (omega arith)
    found (x ∷ xs) zero a within = refl
    found (x ∷ xs) (suc i) a within = found xs i a (omega arith)

    some : (i : ℕ) (a : Touched) → i < length touched → a ≡ get_or touched i a → Some a ≡ slice_get touched i
    some i a within is = ap (λ (t : Touched). Some t) is ∙ found touched i a within

pub all_taken : (ranges : List WordRange) (n : ℕ) → length ranges ≤ n → take n ranges ≡ ranges
all_taken [] zero long = refl
all_taken [] (suc n) long = refl
all_taken (r ∷ ranges) zero long = absurd (omega arith)
all_taken (r ∷ ranges) (suc n) long = ap (λ (rs : List WordRange). r ∷ rs) (all_taken ranges n (omega arith))
