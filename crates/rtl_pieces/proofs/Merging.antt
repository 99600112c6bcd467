-- Sorted ranges that are put together keep their bits, and ascend.
use Rattle.std.proofs.Common.{◌≡◌, ℕ, suc, ◌<◌, ◌≤◌, min, Bool, true, false, ◌||◌, ◌&&◌, ltb, leb, List, [], ◌∷◌, ◌++◌, refl, sym, ap, ◌∙◌, arith}
use Rattle.std.specs.Prelude.{if◌then◌else◌, nat_lt}
use Rattle.std.specs.List.Sorted.{IsNonDecreasingBy}
use Rattle.std.proofs.lemmas.List.Folds.{list_any-append}
use Rattle.std.proofs.lemmas.Bool.{ltb-true, ltb-false, leb-true, leb-false}
use Rattle.std.proofs.lemmas.Bool.Decides.{nat_tests}
use Rattle.rtl_pieces.specs.declared.range.BitRange.{BitRange}
use Rattle.rtl_pieces.specs.Line.{inside, has}
use Rattle.rtl_pieces.specs.Ranges.{Ascending, AllBelow, Sorted, first_place, empty, settled, joined, merged, below}

pub or_false : (x : Bool) → (x || false) ≡ x
or_false true = refl
or_false false = refl

or_assoc : (x y z : Bool) → ((x || y) || z) ≡ (x || (y || z))
or_assoc true y z = refl
or_assoc false y z = refl

-- a lower bound may be lowered
pub sorted_weaken : (low high : ℕ) (rs : List BitRange) → low ≤ high → Sorted high rs → Sorted low rs
sorted_weaken low high [] h s = tt
sorted_weaken low high (r ∷ more) h s = (omega (arith, s.0), s.1)

pub ascending_weaken : (low high : ℕ) (rs : List BitRange) → low ≤ high → Ascending high rs → Ascending low rs
ascending_weaken low high [] h s = tt
ascending_weaken low high (r ∷ more) h s = (omega (arith, s.0), s.1, s.2)

-- what a sort by the first places gives
sorted_after : (r : BitRange) (rs : List BitRange) → IsNonDecreasingBy first_place (r ∷ rs) → Sorted r.from rs
sorted_after r [] h = tt
sorted_after r (s ∷ more) h = (h 0 1 r (omega arith) (omega arith), sorted_after s more (λ i j d p q. h (suc i) (suc j) d (omega arith) (omega arith)))

pub sorted_from : (rs : List BitRange) → IsNonDecreasingBy first_place rs → Sorted 0 rs
sorted_from [] h = tt
sorted_from (r ∷ more) h = (omega arith, sorted_after r more h)

-- ---- the bits

settled_if : (b : ℕ) (r : BitRange) (t : Bool) → t ≡ ltb r.from r.to → has b (if t then r ∷ [] else []) ≡ inside b r
settled_if b r true e = or_false (inside b r)
settled_if b r false e = let h : r.to ≤ r.from = ltb-false r.from r.to (sym e) in grind (arith, nat_tests)

pub settled_has : (b : ℕ) (r : BitRange) → has b (settled r) ≡ inside b r
settled_has b r = settled_if b r (ltb r.from r.to) refl

joined_has : (b : ℕ) (l r : BitRange) → l.from ≤ r.from → r.from ≤ l.to → inside b (joined l r) ≡ (inside b l || inside b r)
joined_has b l r h k = grind (arith, nat_tests)

merged_if : (b : ℕ) (l r : BitRange) (more : List BitRange) (t : Bool) → t ≡ leb r.from l.to → l.from ≤ r.from
    → has b (merged (joined l r) more) ≡ (inside b (joined l r) || has b more)
    → has b (merged r more) ≡ (inside b r || has b more)
    → has b (if t then merged (joined l r) more else settled l ++ merged r more) ≡ (inside b l || (inside b r || has b more))
merged_if b l r more true e h one two =
    let k : r.from ≤ l.to = leb-true r.from l.to (sym e) in
    one ∙ ap (λ x. x || has b more) (joined_has b l r h k) ∙ or_assoc (inside b l) (inside b r) (has b more)
merged_if b l r more false e h one two =
    list_any-append (inside b) (settled l) (merged r more) ∙ ap (λ x. x || has b (merged r more)) (settled_has b l) ∙ ap (λ x. inside b l || x) two

pub merged_has : (b : ℕ) (l : BitRange) (rs : List BitRange) → Sorted l.from rs → has b (merged l rs) ≡ (inside b l || has b rs)
merged_has b l [] s = settled_has b l ∙ sym (or_false (inside b l))
merged_has b l (r ∷ more) s = merged_if b l r more (leb r.from l.to) refl s.0 (merged_has b (joined l r) more (sorted_weaken l.from r.from more s.0 s.1)) (merged_has b r more s.1)

-- ---- the order

settled_ascends_if : (low : ℕ) (r : BitRange) (rs : List BitRange) (t : Bool) → t ≡ ltb r.from r.to → low ≤ r.from → Ascending (suc r.to) rs → Ascending low rs → Ascending low ((if t then r ∷ [] else []) ++ rs)
settled_ascends_if low r rs true e h one two = (h, ltb-true r.from r.to (sym e), one)
settled_ascends_if low r rs false e h one two = two

pub settled_ascends : (low : ℕ) (r : BitRange) (rs : List BitRange) → low ≤ r.from → Ascending (suc r.to) rs → Ascending low rs → Ascending low (settled r ++ rs)
settled_ascends low r rs h one two = settled_ascends_if low r rs (ltb r.from r.to) refl h one two

last_ascends_if : (low : ℕ) (r : BitRange) (t : Bool) → t ≡ ltb r.from r.to → low ≤ r.from → Ascending low (if t then r ∷ [] else [])
last_ascends_if low r true e h = (h, ltb-true r.from r.to (sym e), tt)
last_ascends_if low r false e h = tt

merged_ascends_if : (low : ℕ) (l r : BitRange) (more : List BitRange) (t : Bool) → t ≡ leb r.from l.to → low ≤ l.from
    → Ascending low (merged (joined l r) more) → (l.to < r.from → Ascending (suc l.to) (merged r more)) → (low ≤ r.from → Ascending low (merged r more)) → l.from ≤ r.from
    → Ascending low (if t then merged (joined l r) more else settled l ++ merged r more)
merged_ascends_if low l r more true e h one two three k = one
merged_ascends_if low l r more false e h one two three k = settled_ascends low l (merged r more) h (two (leb-false r.from l.to (sym e))) (three (omega arith))

pub merged_ascends : (low : ℕ) (l : BitRange) (rs : List BitRange) → low ≤ l.from → Sorted l.from rs → Ascending low (merged l rs)
merged_ascends low l [] h s = last_ascends_if low l (ltb l.from l.to) refl h
merged_ascends low l (r ∷ more) h s =
    merged_ascends_if low l r more (leb r.from l.to) refl h
    (merged_ascends low (joined l r) more h (sorted_weaken l.from r.from more s.0 s.1))
    (λ k. merged_ascends (suc l.to) r more (omega arith) s.1)
    (λ k. merged_ascends low r more k s.1)
    s.0

-- ---- as the code puts them together: after a sort, with nothing before the first

empty_has : (b : ℕ) → inside b empty ≡ false
empty_has b = grind (arith, nat_tests)

pub merged_all_has : (b : ℕ) (rs : List BitRange) → IsNonDecreasingBy first_place rs → has b (merged empty rs) ≡ has b rs
merged_all_has b rs h = merged_has b empty rs (sorted_from rs h) ∙ ap (λ x. x || has b rs) (empty_has b)

pub merged_all_ascends : (rs : List BitRange) → IsNonDecreasingBy first_place rs → Ascending 0 (merged empty rs)
merged_all_ascends rs h = merged_ascends 0 empty rs (omega arith) (sorted_from rs h)

-- ---- below a place

below_one : (b end : ℕ) (r : BitRange) → inside b (record { from = r.from; to = min r.to end }) ≡ (nat_lt b end && inside b r)
below_one b end r = grind (arith, nat_tests)

pub and_or : (x y z : Bool) → ((x && y) || (x && z)) ≡ (x && (y || z))
and_or true y z = refl
and_or false y z = refl

pub and_none : (x : Bool) → false ≡ (x && false)
and_none true = refl
and_none false = refl

pub below_has : (b end : ℕ) (rs : List BitRange) → has b (below end rs) ≡ (nat_lt b end && has b rs)
below_has b end [] = and_none (nat_lt b end)
below_has b end (r ∷ more) =
    list_any-append (inside b) (settled (record { from = r.from; to = min r.to end })) (below end more)
    ∙ ap (λ x. x || has b (below end more)) (settled_has b (record { from = r.from; to = min r.to end }) ∙ below_one b end r)
    ∙ ap (λ x. (nat_lt b end && inside b r) || x) (below_has b end more)
    ∙ and_or (nat_lt b end) (inside b r) (has b more)

pub below_ascends : (low end : ℕ) (rs : List BitRange) → Ascending low rs → Ascending low (below end rs)
below_ascends low end [] s = tt
below_ascends low end (r ∷ more) s =
    settled_ascends low (record { from = r.from; to = min r.to end }) (below end more) s.0
    (below_ascends (suc (min r.to end)) end more (ascending_weaken (suc (min r.to end)) (suc r.to) more (omega arith) s.2))
    (below_ascends low end more (ascending_weaken low (suc r.to) more (omega (arith, s.0, s.1)) s.2))

-- ---- none goes past a place

settled_within_if : (end : ℕ) (r : BitRange) (rs : List BitRange) (t : Bool) → r.to ≤ end → AllBelow end rs → AllBelow end ((if t then r ∷ [] else []) ++ rs)
settled_within_if end r rs true h s = (h, s)
settled_within_if end r rs false h s = s

pub settled_within : (end : ℕ) (r : BitRange) (rs : List BitRange) → r.to ≤ end → AllBelow end rs → AllBelow end (settled r ++ rs)
settled_within end r rs h s = settled_within_if end r rs (ltb r.from r.to) h s

pub below_within : (end : ℕ) (rs : List BitRange) → AllBelow end (below end rs)
below_within end [] = tt
below_within end (r ∷ more) = settled_within end (record { from = r.from; to = min r.to end }) (below end more) (omega arith) (below_within end more)
