-- What is left of ascending ranges without others.
use Rattle.std.proofs.Common.{◌≡◌, ℕ, suc, ◌<◌, ◌≤◌, max, Bool, true, false, not, ◌||◌, ◌&&◌, ltb, List, [], ◌∷◌, ◌++◌, refl, sym, ap, ◌∙◌, arith, inl, inr}
use Rattle.std.specs.Prelude.{if◌then◌else◌}
use Rattle.std.proofs.lemmas.List.{append_assoc}
use Rattle.std.proofs.lemmas.List.Folds.{list_any-append}
use Rattle.std.proofs.lemmas.Bool.{cases_lt, ltb-true, ltb-false}
use Rattle.std.proofs.lemmas.Bool.Decides.{nat_tests}
use Rattle.rtl_pieces.specs.declared.range.BitRange.{BitRange}
use Rattle.rtl_pieces.specs.Line.{inside, has}
use Rattle.rtl_pieces.specs.Ranges.{Ascending, AllBelow, settled, after, left, minus}
use Rattle.rtl_pieces.proofs.Merging.{ascending_weaken, settled_has, settled_ascends, settled_within}

abbrev range : ℕ → ℕ → BitRange
range from to = record { from = from; to = to }

-- a range has no bit below its first place, and none from its last place on
below : (b : ℕ) (r : BitRange) → b < r.from → inside b r ≡ false
below b r h = grind (arith, nat_tests)

beyond : (b : ℕ) (r : BitRange) → r.to ≤ b → inside b r ≡ false
beyond b r h = grind (arith, nat_tests)

pub none_below : (b low : ℕ) (rs : List BitRange) → Ascending low rs → b < low → has b rs ≡ false
none_below b low [] s h = refl
none_below b low (r ∷ more) s h =
    ap (λ x. x || has b more) (below b r (omega (arith, s.0))) ∙ none_below b (suc r.to) more s.2 (omega (arith, s.0, s.1))

-- ---- those that end by a place are passed over

after_has_if : (b place : ℕ) (r : BitRange) (more : List BitRange) (t : Bool) → t ≡ ltb place r.to → place ≤ b → has b (after place more) ≡ has b more
    → has b (if t then r ∷ more else after place more) ≡ (inside b r || has b more)
after_has_if b place r more true e h one = refl
after_has_if b place r more false e h one =
    let k : r.to ≤ place = ltb-false place r.to (sym e) in
    one ∙ sym (ap (λ x. x || has b more) (beyond b r (omega arith)))

pub after_has : (b place : ℕ) (rs : List BitRange) → place ≤ b → has b (after place rs) ≡ has b rs
after_has b place [] h = refl
after_has b place (r ∷ more) h = after_has_if b place r more (ltb place r.to) refl h (after_has b place more h)

after_ascends_if : (low place : ℕ) (r : BitRange) (more : List BitRange) (t : Bool) → Ascending low (r ∷ more) → Ascending low (after place more) → Ascending low (if t then r ∷ more else after place more)
after_ascends_if low place r more true s one = s
after_ascends_if low place r more false s one = one

pub after_ascends : (low place : ℕ) (rs : List BitRange) → Ascending low rs → Ascending low (after place rs)
after_ascends low place [] s = tt
after_ascends low place (r ∷ more) s =
    after_ascends_if low place r more (ltb place r.to) s (after_ascends low place more (ascending_weaken low (suc r.to) more (omega (arith, s.0, s.1)) s.2))

-- ---- one range without others

-- before, in and after the first of the others
split : (b from to : ℕ) (r : BitRange) (rest : Bool) → r.from < r.to → r.from < to → (b < r.from → rest ≡ false)
    → (inside b (range from r.from) || (inside b (range (max from r.to) to) && not rest)) ≡ (inside b (range from to) && not (inside b r || rest))
split b from to r true some h none = grind (arith, nat_tests)
split b from to r false some h none = grind (arith, nat_tests)

-- the others begin where it has ended
kept : (b from to : ℕ) (r : BitRange) (rest : Bool) → to ≤ r.from → (b < r.from → rest ≡ false)
    → inside b (range from to) ≡ (inside b (range from to) && not (inside b r || rest))
kept b from to r true h none = grind (arith, nat_tests)
kept b from to r false h none = grind (arith, nat_tests)

left_has_if : (b from to : ℕ) (r : BitRange) (more : List BitRange) (t : Bool) → t ≡ ltb r.from to → r.from < r.to → Ascending (suc r.to) more
    → has b (left (max from r.to) to more) ≡ (inside b (range (max from r.to) to) && not (has b more))
    → has b (if t then settled (range from r.from) ++ left (max from r.to) to more else settled (range from to)) ≡ (inside b (range from to) && not (inside b r || has b more))
left_has_if b from to r more true e some s one =
    list_any-append (inside b) (settled (range from r.from)) (left (max from r.to) to more)
    ∙ ap (λ x. x || has b (left (max from r.to) to more)) (settled_has b (range from r.from))
    ∙ ap (λ x. inside b (range from r.from) || x) one
    ∙ split b from to r (has b more) some (ltb-true r.from to (sym e)) (λ k. none_below b (suc r.to) more s (omega arith))
left_has_if b from to r more false e some s one =
    settled_has b (range from to) ∙ kept b from to r (has b more) (ltb-false r.from to (sym e)) (λ k. none_below b (suc r.to) more s (omega arith))

and_true : (x : Bool) → x ≡ (x && true)
and_true true = refl
and_true false = refl

pub left_has : (b from to : ℕ) (low : ℕ) (rs : List BitRange) → Ascending low rs → has b (left from to rs) ≡ (inside b (range from to) && not (has b rs))
left_has b from to low [] s = settled_has b (range from to) ∙ and_true (inside b (range from to))
left_has b from to low (r ∷ more) s = left_has_if b from to r more (ltb r.from to) refl s.1 s.2 (left_has b (max from r.to) to (suc r.to) more s.2)

left_ascends_if : (low from to : ℕ) (r : BitRange) (more ys : List BitRange) (t : Bool) → low ≤ from → low ≤ suc to → Ascending (suc to) ys
    → t ≡ ltb r.from to → (r.from < to → Ascending (suc r.from) (left (max from r.to) to more ++ ys)) → Ascending low (left (max from r.to) to more ++ ys)
    → Ascending low ((if t then settled (range from r.from) ++ left (max from r.to) to more else settled (range from to)) ++ ys)
left_ascends_if low from to r more ys true h k s e one two = rw append_assoc (settled_ascends low (range from r.from) (left (max from r.to) to more ++ ys) h (one (ltb-true r.from to (sym e))) two)
left_ascends_if low from to r more ys false h k s e one two = settled_ascends low (range from to) ys h s (ascending_weaken low (suc to) ys k s)

-- what follows the range may follow what is left of it
pub left_ascends : (low from to high : ℕ) (rs ys : List BitRange) → low ≤ from → low ≤ suc to → Ascending high rs → Ascending (suc to) ys → Ascending low (left from to rs ++ ys)
left_ascends low from to high [] ys h k o s = settled_ascends low (range from to) ys h s (ascending_weaken low (suc to) ys k s)
left_ascends low from to high (r ∷ more) ys h k o s =
    left_ascends_if low from to r more ys (ltb r.from to) h k s refl (λ below. left_ascends (suc r.from) (max from r.to) to (suc r.to) more ys (omega (arith, o.1)) (omega arith) o.2 s) (left_ascends low (max from r.to) to (suc r.to) more ys (omega arith) k o.2 s)

-- ---- all of them

both : (x y z : Bool) → ((x && not z) || (y && not z)) ≡ ((x || y) && not z)
both true true true = refl
both true true false = refl
both true false true = refl
both true false false = refl
both false y z = refl

gone : (x y z w : Bool) → x ≡ false → y ≡ false → ((x || y) && not z) ≡ ((x || y) && not w)
gone x y z w h k = ap (λ t. (t || y) && not z) h ∙ ap (λ t. t && not z) k ∙ sym (ap (λ t. (t || y) && not w) h ∙ ap (λ t. t && not w) k)

pub minus_has : (b low high : ℕ) (rs others : List BitRange) → Ascending low rs → Ascending high others → has b (minus rs others) ≡ (has b rs && not (has b others))
minus_has b low high [] others s o = refl
minus_has b low high (r ∷ more) others s o =
    let rest = after r.from others in
    let o' : Ascending high rest = after_ascends high r.from others o in
    list_any-append (inside b) (left r.from r.to rest) (minus more rest)
    ∙ ap (λ x. x || has b (minus more rest)) (left_has b r.from r.to high rest o')
    ∙ ap (λ x. (inside b r && not (has b rest)) || x) (minus_has b (suc r.to) high more rest s.2 o')
    ∙ both (inside b r) (has b more) (has b rest)
    ∙ elim (cases_lt b r.from) [
      | inl h ↦ gone (inside b r) (has b more) (has b rest) (has b others) (below b r h) (none_below b (suc r.to) more s.2 (omega (arith, s.1)))
      | inr h ↦ ap (λ z. (inside b r || has b more) && not z) (after_has b r.from others h)
    ]

pub minus_ascends : (low high : ℕ) (rs others : List BitRange) → Ascending low rs → Ascending high others → Ascending low (minus rs others)
minus_ascends low high [] others s o = tt
minus_ascends low high (r ∷ more) others s o =
    let rest = after r.from others in
    let o' : Ascending high rest = after_ascends high r.from others o in
    left_ascends low r.from r.to high rest (minus more rest) s.0 (omega (arith, s.0, s.1)) o' (minus_ascends (suc r.to) high more rest s.2 o')

-- ---- none of what is left goes past a place that none went past

left_within_if : (from to end : ℕ) (r : BitRange) (more ys : List BitRange) (t : Bool) → t ≡ ltb r.from to → to ≤ end → AllBelow end ys → AllBelow end (left (max from r.to) to more ++ ys)
    → AllBelow end ((if t then settled (range from r.from) ++ left (max from r.to) to more else settled (range from to)) ++ ys)
left_within_if from to end r more ys true e h s one =
    let k : r.from < to = ltb-true r.from to (sym e) in
    rw append_assoc (settled_within end (range from r.from) (left (max from r.to) to more ++ ys) (omega arith) one)
left_within_if from to end r more ys false e h s one = settled_within end (range from to) ys h s

left_within : (from to end : ℕ) (rs ys : List BitRange) → to ≤ end → AllBelow end ys → AllBelow end (left from to rs ++ ys)
left_within from to end [] ys h s = settled_within end (range from to) ys h s
left_within from to end (r ∷ more) ys h s = left_within_if from to end r more ys (ltb r.from to) refl h s (left_within (max from r.to) to end more ys h s)

pub minus_within : (end : ℕ) (rs others : List BitRange) → AllBelow end rs → AllBelow end (minus rs others)
minus_within end [] others s = tt
minus_within end (r ∷ more) others s = left_within r.from r.to end (after r.from others) (minus more (after r.from others)) s.0 (minus_within end more (after r.from others) s.1)
