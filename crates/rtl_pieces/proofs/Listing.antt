-- From the bits of ranges, one by one, to the set that they are.
use Rattle.std.proofs.Common.{◌≡◌, ℕ, zero, suc, ◌+◌, ◌-◌, ◌<◌, ◌≤◌, Bool, true, false, ◌||◌, ◌&&◌, ltb, leb, eqb, List, [], ◌∷◌, ◌++◌, map, length, refl, sym, ap, ◌∙◌, subst, arith}
use Rattle.std.specs.Prelude.{⊤}
use Rattle.std.specs.List.{list_any, list_all}
use Rattle.std.proofs.lemmas.List.{append-nil, append_assoc, map-append}
use Rattle.std.proofs.lemmas.List.Folds.{list_any-append, list_all-append}
use Rattle.std.proofs.lemmas.Bool.{and_parts, and_from}
use Rattle.std.proofs.lemmas.Bool.Decides.{nat_tests}
use Rattle.rtl_pieces.specs.declared.range.BitRange.{BitRange}
use Rattle.rtl_pieces.specs.declared.bit.BitRef.{BitRef}
use Rattle.rtl_pieces.specs.Line.{Line, inside, has, is_bit, place_of}
use Rattle.rtl_pieces.specs.Bits.{lists, Rises, places_from, places_in}
use Rattle.rtl_pieces.specs.Ranges.{Ascending}

-- whether a place is one of some
abbrev among : ℕ → List ℕ → Bool
among b places = list_any (λ n. eqb n b) places

lists_places : (line : Line) (bits : List BitRef) (b : ℕ) → lists line bits b ≡ among b (map (place_of line) bits)
lists_places line [] b = refl
lists_places line (bit ∷ more) b = ap (λ x. eqb (place_of line bit) b || x) (lists_places line more b)

one_more : (b place more : ℕ) → (eqb place b || (leb (suc place) b && ltb b (suc place + more))) ≡ (leb place b && ltb b (place + suc more))
one_more b place more = grind (arith, nat_tests)

none_left : (b place : ℕ) → false ≡ (leb place b && ltb b (place + 0))
none_left b place = grind (arith, nat_tests)

from_has : (b place more : ℕ) → among b (places_from place more) ≡ (leb place b && ltb b (place + more))
from_has b place zero = none_left b place
from_has b place (suc more) = ap (λ x. eqb place b || x) (from_has b (suc place) more) ∙ one_more b place more

range_has : (b : ℕ) (r : BitRange) → (leb r.from b && ltb b (r.from + (r.to - r.from))) ≡ inside b r
range_has b r = grind (arith, nat_tests)

places_has : (b : ℕ) (ranges : List BitRange) → among b (places_in ranges) ≡ has b ranges
places_has b [] = refl
places_has b (r ∷ more) =
    list_any-append (λ n. eqb n b) (places_from r.from (r.to - r.from)) (places_in more)
    ∙ ap (λ x. x || among b (places_in more)) (from_has b r.from (r.to - r.from) ∙ range_has b r)
    ∙ ap (λ x. inside b r || x) (places_has b more)

pub lists_has : (line : Line) (bits : List BitRef) (ranges : List BitRange) → map (place_of line) bits ≡ places_in ranges → (b : ℕ) → lists line bits b ≡ has b ranges
lists_has line bits ranges e b = lists_places line bits b ∙ ap (among b) e ∙ places_has b ranges

-- one bit more
pub places_more : (line : Line) (done new : List BitRef) (bit : BitRef) (place to : ℕ) (all : List ℕ) → place < to → place_of line bit ≡ place → new ≡ done ++ bit ∷ []
    → map (place_of line) done ++ places_from place (to - place) ≡ all → map (place_of line) new ++ places_from (place + 1) (to - (place + 1)) ≡ all
places_more line done new bit place to all h at e g =
    let m : to - place ≡ suc (to - (place + 1)) = omega arith in
    let s : suc place ≡ place + 1 = omega arith in
    let left = places_from (place + 1) (to - (place + 1)) in
    ap (λ (bits : List BitRef). map (place_of line) bits ++ left) e
    ∙ ap (λ (ns : List ℕ). ns ++ left) (map-append (place_of line) done (bit ∷ []))
    ∙ append_assoc (map (place_of line) done) (place_of line bit ∷ []) left
    ∙ ap (λ (n : ℕ). map (place_of line) done ++ n ∷ left) at
    ∙ sym (ap (λ (n : ℕ). map (place_of line) done ++ places_from place n) m
    ∙ ap (λ (n : ℕ). map (place_of line) done ++ place ∷ places_from n (to - (place + 1))) s) ∙ g

pub there_more : (line : Line) (done new : List BitRef) (bit : BitRef) → list_all (is_bit line) done ≡ true → is_bit line bit ≡ true → new ≡ done ++ bit ∷ [] → list_all (is_bit line) new ≡ true
there_more line done new bit h k e =
    ap (list_all (is_bit line)) e ∙ list_all-append (is_bit line) done (bit ∷ [])
    ∙ and_from (list_all (is_bit line) done) (is_bit line bit && true) h (and_from (is_bit line bit) true k refl)

pub places_end : (done : List ℕ) (rest : List BitRange) (all : List ℕ) → length rest < 1 → done ++ places_in rest ≡ all → done ≡ all
places_end done [] all h e = sym (append-nil done) ∙ e
places_end done (r ∷ more) all h e = absurd (omega arith)

-- ---- the order

-- each is above the one before it, and the first no lower than a place
abbrev Up : ℕ → List ℕ → Type 0
Up low [] = ⊤
Up low (n ∷ more) = (low ≤ n) × Up (suc n) more

up_weaken : (low high : ℕ) (ns : List ℕ) → low ≤ high → Up high ns → Up low ns
up_weaken low high [] h s = tt
up_weaken low high (n ∷ more) h s = (omega (arith, s.0), s.1)

up_from : (low place more : ℕ) (ns : List ℕ) → low ≤ place → Up (place + more) ns → Up low (places_from place more ++ ns)
up_from low place zero ns h s = up_weaken low (place + 0) ns (omega arith) s
up_from low place (suc more) ns h s =
    let e : place + suc more ≡ suc place + more = omega arith in
    (h, up_from (suc place) (suc place) more ns (omega arith) (subst (λ (n : ℕ). Up n ns) e s))

up_places : (low : ℕ) (ranges : List BitRange) → Ascending low ranges → Up low (places_in ranges)
up_places low [] s = tt
up_places low (r ∷ more) s =
    up_from low r.from (r.to - r.from) (places_in more) s.0
    (up_weaken (r.from + (r.to - r.from)) (suc r.to) (places_in more) (omega (arith, s.1)) (up_places (suc r.to) more s.2))

up_rises : (line : Line) (low : ℕ) (bits : List BitRef) → Up low (map (place_of line) bits) → list_all (is_bit line) bits ≡ true → Rises line low bits
up_rises line low [] s h = tt
up_rises line low (bit ∷ more) s h =
    let parts = and_parts (is_bit line bit) (list_all (is_bit line) more) h in
    (s.0, parts.0, up_rises line (suc (place_of line bit)) more s.1 parts.1)

pub rises : (line : Line) (bits : List BitRef) (ranges : List BitRange) → map (place_of line) bits ≡ places_in ranges → list_all (is_bit line) bits ≡ true → Ascending 0 ranges → Rises line 0 bits
rises line bits ranges e h s = up_rises line 0 bits (subst (λ (ns : List ℕ). Up 0 ns) (sym e) (up_places 0 ranges s)) h
