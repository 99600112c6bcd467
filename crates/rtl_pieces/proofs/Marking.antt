-- The first writer of each bit, as processes are noted one after another.
use Rattle.std.proofs.Common.{◌≡◌, ℕ, zero, suc, ◌+◌, ◌<◌, ◌≤◌, Bool, true, false, ◌||◌, ◌&&◌, leb, ltb, eqb, Option, Some, None, refl, sym, ap, ◌∙◌, arith}
use Rattle.std.specs.Prelude.{if◌then◌else◌}
use Rattle.std.proofs.lemmas.Bool.Decides.{nat_tests}
use Rattle.rtl_pieces.specs.Words.{noted_also, first_writer}

-- a process that is noted twice
pub also_twice : (before : Option ℕ) (x y : Bool) (p : ℕ) → noted_also (noted_also before x p) y p ≡ noted_also before (x || y) p
also_twice (Some q) x y p = refl
also_twice None true y p = refl
also_twice None false y p = refl

-- from a place on, one more
one_more : (within : Bool) (b from place size : ℕ) → within ≡ ltb b size → from ≤ place → place < size → ((within && (leb from b && ltb b place)) || eqb b place) ≡ (within && (leb from b && ltb b (place + 1)))
one_more true b from place size e h k = grind (arith, nat_tests)
one_more false b from place size e h k = grind (arith, nat_tests)

pub range_more : (before mid new : Option ℕ) (b from place size p : ℕ) → from ≤ place → place < size
    → mid ≡ noted_also before (ltb b size && (leb from b && ltb b place)) p → new ≡ noted_also mid (eqb b place) p
    → new ≡ noted_also before (ltb b size && (leb from b && ltb b (place + 1))) p
range_more before mid new b from place size p h k e f =
    f ∙ ap (λ (o : Option ℕ). noted_also o (eqb b place) p) e
    ∙ also_twice before (ltb b size && (leb from b && ltb b place)) (eqb b place) p
    ∙ ap (λ (x : Bool). noted_also before x p) (one_more (ltb b size) b from place size refl h k)

-- one process more
more_if : (t : Bool) (writes : ℕ → ℕ → Bool) (from n b m : ℕ) → first_writer writes (suc from) (suc n) b ≡ noted_also (first_writer writes (suc from) n b) (writes m b) m
    → (if t then Some from else first_writer writes (suc from) (suc n) b) ≡ noted_also (if t then Some from else first_writer writes (suc from) n b) (writes m b) m
more_if true writes from n b m e = refl
more_if false writes from n b m e = e

writer_next : (writes : ℕ → ℕ → Bool) (from n b m : ℕ) → m ≡ from + n → first_writer writes from (suc n) b ≡ noted_also (first_writer writes from n b) (writes m b) m
writer_next writes from zero b m e = let f : from ≡ m = omega arith in ap (λ (k : ℕ). if writes k b then Some k else None) f
writer_next writes from (suc n) b m e = more_if (writes from b) writes from n b m (writer_next writes (suc from) n b m (omega arith))

pub writer_more : (writes : ℕ → ℕ → Bool) (n b : ℕ) (before new : Option ℕ) → before ≡ first_writer writes 0 n b → new ≡ noted_also before (writes n b) n → new ≡ first_writer writes 0 (n + 1) b
writer_more writes n b before new e f =
    let s : suc n ≡ n + 1 = omega arith in
    f ∙ ap (λ (o : Option ℕ). noted_also o (writes n b) n) e ∙ sym (writer_next writes 0 n b n (omega arith)) ∙ ap (λ (k : ℕ). first_writer writes 0 k b) s

-- ---- what is read through a slice of a vector
