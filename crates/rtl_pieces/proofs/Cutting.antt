-- Where an element is cut, as the code goes over the bits of each element, and then over those of one.
use Rattle.std.proofs.Common.{◌≡◌, ℕ, suc, ◌+◌, ◌-◌, ◌<◌, Bool, true, false, not, ◌||◌, ◌&&◌, eqb, ltb, List, ◌∷◌, ◌++◌, Option, Some, None, refl, sym, ap, ◌∙◌, subst, arith, append_assoc}
use Rattle.std.specs.Prelude.{if◌then◌else◌, nat_eq}
use Rattle.std.specs.Option.{option_eq}
use Rattle.std.proofs.lemmas.Bool.{eq-eqb, eqb-true, not-true, not-false, false≢true, cond-true, cond-false}
use Rattle.std.proofs.lemmas.Bool.Decides.{nat_tests}
use Rattle.rtl_pieces.specs.declared.item.Item.{Item}
use Rattle.rtl_pieces.specs.declared.pieces.Piece.{Piece}
use Rattle.rtl_pieces.specs.Line.{place_in}
use Rattle.rtl_pieces.specs.Words.{same_writer, same_below, begins, is_cut, piece_if, pieces_from}

same_of : (x : Option ℕ) → same_writer x x ≡ true
same_of (Some p) = eq-eqb p p refl
same_of None = refl

pub option_same : (x y : Option ℕ) → false ≡ not (option_eq nat_eq x y) → x ≡ y
option_same None None e = refl
option_same None (Some q) e = absurd (false≢true e)
option_same (Some p) None e = absurd (false≢true e)
option_same (Some p) (Some q) e = ap Some (eqb-true p q (not-false (eqb p q) (sym e)))

option_other : (x y : Option ℕ) → true ≡ not (option_eq nat_eq x y) → same_writer x y ≡ false
option_other None None e = absurd (false≢true (sym e))
option_other None (Some q) e = refl
option_other (Some p) None e = refl
option_other (Some p) (Some q) e = not-true (eqb p q) (sym e)

-- ---- one bit more of an element

module _ (writer : ℕ → Option ℕ) (first bit : ℕ) where
  pub same_next : (same : ℕ) → same ≡ same_below writer first bit → false ≡ not (option_eq nat_eq (writer (first + bit + 1)) (writer (first + bit))) → same + 1 ≡ same_below writer first (bit + 1)
  same_next same e h =
      let s : suc bit ≡ bit + 1 = omega arith in
      let m : suc same ≡ same + 1 = omega arith in
      let n : first + bit + 1 ≡ first + suc bit = omega arith in
      let w : same_writer (writer (first + suc bit)) (writer (first + bit)) ≡ true =
      ap (λ (x : Option ℕ). same_writer x (writer (first + bit))) (sym (ap writer n) ∙ option_same (writer (first + bit + 1)) (writer (first + bit)) h) ∙ same_of (writer (first + bit)) in
      sym m ∙ ap suc e ∙ sym (cond-true (same_writer (writer (first + suc bit)) (writer (first + bit))) (suc (same_below writer first bit)) 0 w) ∙ ap (same_below writer first) s

  pub other_next : true ≡ not (option_eq nat_eq (writer (first + bit + 1)) (writer (first + bit))) → 0 ≡ same_below writer first (bit + 1)
  other_next h =
      let s : suc bit ≡ bit + 1 = omega arith in
      let n : first + bit + 1 ≡ first + suc bit = omega arith in
      let w : same_writer (writer (first + suc bit)) (writer (first + bit)) ≡ false =
      sym (ap (λ (x : Option ℕ). same_writer x (writer (first + bit))) (ap writer n)) ∙ option_other (writer (first + bit + 1)) (writer (first + bit)) h in
      sym (cond-false (same_writer (writer (first + suc bit)) (writer (first + bit))) (suc (same_below writer first bit)) 0 w) ∙ ap (same_below writer first) s

-- ---- marks

one_place : (x y : ℕ) (e : Bool) (B : ℕ → Bool) → e ≡ eqb x y → (e && B y) ≡ (e && B x)
one_place x y true B h = ap B (sym (eqb-true x y (sym h)))
one_place x y false B h = refl

up_to : (b bit : ℕ) (x : Bool) → ((ltb b bit && x) || (eqb b bit && x)) ≡ (ltb b (bit + 1) && x)
up_to b bit true = grind (arith, nat_tests)
up_to b bit false = grind (arith, nat_tests)

join : (x y z : Bool) → ((x || y) || z) ≡ (x || (y || z))
join true y z = refl
join false y z = refl

-- the marks below a bit, and that of the bit
pub mark_more : (B : ℕ → Bool) (old mid new : Bool) (b bit : ℕ) (t : Bool) → t ≡ B bit → mid ≡ (old || (ltb b bit && B b)) → new ≡ (mid || (eqb b bit && t)) → new ≡ (old || (ltb b (bit + 1) && B b))
mark_more B old mid new b bit t e f g =
    g ∙ ap (λ (m : Bool). m || (eqb b bit && t)) f
    ∙ ap (λ (x : Bool). (old || (ltb b bit && B b)) || (eqb b bit && x)) e
    ∙ ap (λ (x : Bool). (old || (ltb b bit && B b)) || x) (one_place b bit (eqb b bit) B refl)
    ∙ join old (ltb b bit && B b) (eqb b bit && B b)
    ∙ ap (λ (x : Bool). old || x) (up_to b bit (B b))

spread : (old at one rest : Bool) → ((old || (at && one)) || (at && rest)) ≡ (old || (at && (one || rest)))
spread true at one rest = refl
spread false true one rest = refl
spread false false one rest = refl

-- what this element marks, and the elements after it
pub element_more : (writer : ℕ → Option ℕ) (item : Item) (b e n : ℕ) (at mid new all : Bool) → e < n → new ≡ (mid || (at && begins writer (place_in item e 0) b))
    → (mid || (at && is_cut writer item b e (n - e))) ≡ all → (new || (at && is_cut writer item b (e + 1) (n - (e + 1)))) ≡ all
element_more writer item b e n at mid new all h f g =
    let m : n - e ≡ suc (n - (e + 1)) = omega arith in
    let s : suc e ≡ e + 1 = omega arith in
    let next : is_cut writer item b e (n - e) ≡ (begins writer (place_in item e 0) b || is_cut writer item b (e + 1) (n - (e + 1))) =
    ap (is_cut writer item b e) m ∙ ap (λ (i : ℕ). begins writer (place_in item e 0) b || is_cut writer item b i (n - (e + 1))) s in
    ap (λ (x : Bool). x || (at && is_cut writer item b (e + 1) (n - (e + 1)))) f
    ∙ spread mid at (begins writer (place_in item e 0) b) (is_cut writer item b (e + 1) (n - (e + 1)))
    ∙ sym (ap (λ (x : Bool). mid || (at && x)) next) ∙ g

-- ---- pieces

-- the next bit, where it begins a piece and where it does not
pub piece_next : (cut : ℕ → Bool) (from bit width : ℕ) (t : Bool) → from < bit → bit < width → t ≡ cut bit
    → pieces_from cut from (bit - from) (width - bit) ≡ piece_if t from bit ++ pieces_from cut (if t then bit else from) (bit + 1 - (if t then bit else from)) (width - (bit + 1))
piece_next cut from bit width true h k e =
    let m : width - bit ≡ suc (width - (bit + 1)) = omega arith in
    let s : from + (bit - from) ≡ bit = omega arith in
    let one : 1 ≡ bit + 1 - bit = omega arith in
    ap (pieces_from cut from (bit - from)) m
    ∙ cond-true (cut (from + (bit - from))) (record { bit = from; len = bit - from } ∷ pieces_from cut (from + (bit - from)) 1 (width - (bit + 1))) (pieces_from cut from (suc (bit - from)) (width - (bit + 1))) (ap cut s ∙ sym e)
    ∙ ap (λ (i : ℕ). record { bit = from; len = bit - from } ∷ pieces_from cut i 1 (width - (bit + 1))) s
    ∙ ap (λ (i : ℕ). record { bit = from; len = bit - from } ∷ pieces_from cut bit i (width - (bit + 1))) one
piece_next cut from bit width false h k e =
    let m : width - bit ≡ suc (width - (bit + 1)) = omega arith in
    let s : from + (bit - from) ≡ bit = omega arith in
    let one : suc (bit - from) ≡ bit + 1 - from = omega arith in
    ap (pieces_from cut from (bit - from)) m
    ∙ cond-false (cut (from + (bit - from))) (record { bit = from; len = bit - from } ∷ pieces_from cut (from + (bit - from)) 1 (width - (bit + 1))) (pieces_from cut from (suc (bit - from)) (width - (bit + 1))) (ap cut s ∙ sym e)
    ∙ ap (λ (i : ℕ). pieces_from cut from i (width - (bit + 1))) one

below : (from bit : ℕ) (t : Bool) → from < bit → (if t then bit else from) < bit + 1
below from bit true h = omega arith
below from bit false h = omega arith

-- with what is left to cut, the element is whole: after one bit more
pub piece_more : (cut : ℕ → Bool) (from bit width next : ℕ) (t : Bool) (mid new all : List Piece) → from < bit → bit < width → t ≡ cut bit → next ≡ (if t then bit else from)
    → new ≡ mid ++ piece_if t from bit → mid ++ pieces_from cut from (bit - from) (width - bit) ≡ all
    → (new ++ pieces_from cut next (bit + 1 - next) (width - (bit + 1)) ≡ all) × (next < bit + 1)
piece_more cut from bit width next t mid new all h k e is f g =
    let there = if t then bit else from in
    let left = pieces_from cut there (bit + 1 - there) (width - (bit + 1)) in (
      ap (λ (n : ℕ). new ++ pieces_from cut n (bit + 1 - n) (width - (bit + 1))) is
          ∙ ap (λ (ps : List Piece). ps ++ left) f ∙ append_assoc mid (piece_if t from bit) left
          ∙ sym (ap (λ (ps : List Piece). mid ++ ps) (piece_next cut from bit width t h k e)) ∙ g,
      subst (λ (n : ℕ). n < bit + 1) (sym is) (below from bit t h),
    )
