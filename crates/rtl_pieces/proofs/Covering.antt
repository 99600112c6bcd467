-- The words that stand between two places.
use Rattle.std.proofs.Common.{min, ◌≡◌, ℕ, zero, suc, ◌+◌, ◌-◌, ◌<◌, ◌≤◌, Bool, true, false, ◌&&◌, leb, ltb, List, [], ◌∷◌, length, get_or, sym, ap, ◌∙◌, arith, inl, inr}
use Rattle.std.specs.Prelude.{⊤}
use Rattle.std.specs.List.Sorted.{IsNonDecreasing, IsPartitionPoint}
use Rattle.std.proofs.lemmas.Bool.{cond_both, cases_lt, leb-true, leb-false, ltb-true, ltb-false, le-leb, lt-leb, lt-ltb, le-ltb}
use Rattle.std.proofs.lemmas.Bool.Decides.{nat_tests}
use Rattle.rtl_pieces.specs.declared.layout.Word.{Word}
use Rattle.rtl_pieces.specs.Cover.{places_of}

-- none is below the one before it, nor the first below a number
abbrev Above : ℕ → List ℕ → Type 0
Above low [] = ⊤
Above low (n ∷ more) = (low ≤ n) × Above n more

weaken : (low high : ℕ) (ns : List ℕ) → low ≤ high → Above high ns → Above low ns
weaken low high [] h s = tt
weaken low high (n ∷ more) h s = (omega (arith, s.0), s.1)

places_above : (before : ℕ) (words : List Word) → Above before (places_of before words)
places_above before [] = (omega arith, tt)
places_above before (word ∷ more) =
    cond_both word.shadow (before ∷ []) (before ∷ places_of (before + word.len) more) (Above before)
    (λ e. (omega arith, tt))
    (λ e. (omega arith, weaken before (before + word.len) (places_of (before + word.len) more) (omega arith) (places_above (before + word.len) more)))

above_all : (low : ℕ) (ns : List ℕ) → Above low ns → (i d : ℕ) → i < length ns → low ≤ get_or ns i d
above_all low [] s i d k = absurd (omega arith)
above_all low (n ∷ more) s zero d k = s.0
above_all low (n ∷ more) s (suc i) d k = let h : n ≤ get_or more i d = above_all n more s.1 i d (omega arith) in omega (arith, s.0)

in_order : (low : ℕ) (ns : List ℕ) → Above low ns → (i j d : ℕ) → i ≤ j → j < length ns → get_or ns i d ≤ get_or ns j d
in_order low [] s i j d h k = absurd (omega arith)
in_order low (n ∷ more) s zero zero d h k = omega arith
in_order low (n ∷ more) s zero (suc j) d h k = above_all n more s.1 j d (omega arith)
in_order low (n ∷ more) s (suc i) zero d h k = absurd (omega arith)
in_order low (n ∷ more) s (suc i) (suc j) d h k = in_order n more s.1 i j d (omega arith) (omega arith)

pub places_rise : (words : List Word) → IsNonDecreasing (places_of 0 words)
places_rise words i j d h k = in_order 0 (places_of 0 words) (places_above 0 words) i j d h k

pub places_few : (before : ℕ) (words : List Word) → length (places_of before words) ≤ suc (length words)
places_few before [] = omega arith
places_few before (word ∷ more) =
    cond_both word.shadow (before ∷ []) (before ∷ places_of (before + word.len) more) (λ (ps : List ℕ). length ps ≤ suc (suc (length more)))
    (λ e. omega arith) (λ e. let h : length (places_of (before + word.len) more) ≤ suc (length more) = places_few (before + word.len) more in omega arith)

-- ---- from the search for two places

begins : (ns : List ℕ) (begun from w : ℕ) → IsPartitionPoint (λ n. leb n from ≡ true) (λ n. leb n from ≡ false) ns begun → suc w < length ns
    → leb (begun - 1) w ≡ ltb from (get_or ns (suc w) 0)
begins ns begun from w p k = elim (cases_lt (suc w) begun) [
  | inl before ↦
      (let h : get_or ns (suc w) 0 ≤ from = leb-true (get_or ns (suc w) 0) from (p.0 (suc w) 0 (omega arith) before) in
      lt-leb (begun - 1) w (omega arith) ∙ sym (le-ltb from (get_or ns (suc w) 0) h))
  | inr after ↦
      (let h : from < get_or ns (suc w) 0 = leb-false (get_or ns (suc w) 0) from (p.1 (suc w) 0 after k) in
      le-leb (begun - 1) w (omega arith) ∙ sym (lt-ltb from (get_or ns (suc w) 0) h))
]

ends : (ns : List ℕ) (end to w : ℕ) → IsPartitionPoint (λ n. ltb n to ≡ true) (λ n. ltb n to ≡ false) ns end → suc w < length ns
    → ltb w end ≡ ltb (get_or ns w 0) to
ends ns end to w p k = elim (cases_lt w end) [
  | inl before ↦
      (let h : get_or ns w 0 < to = ltb-true (get_or ns w 0) to (p.0 w 0 (omega arith) before) in
      lt-ltb w end before ∙ sym (lt-ltb (get_or ns w 0) to h))
  | inr after ↦
      (let h : to ≤ get_or ns w 0 = ltb-false (get_or ns w 0) to (p.1 w 0 after (omega arith)) in
      le-ltb w end after ∙ sym (le-ltb (get_or ns w 0) to h))
]

swap : (x y z : Bool) → z ≡ true → (x && y) ≡ (z && (y && x))
swap true true z h = sym (ap (λ (t : Bool). t && true) h)
swap true false z h = sym (ap (λ (t : Bool). t && false) h)
swap false true z h = sym (ap (λ (t : Bool). t && false) h)
swap false false z h = sym (ap (λ (t : Bool). t && false) h)

pub same_end : (w end words : ℕ) → w < words → ltb w (min end words) ≡ ltb w end
same_end w end words h = grind (arith, nat_tests)

pub covers : (ns : List ℕ) (begun end from to : ℕ) → from < to
    → IsPartitionPoint (λ n. leb n from ≡ true) (λ n. leb n from ≡ false) ns begun
    → IsPartitionPoint (λ n. ltb n to ≡ true) (λ n. ltb n to ≡ false) ns end
    → (w : ℕ) → suc w < length ns
    → (leb (begun - 1) w && ltb w end) ≡ (ltb from to && (ltb (get_or ns w 0) to && ltb from (get_or ns (suc w) 0)))
covers ns begun end from to some p q w k =
    ap (λ (x : Bool). x && ltb w end) (begins ns begun from w p k)
    ∙ ap (λ (x : Bool). ltb from (get_or ns (suc w) 0) && x) (ends ns end to w q k)
    ∙ swap (ltb from (get_or ns (suc w) 0)) (ltb (get_or ns w 0) to) (ltb from to) (lt-ltb from to some)
