-- Words between two that are no shadows are none, and stand between them in the line of bits.
use Rattle.std.proofs.Common.{◌≡◌, ℕ, zero, suc, ◌+◌, ◌-◌, ◌*◌, ◌<◌, ◌≤◌, ◌⊎◌, Bool, true, false, ◌&&◌, not, List, [], ◌∷◌, ◌++◌, Option, Some, None, refl, sym, ap, ◌∙◌, subst, arith, inl, inr}
use Rattle.std.specs.Prelude.{nat_lt, nat_le, slice_get}
use Rattle.std.specs.List.{list_all, list_any}
use Rattle.std.proofs.lemmas.Bool.{and_parts, and_from, ltb-true, leb-true, le-leb, lt-ltb, or_cases, or_left, or_right}
use Rattle.std.proofs.lemmas.Nat.{mul-le}
use Rattle.rtl_ir.specs.declared.whole.Design.{Design}
use Rattle.rtl_pieces.specs.declared.layout.Word.{Word}
use Rattle.rtl_pieces.specs.declared.range.BitRange.{BitRange}
use Rattle.rtl_pieces.specs.Line.{Line, inside, has, place_of}
use Rattle.rtl_pieces.specs.Bits.{line_in}
use Rattle.rtl_pieces.specs.Words.{writer_of, pieces_in, shadows_of, Tiles}
use Rattle.task_eval.specs.declared.index.Elements.{Elements}
use Rattle.plan_types.specs.Cuts.{IsCut}
use Rattle.plan_types.specs.Touches.{some_bit, plain_if}
use Rattle.model_build.specs.Reaching.{covers, spans}
use Rattle.model_build.proofs.Covering.{is_plain, is_shadow, words_plain, shadows_all}
use Rattle.model_build.proofs.Reaching.{some_at}

-- a word of a number is no shadow, is not empty, and stands between two places
record Between (words : List Word) (m low high : ℕ) (line : Line) : Type 0 where
  pub word : Word
  pub is : slice_get words m ≡ Some word
  pub light : word.shadow ≡ false
  pub some : 1 ≤ word.len
  pub above : low ≤ place_of line word.holds
  pub below : place_of line word.holds ≤ high

abbrev word_or : Word → Option Word → Word
word_or d (Some word) = word
word_or d None = d

same_word : (a b : Word) → Some a ≡ Some b → a ≡ b
same_word a b e = ap (word_or a) e

not_false : (b : Bool) → not b ≡ true → b ≡ false
not_false true e = absurd (let f : false ≡ true = e in cc)
not_false false e = refl

dark_at : (words : List Word) → list_all is_shadow words ≡ true → (j : ℕ) (word : Word) → slice_get words j ≡ Some word → word.shadow ≡ true
dark_at [] all j word is = absurd (let e : None ≡ Some word = is in cc)
dark_at (x ∷ more) all zero word is = subst (λ (w : Word). w.shadow ≡ true) (same_word x word is) (and_parts x.shadow (list_all is_shadow more) all).0
dark_at (x ∷ more) all (suc j) word is = dark_at more (and_parts x.shadow (list_all is_shadow more) all).1 j word is

upto : (line : Line) (n to : ℕ) (words shadows : List Word) → Tiles line n to words → list_all is_plain words ≡ true → list_all is_shadow shadows ≡ true
    → (m j : ℕ) (last : Word) → m ≤ j → slice_get (words ++ shadows) j ≡ Some last → last.shadow ≡ false → Between (words ++ shadows) m n (place_of line last.holds) line
upto line n to [] shadows tiles plain dark m j last le is light = absurd (let a = dark_at shadows dark j last is in let e : true ≡ false = sym a ∙ light in cc)
upto line n to (x ∷ more) shadows tiles plain dark zero zero last le is light =
    let at : place_of line x.holds ≡ n = tiles.0 in
    let same = ap (λ (w : Word). place_of line w.holds) (same_word x last is) in
    record { word = x; is = refl; light = not_false x.shadow (and_parts (is_plain x) (list_all is_plain more) plain).0; some = tiles.1; above = omega (arith, at); below = omega (arith, same) }
upto line n to (x ∷ more) shadows tiles plain dark zero (suc j) last le is light =
    let at : place_of line x.holds ≡ n = tiles.0 in
    let rest = upto line (n + x.len) to more shadows tiles.2 (and_parts (is_plain x) (list_all is_plain more) plain).1 dark zero j last (omega arith) is light in
    let low = rest.above in let high = rest.below in
    record { word = x; is = refl; light = not_false x.shadow (and_parts (is_plain x) (list_all is_plain more) plain).0; some = tiles.1; above = omega (arith, at); below = omega (arith, at, low, high) }
upto line n to (x ∷ more) shadows tiles plain dark (suc m) zero last le is light = absurd (omega (arith, le))
upto line n to (x ∷ more) shadows tiles plain dark (suc m) (suc j) last le is light =
    let rest = upto line (n + x.len) to more shadows tiles.2 (and_parts (is_plain x) (list_all is_plain more) plain).1 dark m j last (omega (arith, le)) is light in
    let low = rest.above in
    record { word = rest.word; is = rest.is; light = rest.light; some = rest.some; above = omega (arith, low); below = rest.below }

covered_has : (low high b : ℕ) (ranges : List BitRange) → list_any (covers low high) ranges ≡ true → low ≤ b → b ≤ high → has b ranges ≡ true
covered_has low high b [] any above below = absurd (let e : false ≡ true = any in cc)
covered_has low high b (r ∷ more) any above below = by_cases (λ rest. covered_has low high b more rest above below) (or_cases (covers low high r) (list_any (covers low high) more) any)
  where
    by_cases : (list_any (covers low high) more ≡ true → has b more ≡ true) → (covers low high r ≡ true) ⊎ (list_any (covers low high) more ≡ true) → has b (r ∷ more) ≡ true
    by_cases others (inl e) =
        let ends = and_parts (nat_le r.from low) (nat_lt high r.to) e in
        let from = leb-true r.from low ends.0 in
        let to = ltb-true high r.to ends.1 in
        or_left (inside b r) (has b more) (and_from (nat_le r.from b) (nat_lt b r.to) (le-leb r.from b (omega (arith, from, above))) (lt-ltb b r.to (omega (arith, to, below))))
    by_cases others (inr rest) = or_right (inside b r) (has b more) (others rest)

module _ (design : Design) (words : List Word) (cut : IsCut design words) (ranges : List BitRange) (f : ℕ → Bool) (on : (b : ℕ) → has b ranges ≡ true → f b ≡ true) where
  abbrev line : Line
  line = line_in design

  abbrev pieces : List Word
  pieces = pieces_in (line_in design) design.procs

  abbrev shadows : List Word
  shadows = shadows_of (line_in design) design.procs pieces

  -- the word of a number from that of the first on and up to that of the last has a bit in the range
  one : (i j m : ℕ) (first last : Word) → slice_get words (suc i) ≡ Some first → slice_get words (suc j) ≡ Some last → first.shadow ≡ false → last.shadow ≡ false
      → list_any (covers (place_of line first.holds) (place_of line last.holds)) ranges ≡ true → i ≤ m → m ≤ j → plain_if line f (slice_get words (suc m)) ≡ true
  one i j m first last is_first is_last light_first light_last any above below =
      let as_cut : (k : ℕ) → slice_get words (suc k) ≡ slice_get (pieces ++ shadows) k = λ k. ap (λ (ws : List Word). slice_get ws (suc k)) cut.words_are in
      let plain = words_plain (writer_of line design.procs) line.vars 0 line.items in
      let dark = shadows_all line design.procs pieces in
      let mid = upto line 0 line.bits pieces shadows cut.tiles plain dark m j last below (sym (as_cut j) ∙ is_last) light_last in
      let start = upto line 0 line.bits pieces shadows cut.tiles plain dark i m mid.word above mid.is mid.light in
      let is_start : start.word ≡ first = same_word start.word first (sym start.is ∙ sym (as_cut i) ∙ is_first) in
      let from = ap (λ (w : Word). place_of line w.holds) is_start in
      let low = start.below in
      let high = mid.below in
      let held = covered_has (place_of line first.holds) (place_of line last.holds) (place_of line mid.word.holds) ranges any (omega (arith, from, low)) high in
      let zeroth : place_of line mid.word.holds + 0 ≡ place_of line mid.word.holds = omega arith in
      let bit : some_bit line f mid.word ≡ true = some_at (λ k. f (place_of line mid.word.holds + k)) mid.word.len 0 mid.some (subst (λ b. f b ≡ true) (sym zeroth) (on (place_of line mid.word.holds) held)) in
      let shown : plain_if line f (Some mid.word) ≡ true = and_from (not mid.word.shadow) (some_bit line f mid.word) (ap not mid.light) bit in
      subst (λ (w : Option Word). plain_if line f w ≡ true) (sym (as_cut m ∙ mid.is)) shown

  -- each element of some that one range spans
  pub spanned : (e : Elements) → 0 < e.base → spans line ranges (slice_get words e.base) (slice_get words (e.base + (e.count - 1) * e.stride)) ≡ true
      → (k : ℕ) → k < e.count → plain_if line f (slice_get words (e.base + k * e.stride)) ≡ true
  spanned e some is k less = by_words (slice_get words e.base) (slice_get words (e.base + (e.count - 1) * e.stride)) refl refl is
    where
      by_words : (x y : Option Word) → slice_get words e.base ≡ x → slice_get words (e.base + (e.count - 1) * e.stride) ≡ y → spans line ranges x y ≡ true → plain_if line f (slice_get words (e.base + k * e.stride)) ≡ true
      by_words None y is_first is_last is = absurd (let g : false ≡ true = is in cc)
      by_words (Some first) None is_first is_last is = absurd (let g : false ≡ true = is in cc)
      by_words (Some first) (Some last) is_first is_last is =
          let parts = and_parts (not first.shadow) (not last.shadow && list_any (covers (place_of line first.holds) (place_of line last.holds)) ranges) is in
          let rest = and_parts (not last.shadow) (list_any (covers (place_of line first.holds) (place_of line last.holds)) ranges) parts.1 in
          let i = e.base - 1 in
          let far = (e.count - 1) * e.stride in
          let near = k * e.stride in
          let within : near ≤ far = mul-le k e.stride (e.count - 1) e.stride (omega (arith, less)) (omega arith) in
          let at_first : e.base ≡ suc i = omega (arith, some) in
          let at_last : e.base + far ≡ suc (i + far) = omega (arith, some) in
          let at_mid : e.base + near ≡ suc (i + near) = omega (arith, some) in
          subst (λ n. plain_if line f (slice_get words n) ≡ true) (sym at_mid)
          (one i (i + far) (i + near) first last (ap (slice_get words) (sym at_first) ∙ is_first) (ap (slice_get words) (sym at_last) ∙ is_last)
          (not_false first.shadow parts.0) (not_false last.shadow rest.0) rest.1 (omega arith) (omega (arith, within)))
