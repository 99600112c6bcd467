-- The words of a design stand one behind the other, each bit in one of them, and the bits of a word have one writer.
use Rattle.std.proofs.Common.{◌≡◌, ℕ, zero, suc, ◌+◌, ◌-◌, ◌<◌, ◌≤◌, Bool, true, false, cond, ◌&&◌, not, List, [], ◌∷◌, ◌++◌, map, length, Option, refl, sym, ap, ◌∙◌, arith, inl, inr, ◌⊎◌}
use Rattle.std.specs.Prelude.{nat_lt, nat_le, max, slice_index, if◌then◌else◌}
use Rattle.std.specs.List.{list_all, list_any, All}
use Rattle.std.proofs.lemmas.Bool.{and_parts, and_from, cases_Bool, ltb-true, ltb-false, leb-true, le-leb, lt-ltb, or_cases, or_left, or_right}
use Rattle.rtl_ir.specs.declared.design.Proc.{Proc}
use Rattle.rtl_ir.specs.declared.whole.Design.{Design}
use Rattle.rtl_pieces.specs.declared.range.BitRange.{BitRange}
use Rattle.rtl_pieces.specs.declared.item.Item.{Item}
use Rattle.rtl_pieces.specs.declared.layout.Word.{Word}
use Rattle.rtl_pieces.specs.declared.pieces.Piece.{Piece}
use Rattle.rtl_pieces.specs.Line.{Line, inside, has, place_of}
use Rattle.rtl_pieces.specs.Bits.{line_in}
use Rattle.rtl_pieces.specs.Cover.{places_of}
use Rattle.rtl_pieces.specs.Words.{writer_of, word_of, element_words, item_words, words_from, shadow_if, shadows_of, is_clocked, pieces_of, pieces_in, words_in, Tiles, IsPiece}
use Rattle.plan_types.specs.Cuts.{IsCut}
use Rattle.model_build.specs.Touching.{is_in}

-- ---- no piece is a shadow

abbrev pub is_plain : Word → Bool
is_plain word = not word.shadow

abbrev pub is_shadow : Word → Bool
is_shadow word = word.shadow

all_append : (p : Word → Bool) (xs ys : List Word) → list_all p xs ≡ true → list_all p ys ≡ true → list_all p (xs ++ ys) ≡ true
all_append p [] ys one two = two
all_append p (x ∷ xs) ys one two =
    let parts = and_parts (p x) (list_all p xs) one in
    and_from (p x) (list_all p (xs ++ ys)) parts.0 (all_append p xs ys parts.1 two)

map_plain : (mem : Bool) (item element : ℕ) (pieces : List Piece) → list_all is_plain (map (word_of mem item element) pieces) ≡ true
map_plain mem item element [] = refl
map_plain mem item element (piece ∷ more) = map_plain mem item element more

elements_plain : (mem : Bool) (item : ℕ) (pieces : List Piece) (element many : ℕ) → list_all is_plain (element_words mem item pieces element many) ≡ true
elements_plain mem item pieces element zero = refl
elements_plain mem item pieces element (suc many) =
    all_append is_plain (map (word_of mem item element) pieces) (element_words mem item pieces (suc element) many) (map_plain mem item element pieces) (elements_plain mem item pieces (suc element) many)

pub words_plain : (writer : ℕ → Option ℕ) (vars number : ℕ) (items : List Item) → list_all is_plain (words_from writer vars number items) ≡ true
words_plain writer vars number [] = refl
words_plain writer vars number (item ∷ more) =
    all_append is_plain (if nat_lt number vars then item_words writer false number item else item_words writer true (number - vars) item) (words_from writer vars (suc number) more) (either (nat_lt number vars)) (words_plain writer vars (suc number) more)
  where
    either : (t : Bool) → list_all is_plain (if t then item_words writer false number item else item_words writer true (number - vars) item) ≡ true
    either true = elements_plain false number (pieces_of writer item) 0 item.elements
    either false = elements_plain true (number - vars) (pieces_of writer item) 0 item.elements

pub shadows_all : (line : Line) (procs : List Proc) (words : List Word) → list_all is_shadow (shadows_of line procs words) ≡ true
shadows_all line procs [] = refl
shadows_all line procs (word ∷ more) =
    all_append is_shadow (shadow_if (is_clocked procs (writer_of line procs (place_of line word.holds))) word) (shadows_of line procs more) (one (is_clocked procs (writer_of line procs (place_of line word.holds)))) (shadows_all line procs more)
  where
    one : (t : Bool) → list_all is_shadow (shadow_if t word) ≡ true
    one true = refl
    one false = refl

-- ---- where the pieces begin

abbrev pub starts : ℕ → List Word → List ℕ
starts n [] = n ∷ []
starts n (word ∷ more) = n ∷ starts (n + word.len) more

starts_first : (n : ℕ) (words : List Word) → slice_index (starts n words) 0 ≡ n
starts_first n [] = refl
starts_first n (word ∷ more) = refl

places_are : (n : ℕ) (words shadows : List Word) → list_all is_plain words ≡ true → list_all is_shadow shadows ≡ true → places_of n (words ++ shadows) ≡ starts n words
places_are n [] [] plain dark = refl
places_are n [] (s ∷ more) plain dark =
    ap (λ (t : Bool). cond t (n ∷ []) (n ∷ places_of (n + s.len) more)) (and_parts s.shadow (list_all is_shadow more) dark).0
places_are n (word ∷ more) shadows plain dark =
    let parts = and_parts (is_plain word) (list_all is_plain more) plain in
    ap (λ (t : Bool). cond t (n ∷ []) (n ∷ places_of (n + word.len) (more ++ shadows))) (not_true word.shadow parts.0)
    ∙ ap (λ (xs : List ℕ). n ∷ xs) (places_are (n + word.len) more shadows parts.1 dark)
  where
    not_true : (t : Bool) → not t ≡ true → t ≡ false
    not_true true e = absurd (let f : false ≡ true = e in cc)
    not_true false e = refl

-- the places of a design's words: word 0 holds no bit
pub places_in : (line : Line) (procs : List Proc) → places_of 0 (words_in line procs) ≡ 0 ∷ starts 0 (pieces_in line procs)
places_in line procs =
    ap (λ (xs : List ℕ). 0 ∷ xs) (places_are 0 (pieces_in line procs) (shadows_of line procs (pieces_in line procs)) (words_plain (writer_of line procs) line.vars 0 line.items) (shadows_all line procs (pieces_in line procs)))

-- ---- a bit stands in a word

pub record Stands (places : List ℕ) (w b : ℕ) : Type 0 where
  pub there : suc w < length places
  pub low : slice_index places w ≤ b
  pub high : b < slice_index places (suc w)

covering : (line : Line) (n to : ℕ) (words : List Word) → Tiles line n to words → (b : ℕ) → n ≤ b → b < to → (w : ℕ) × Stands (starts n words) w b
covering line n to [] tiles b low high = absurd (let e : n ≡ to = tiles in omega arith)
covering line n to (word ∷ more) tiles b low high = by_test (λ above. covering line (n + word.len) to more tiles.2 b above high) (cases_Bool (nat_lt b (n + word.len)))
  where
    by_test : (n + word.len ≤ b → (w : ℕ) × Stands (starts (n + word.len) more) w b) → (nat_lt b (n + word.len) ≡ true) ⊎ (nat_lt b (n + word.len) ≡ false) → (w : ℕ) × Stands (starts n (word ∷ more)) w b
    by_test others (inl e) =
        let less = ltb-true b (n + word.len) e in
        let first = starts_first (n + word.len) more in
        (0, record { there = some more (n + word.len); low = low; high = omega arith })
      where
        some : (words : List Word) (m : ℕ) → 1 < suc (length (starts m words))
        some [] m = omega arith
        some (x ∷ xs) m = omega arith
    by_test others (inr e) =
        let rest = others (ltb-false b (n + word.len) e) in
        (suc rest.0, record { there = let t = rest.1.there in omega arith; low = rest.1.low; high = rest.1.high })

rising : (line : Line) (n to : ℕ) (words : List Word) → Tiles line n to words → (w : ℕ) → suc w < length (starts n words) → slice_index (starts n words) w < slice_index (starts n words) (suc w)
rising line n to [] tiles w there = absurd (omega arith)
rising line n to (word ∷ more) tiles zero there = let first = starts_first (n + word.len) more in let some = tiles.1 in omega arith
rising line n to (word ∷ more) tiles (suc w) there = rising line (n + word.len) to more tiles.2 w (omega arith)

module _ (line : Line) (procs : List Proc) where
  same_in : (n to : ℕ) (words : List Word) → Tiles line n to words → All (IsPiece line procs) words → (w b c : ℕ) → Stands (starts n words) w b → Stands (starts n words) w c → writer_of line procs b ≡ writer_of line procs c
  same_in n to [] tiles all w b c one two = absurd (let there = one.there in omega arith)
  same_in n to (word ∷ more) tiles all zero b c one two =
      let first = starts_first (n + word.len) more in
      let at : place_of line word.holds ≡ n = tiles.0 in
      let low = one.low in let high = one.high in let low_c = two.low in let high_c = two.high in
      let piece : IsPiece line procs word = all 0 word (omega arith) in
      let of_b = piece.one_writer (b - n) (omega arith) in
      let of_c = piece.one_writer (c - n) (omega arith) in
      let is_b : place_of line word.holds + (b - n) ≡ b = omega arith in
      let is_c : place_of line word.holds + (c - n) ≡ c = omega arith in
      ap (writer_of line procs) (sym is_b) ∙ of_b ∙ sym of_c ∙ ap (writer_of line procs) is_c
  same_in n to (word ∷ more) tiles all (suc w) b c one two =
      same_in (n + word.len) to more tiles.2 (λ k d less. all (suc k) d (omega arith)) w b c
      (record { there = let t = one.there in omega arith; low = one.low; high = one.high })
      (record { there = let t = two.there in omega arith; low = two.low; high = two.high })

-- ---- the same of the places of a design

abbrev pub places_with : Line → List Proc → List ℕ
places_with line procs = 0 ∷ starts 0 (pieces_in line procs)

module _ (design : Design) (words : List Word) (cut : IsCut design words) where
  pub covered : (b : ℕ) → b < (line_in design).bits → (w : ℕ) × Stands (places_with (line_in design) design.procs) w b
  covered b less =
      let found = covering (line_in design) 0 (line_in design).bits (pieces_in (line_in design) design.procs) cut.tiles b (omega arith) less in
      (suc found.0, record { there = let t = found.1.there in omega arith; low = found.1.low; high = found.1.high })

  pub same_writer : (w b c : ℕ) → Stands (places_with (line_in design) design.procs) w b → Stands (places_with (line_in design) design.procs) w c → writer_of (line_in design) design.procs b ≡ writer_of (line_in design) design.procs c
  same_writer zero b c one two = absurd (let first = starts_first 0 (pieces_in (line_in design) design.procs) in let high = one.high in omega arith)
  same_writer (suc w) b c one two =
      same_in (line_in design) design.procs 0 (line_in design).bits (pieces_in (line_in design) design.procs) cut.tiles cut.pieces w b c
      (record { there = let t = one.there in omega arith; low = one.low; high = one.high })
      (record { there = let t = two.there in omega arith; low = two.low; high = two.high })

  -- a word that ends past place 0 has a bit
  pub has_bits : (w : ℕ) → suc w < length (places_with (line_in design) design.procs) → 0 < slice_index (places_with (line_in design) design.procs) (suc w) → slice_index (places_with (line_in design) design.procs) w < slice_index (places_with (line_in design) design.procs) (suc w)
  has_bits zero there some = some
  has_bits (suc w) there some = rising (line_in design) 0 (line_in design).bits (pieces_in (line_in design) design.procs) cut.tiles w (omega arith)

-- ---- words of ranges

module _ (places : List ℕ) (filled : (w : ℕ) → suc w < length places → 0 < slice_index places (suc w) → slice_index places w < slice_index places (suc w)) where
  pub bit_in : (w : ℕ) (ranges : List BitRange) → list_any (is_in places w) ranges ≡ true → (b : ℕ) × Stands places w b × (has b ranges ≡ true)
  bit_in w [] any = absurd (let e : false ≡ true = any in cc)
  bit_in w (r ∷ more) any = by_cases (λ rest. bit_in w more rest) (or_cases (is_in places w r) (list_any (is_in places w) more) any)
    where
      by_cases : (list_any (is_in places w) more ≡ true → (b : ℕ) × Stands places w b × (has b more ≡ true)) → (is_in places w r ≡ true) ⊎ (list_any (is_in places w) more ≡ true) → (b : ℕ) × Stands places w b × (has b (r ∷ more) ≡ true)
      by_cases others (inr rest) = let found = others rest in (found.0, found.1, or_right (inside found.0 r) (has found.0 more) found.2)
      by_cases others (inl e) =
          let one = and_parts (nat_lt (suc w) (length places)) (nat_lt r.from r.to && (nat_lt (slice_index places w) r.to && nat_lt r.from (slice_index places (suc w)))) e in
          let two = and_parts (nat_lt r.from r.to) (nat_lt (slice_index places w) r.to && nat_lt r.from (slice_index places (suc w))) one.1 in
          let three = and_parts (nat_lt (slice_index places w) r.to) (nat_lt r.from (slice_index places (suc w))) two.1 in
          let there = ltb-true (suc w) (length places) one.0 in
          let some = ltb-true r.from r.to two.0 in
          let begins = ltb-true (slice_index places w) r.to three.0 in
          let ends = ltb-true r.from (slice_index places (suc w)) three.1 in
          let wide = filled w there (omega arith) in
          let b = max r.from (slice_index places w) in
          let low : slice_index places w ≤ b = omega arith in
          let high : b < slice_index places (suc w) = omega arith in
          let in_r : inside b r ≡ true = and_from (nat_le r.from b) (nat_lt b r.to) (le-leb r.from b (omega arith)) (lt-ltb b r.to (omega arith)) in
          (b, record { there = there; low = low; high = high }, or_left (inside b r) (has b more) in_r)

  pub word_in : (w b : ℕ) (ranges : List BitRange) → Stands places w b → has b ranges ≡ true → list_any (is_in places w) ranges ≡ true
  word_in w b [] stands is = absurd (let e : false ≡ true = is in cc)
  word_in w b (r ∷ more) stands is = by_cases (λ rest. word_in w b more stands rest) (or_cases (inside b r) (has b more) is)
    where
      by_cases : (has b more ≡ true → list_any (is_in places w) more ≡ true) → (inside b r ≡ true) ⊎ (has b more ≡ true) → list_any (is_in places w) (r ∷ more) ≡ true
      by_cases others (inr rest) = or_right (is_in places w r) (list_any (is_in places w) more) (others rest)
      by_cases others (inl e) =
          let ends = and_parts (nat_le r.from b) (nat_lt b r.to) e in
          let from = leb-true r.from b ends.0 in
          let to = ltb-true b r.to ends.1 in
          let there = stands.there in let low = stands.low in let high = stands.high in
          or_left (is_in places w r) (list_any (is_in places w) more)
          (and_from (nat_lt (suc w) (length places)) (nat_lt r.from r.to && (nat_lt (slice_index places w) r.to && nat_lt r.from (slice_index places (suc w))))
          (lt-ltb (suc w) (length places) there)
          (and_from (nat_lt r.from r.to) (nat_lt (slice_index places w) r.to && nat_lt r.from (slice_index places (suc w)))
          (lt-ltb r.from r.to (omega arith))
          (and_from (nat_lt (slice_index places w) r.to) (nat_lt r.from (slice_index places (suc w))) (lt-ltb (slice_index places w) r.to (omega arith)) (lt-ltb r.from (slice_index places (suc w)) (omega arith)))))
