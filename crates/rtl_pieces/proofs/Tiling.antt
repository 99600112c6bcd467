-- The pieces of a design stand one behind the other and cover its line, so each bit is in exactly one of them.
use Rattle.std.proofs.Common.{◌≡◌, ℕ, zero, suc, ◌+◌, ◌-◌, ◌*◌, ◌<◌, ◌≤◌, Bool, true, false, ◌&&◌, ltb, leb, eqb, List, [], ◌∷◌, ◌++◌, map, length, Option, Some, refl, sym, ap, ◌∙◌, subst, arith}
use Rattle.std.specs.Prelude.{◌^◌, if◌then◌else◌, nat_lt, slice_get, ⊤}
use Rattle.std.specs.List.{list_all}
use Rattle.std.proofs.lemmas.Bool.{eq-eqb, eqb-true, leb-true, lt-ltb, and_parts, and_from, ltb-true, ltb-false, cond-true}
use Rattle.vs_base.specs.declared.limits.TheConstants.{WIDTH}
use Rattle.rtl_ir.specs.declared.design.Var.{Var}
use Rattle.rtl_ir.specs.declared.design.Mem.{Mem}
use Rattle.rtl_ir.specs.declared.design.Proc.{Proc}
use Rattle.rtl_pieces.specs.declared.item.Item.{Item}
use Rattle.rtl_pieces.specs.declared.layout.Word.{Word}
use Rattle.rtl_pieces.specs.declared.pieces.Piece.{Piece}
use Rattle.rtl_pieces.specs.Near.{is_near}
use Rattle.rtl_pieces.specs.Line.{Line, var_items, mem_items, size_of, end_of, line_of, stand_behind, Placed, no_item, item_or_none, items_in, place_in, place_of}
use Rattle.rtl_pieces.specs.Words.{pieces_from, is_cut, word_of, element_words, item_words, words_from, writer_of, pieces_in, Tiles}

-- ---- the items of a design stand one behind the other

mems_placed : (first : ℕ) (mems : List Mem) → stand_behind first (mem_items first mems) ≡ true
mems_placed first [] = refl
mems_placed first (m ∷ more) = and_from (eqb first first) (stand_behind (first + m.count * m.width) (mem_items (first + m.count * m.width) more)) (eq-eqb first first refl) (mems_placed (first + m.count * m.width) more)

vars_placed : (first : ℕ) (vars : List Var) (rest : List Item) → stand_behind (end_of first (var_items first vars)) rest ≡ true → stand_behind first (var_items first vars ++ rest) ≡ true
vars_placed first [] rest h = h
vars_placed first (v ∷ more) rest h =
    let e : first + 1 * v.width ≡ first + v.width = omega arith in
    and_from (eqb first first) (stand_behind (first + 1 * v.width) (var_items (first + v.width) more ++ rest)) (eq-eqb first first refl)
    (ap (λ n. stand_behind n (var_items (first + v.width) more ++ rest)) e
    ∙ vars_placed (first + v.width) more rest (sym (ap (λ n. stand_behind (end_of n (var_items (first + v.width) more)) rest) e) ∙ h))

pub line_placed : (vars : List Var) (mems : List Mem) → Placed (line_of vars mems)
line_placed vars mems = record {
  behind = vars_placed 0 vars (mem_items (end_of 0 (var_items 0 vars)) mems) (mems_placed (end_of 0 (var_items 0 vars)) mems);
  bits = refl;
}

-- ---- words one behind the other

pub tiles_append : (line : Line) (a b c : ℕ) (xs ys : List Word) → Tiles line a b xs → Tiles line b c ys → Tiles line a c (xs ++ ys)
tiles_append line a b c [] ys h k = subst (λ (n : ℕ). Tiles line n c ys) (sym h) k
tiles_append line a b c (word ∷ more) ys h k = (h.0, h.1, tiles_append line (a + word.len) b c more ys h.2 k)

module _ (line : Line) (mem : Bool) (k : ℕ) (item : Item) (here : items_in line mem k ≡ item) where
  stands : (element bit : ℕ) → place_of line (record { mem = mem; item = k; element = element; bit = bit }) ≡ place_in item element bit
  stands element bit = ap (λ (i : Item). place_in i element bit) here

  next_bit : (element bit len : ℕ) → place_in item element bit + len ≡ place_in item element (bit + len)
  next_bit element bit len = omega arith

  test_tiles : (cut : ℕ → Bool) (element from len more : ℕ) (t : Bool) → 1 ≤ len
      → Tiles line (place_in item element (from + len)) (place_in item element (from + len + suc more)) (map (word_of mem k element) (pieces_from cut (from + len) 1 more))
      → Tiles line (place_in item element from) (place_in item element (from + len + suc more)) (map (word_of mem k element) (pieces_from cut from (suc len) more))
      → Tiles line (place_in item element from) (place_in item element (from + len + suc more)) (map (word_of mem k element) (if t then record { bit = from; len = len } ∷ pieces_from cut (from + len) 1 more else pieces_from cut from (suc len) more))
  test_tiles cut element from len more true some one two =
      (stands element from, some, subst (λ (n : ℕ). Tiles line n (place_in item element (from + len + suc more)) (map (word_of mem k element) (pieces_from cut (from + len) 1 more))) (sym (next_bit element from len)) one)
  test_tiles cut element from len more false some one two = two

  -- the pieces from a bit on, with so many bits so far and so many more
  pub element_tiles : (cut : ℕ → Bool) (element from len more : ℕ) → 1 ≤ len
      → Tiles line (place_in item element from) (place_in item element (from + len + more)) (map (word_of mem k element) (pieces_from cut from len more))
  element_tiles cut element from len zero some = (stands element from, some, omega arith)
  element_tiles cut element from len (suc more) some =
      let e : from + len + 1 + more ≡ from + len + suc more = omega arith in
      let f : from + suc len + more ≡ from + len + suc more = omega arith in
      test_tiles cut element from len more (cut (from + len)) some
      (subst (λ (n : ℕ). Tiles line (place_in item element (from + len)) (place_in item element n) (map (word_of mem k element) (pieces_from cut (from + len) 1 more))) e (element_tiles cut element (from + len) 1 more (omega arith)))
      (subst (λ (n : ℕ). Tiles line (place_in item element from) (place_in item element n) (map (word_of mem k element) (pieces_from cut from (suc len) more))) f (element_tiles cut element from (suc len) more (omega arith)))

  -- the next element begins where one ends
  next_element : (element : ℕ) → place_in item element item.width ≡ place_in item (suc element) 0
  next_element element = grind arith

  -- so many elements from a number on
  pub elements_tile : (cut : ℕ → Bool) (element more : ℕ) → 1 ≤ item.width
      → Tiles line (place_in item element 0) (place_in item (element + more) 0) (element_words mem k (pieces_from cut 0 1 (item.width - 1)) element more)
  elements_tile cut element zero some = let e : place_in item element 0 ≡ place_in item (element + 0) 0 = ap (λ (n : ℕ). place_in item n 0) (omega arith) in e
  elements_tile cut element (suc more) some =
      let e : 0 + 1 + (item.width - 1) ≡ item.width = omega arith in
      let f : suc element + more ≡ element + suc more = omega arith in
      let first = subst (λ (n : ℕ). Tiles line (place_in item element 0) n (map (word_of mem k element) (pieces_from cut 0 1 (item.width - 1)))) (ap (λ (n : ℕ). place_in item element n) e ∙ next_element element) (element_tiles cut element 0 1 (item.width - 1) (omega arith)) in
      let others = subst (λ (n : ℕ). Tiles line (place_in item (suc element) 0) (place_in item n 0) (element_words mem k (pieces_from cut 0 1 (item.width - 1)) (suc element) more)) f (elements_tile cut (suc element) more some) in
      tiles_append line (place_in item element 0) (place_in item (suc element) 0) (place_in item (element + suc more) 0) (map (word_of mem k element) (pieces_from cut 0 1 (item.width - 1))) (element_words mem k (pieces_from cut 0 1 (item.width - 1)) (suc element) more) first others

  pub item_tiles : (writer : ℕ → Option ℕ) → 1 ≤ item.width → Tiles line item.first (item.first + size_of item) (item_words writer mem k item)
  item_tiles writer some =
      let e : place_in item 0 0 ≡ item.first = omega arith in
      let z : 0 + item.elements ≡ item.elements = omega arith in
      let g : place_in item item.elements 0 ≡ item.first + size_of item = omega arith in
      let f : place_in item (0 + item.elements) 0 ≡ item.first + size_of item = ap (λ (n : ℕ). place_in item n 0) z ∙ g in
      subst (λ (n : ℕ). Tiles line n (item.first + size_of item) (item_words writer mem k item)) e
      (subst (λ (n : ℕ). Tiles line (place_in item 0 0) n (item_words writer mem k item)) f
      (elements_tile (λ bit. is_cut writer item bit 0 item.elements) 0 item.elements some))

-- ---- all of them

pub near_width : (item : Item) → is_near item ≡ true → 1 ≤ item.width
near_width item h = leb-true 1 item.width (and_parts (leb 1 item.width) (leb item.width WIDTH) (and_parts (leb item.first (2 ^ 124)) (leb 1 item.width && leb item.width WIDTH) h).1).0

-- the item of a number, by the list that it stands in
pub in_vars : (line : Line) (number : ℕ) (item : Item) → slice_get line.items number ≡ Some item → number < line.vars → items_in line false number ≡ item
in_vars line number item at h = cond-true (nat_lt number line.vars) (item_or_none (slice_get line.items number)) no_item (lt-ltb number line.vars h) ∙ ap item_or_none at

pub in_mems : (line : Line) (number : ℕ) (item : Item) → slice_get line.items number ≡ Some item → line.vars ≤ number → items_in line true (number - line.vars) ≡ item
in_mems line number item at h =
    let e : line.vars + (number - line.vars) ≡ number = omega arith in
    ap (λ (n : ℕ). item_or_none (slice_get line.items n)) e ∙ ap item_or_none at

one_tiles : (line : Line) (writer : ℕ → Option ℕ) (number : ℕ) (item : Item) (t : Bool) → t ≡ ltb number line.vars → slice_get line.items number ≡ Some item → 1 ≤ item.width
    → Tiles line item.first (item.first + size_of item) (if t then item_words writer false number item else item_words writer true (number - line.vars) item)
one_tiles line writer number item true e at some = item_tiles line false number item (in_vars line number item at (ltb-true number line.vars (sym e))) writer some
one_tiles line writer number item false e at some = item_tiles line true (number - line.vars) item (in_mems line number item at (ltb-false number line.vars (sym e))) writer some

items_tile : (line : Line) (writer : ℕ → Option ℕ) (number first : ℕ) (rest : List Item) → stand_behind first rest ≡ true → list_all is_near rest ≡ true
    → ((j : ℕ) → slice_get line.items (number + j) ≡ slice_get rest j)
    → Tiles line first (end_of first rest) (words_from writer line.vars number rest)
items_tile line writer number first [] placed near at = refl
items_tile line writer number first (item ∷ more) placed near at =
    let parts = and_parts (eqb item.first first) (stand_behind (first + size_of item) more) placed in
    let e : item.first ≡ first = eqb-true item.first first parts.0 in
    let n = and_parts (is_near item) (list_all is_near more) near in
    let z : number + 0 ≡ number = omega arith in
    let here : slice_get line.items number ≡ Some item = sym (ap (λ (k : ℕ). slice_get line.items k) z) ∙ at 0 in
    let one = subst (λ (a : ℕ). Tiles line a (a + size_of item) (if nat_lt number line.vars then item_words writer false number item else item_words writer true (number - line.vars) item)) e (one_tiles line writer number item (ltb number line.vars) refl here (near_width item n.0)) in
    tiles_append line first (first + size_of item) (end_of (first + size_of item) more) (if nat_lt number line.vars then item_words writer false number item else item_words writer true (number - line.vars) item) (words_from writer line.vars (suc number) more)
    one
    (items_tile line writer (suc number) (first + size_of item) more parts.1 n.1 (λ j. let s : suc number + j ≡ number + suc j = omega arith in ap (λ (k : ℕ). slice_get line.items k) s ∙ at (suc j)))

pub pieces_tile : (line : Line) (procs : List Proc) → Placed line → list_all is_near line.items ≡ true → Tiles line 0 line.bits (pieces_in line procs)
pieces_tile line procs placed near =
    subst (λ (n : ℕ). Tiles line 0 n (pieces_in line procs)) (sym placed.bits)
    (items_tile line (writer_of line procs) 0 0 line.items placed.behind near (λ j. let z : 0 + j ≡ j = omega arith in ap (λ (k : ℕ). slice_get line.items k) z))

-- ---- how few words there can be where none has more than so many bits

abbrev pub Short : ℕ → List Word → Type 0
Short top [] = ⊤
Short top (word ∷ more) = (word.len ≤ top) × Short top more

pub short_length : (line : Line) (top a b : ℕ) (words : List Word) → Tiles line a b words → Short top words → b ≤ a + length words * top
short_length line top a b [] h s = omega arith
short_length line top a b (word ∷ more) h s =
    let rest : b ≤ a + word.len + length more * top = short_length line top (a + word.len) b more h.2 s.1 in
    let e : suc (length more) * top ≡ top + length more * top = grind arith in
    omega (arith, s.0)
