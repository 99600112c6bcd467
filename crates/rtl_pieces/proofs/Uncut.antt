-- The bits of a piece have one writer, or none, and are no more than a word has, since the element is not cut between them.
use Rattle.std.proofs.Common.{◌≡◌, ℕ, zero, suc, ◌+◌, ◌-◌, ◌%◌, ◌<◌, ◌≤◌, Bool, true, false, ltb, eqb, List, [], ◌∷◌, map, Option, Some, None, refl, sym, ap, ◌∙◌, subst, arith, inl, inr}
use Rattle.std.specs.Prelude.{if◌then◌else◌, nat_lt, slice_get}
use Rattle.std.specs.List.{All, list_all}
use Rattle.std.proofs.lemmas.List.Elements.{All-nil, All-cons, All-append}
use Rattle.std.proofs.lemmas.Bool.{cases_lt, or_parts, eq-eqb, eqb-true, false≢true, and_from, and_parts, lt-ltb, ltb-true, ltb-false, cond-true}
use Rattle.vs_base.specs.declared.limits.TheConstants.{WORD}
use Rattle.rtl_ir.specs.declared.design.Proc.{Proc}
use Rattle.rtl_pieces.specs.declared.item.Item.{Item}
use Rattle.rtl_pieces.specs.Near.{is_near}
use Rattle.rtl_pieces.specs.Line.{Line, items_in, is_bit_in, place_in, place_of}
use Rattle.rtl_pieces.specs.Words.{same_writer, same_below, begins, is_cut, pieces_from, word_of, element_words, item_words, words_from, writer_of, pieces_in, IsPiece}
use Rattle.rtl_pieces.proofs.Tiling.{in_vars, in_mems, near_width}

same_from : (x y : Option ℕ) → same_writer x y ≡ true → x ≡ y
same_from (Some p) (Some q) e = ap Some (eqb-true p q e)
same_from None None e = refl
same_from (Some p) None e = absurd (false≢true e)
same_from None (Some q) e = absurd (false≢true e)

-- ---- one element, whose lowest bit stands at a place

module _ (writer : ℕ → Option ℕ) (first : ℕ) where
  joined_if : (bit : ℕ) (t : Bool) → t ≡ same_writer (writer (first + suc bit)) (writer (first + bit)) → eqb ((if t then suc (same_below writer first bit) else 0) % WORD) 0 ≡ false
      → (writer (first + suc bit) ≡ writer (first + bit)) × (same_below writer first (suc bit) ≡ suc (same_below writer first bit))
  joined_if bit true e h =
      (same_from (writer (first + suc bit)) (writer (first + bit)) (sym e), cond-true (same_writer (writer (first + suc bit)) (writer (first + bit))) (suc (same_below writer first bit)) 0 (sym e))
  joined_if bit false e h = absurd (false≢true (sym h))

  -- a bit below which the element is not cut
  joined : (bit : ℕ) → begins writer first (suc bit) ≡ false → (writer (first + suc bit) ≡ writer (first + bit)) × (same_below writer first (suc bit) ≡ suc (same_below writer first bit))
  joined bit h = joined_if bit (same_writer (writer (first + suc bit)) (writer (first + bit))) refl h

  -- from a bit on so many bits, between which it is not cut
  run : (from len : ℕ) → ((j : ℕ) → from < j → j < from + len → begins writer first j ≡ false)
      → (i : ℕ) → i < len → (writer (first + (from + i)) ≡ writer (first + from)) × (same_below writer first (from + i) ≡ same_below writer first from + i)
  run from len none zero l =
      let e : from + 0 ≡ from = omega arith in
      let k : same_below writer first from ≡ same_below writer first from + 0 = omega arith in
      (ap (λ (n : ℕ). writer (first + n)) e, ap (same_below writer first) e ∙ k)
  run from len none (suc i) l =
      let s : from + suc i ≡ suc (from + i) = omega arith in
      let k : suc (same_below writer first from + i) ≡ same_below writer first from + suc i = omega arith in
      let now = joined (from + i) (subst (λ (n : ℕ). begins writer first n ≡ false) s (none (from + suc i) (omega arith) (omega arith))) in
      let before = run from len none i (omega arith) in
      (ap (λ (n : ℕ). writer (first + n)) s ∙ now.0 ∙ before.0, ap (same_below writer first) s ∙ now.1 ∙ ap suc before.1 ∙ k)

  multiple : (s : ℕ) → (s + (64 - s % 64)) % 64 ≡ 0
  multiple s = omega arith

  -- so they are no more than a word has
  no_longer : (from len : ℕ) → ((j : ℕ) → from < j → j < from + len → begins writer first j ≡ false) → len ≤ WORD
  no_longer from len none = elim (cases_lt WORD len) [
    | inl more ↦
        (let s = same_below writer first from in
        let i = 64 - s % 64 in
        let some : 0 < i = omega arith in
        let few : i < len = omega arith in
        let e : same_below writer first (from + i) ≡ s + i = (run from len none i few).1 in
        let cut : begins writer first (from + i) ≡ true = eq-eqb (same_below writer first (from + i) % WORD) 0 (ap (λ (n : ℕ). n % WORD) e ∙ multiple s) in
        absurd (false≢true (sym (none (from + i) (omega arith) (omega arith)) ∙ cut)))
    | inr most ↦ most
  ]

-- ---- all elements of an item

module _ (writer : ℕ → Option ℕ) (item : Item) where
  uncut : (bit e n k : ℕ) → is_cut writer item bit e n ≡ false → e ≤ k → k < e + n → begins writer (place_in item k 0) bit ≡ false
  uncut bit e zero k h l m = absurd (omega arith)
  uncut bit e (suc n) k h l m =
      let parts = or_parts (begins writer (place_in item e 0) bit) (is_cut writer item bit (suc e) n) h in
      elim (cases_lt e k) [
        | inl above ↦ uncut bit (suc e) n k parts.1 (omega arith) (omega arith)
        | inr below ↦
            (let here : k ≡ e = omega arith in
            subst (λ (i : ℕ). begins writer (place_in item i 0) bit ≡ false) (sym here) parts.0)
      ]

  -- the same of its place
  placed : (k from i : ℕ) → writer (place_in item k 0 + (from + i)) ≡ writer (place_in item k 0 + from) → writer (place_in item k from + i) ≡ writer (place_in item k from)
  placed k from i h =
      let a : place_in item k 0 + (from + i) ≡ place_in item k from + i = omega arith in
      let b : place_in item k 0 + from ≡ place_in item k from = omega arith in
      sym (ap writer a) ∙ h ∙ ap writer b

module _ (line : Line) (procs : List Proc) (mem : Bool) (number : ℕ) (item : Item) (here : items_in line mem number ≡ item) where
  cut : ℕ → Bool
  cut bit = is_cut (writer_of line procs) item bit 0 item.elements

  -- no element is cut between these bits
  None_between : ℕ → ℕ → Type 0
  None_between from len = (j : ℕ) → from < j → j < from + len → cut j ≡ false

  one : (element from len : ℕ) → element < item.elements → 1 ≤ len → from + len ≤ item.width → None_between from len
      → IsPiece line procs (word_of mem number element (record { bit = from; len = len }))
  unfolding None_between cut
  one element from len h some within none =
      let at : place_of line (record { mem = mem; item = number; element = element; bit = from }) ≡ place_in item element from = ap (λ (i : Item). place_in i element from) here in
      let writer = writer_of line procs in
      let here_none : (j : ℕ) → from < j → j < from + len → begins writer (place_in item element 0) j ≡ false = λ j a b. uncut writer item j 0 item.elements element (none j a b) (omega arith) (omega arith) in
      record {
        there = ap (λ (i : Item). is_bit_in i element from) here ∙ and_from (nat_lt element item.elements) (nat_lt from item.width) (lt-ltb element item.elements h) (lt-ltb from item.width (omega arith));
        short = no_longer writer (place_in item element 0) from len here_none;
        within = subst (λ (i : Item). from + len ≤ i.width) (sym here) within;
        one_writer = λ b l.
            ap (λ (n : ℕ). writer (n + b)) at ∙ placed writer item element from b (run writer (place_in item element 0) from len here_none b l).0 ∙ sym (ap writer at);
      }

  next : (element from len more : ℕ) (t : Bool) → t ≡ cut (from + len) → IsPiece line procs (word_of mem number element (record { bit = from; len = len }))
      → All (IsPiece line procs) (map (word_of mem number element) (pieces_from cut (from + len) 1 more))
      → (cut (from + len) ≡ false → All (IsPiece line procs) (map (word_of mem number element) (pieces_from cut from (suc len) more)))
      → All (IsPiece line procs) (map (word_of mem number element) (if t then record { bit = from; len = len } ∷ pieces_from cut (from + len) 1 more else pieces_from cut from (suc len) more))
  next element from len more true e this rest longer =
      All-cons (IsPiece line procs) (word_of mem number element (record { bit = from; len = len })) (map (word_of mem number element) (pieces_from cut (from + len) 1 more)) this rest
  next element from len more false e this rest longer = longer (sym e)

  -- between so many bits and one more
  none_more : (from len : ℕ) → None_between from len → cut (from + len) ≡ false → None_between from (suc len)
  unfolding None_between
  none_more from len none e j h l = elim (cases_lt j (from + len)) [
    | inl below ↦ none j h below
    | inr above ↦ (let same : j ≡ from + len = omega arith in ap cut same ∙ e)
  ]

  none_of_one : (from : ℕ) → None_between from 1
  unfolding None_between
  none_of_one from j h l = absurd (omega arith)

  pieces : (element from len more : ℕ) → element < item.elements → 1 ≤ len → from + len + more ≤ item.width → None_between from len
      → All (IsPiece line procs) (map (word_of mem number element) (pieces_from cut from len more))
  pieces element from len zero h some within none =
      All-cons (IsPiece line procs) (word_of mem number element (record { bit = from; len = len })) [] (one element from len h some (omega arith) none) (All-nil (IsPiece line procs))
  pieces element from len (suc more) h some within none =
      next element from len more (cut (from + len)) refl (one element from len h some (omega arith) none)
      (pieces element (from + len) 1 more h (omega arith) (omega arith) (none_of_one (from + len)))
      (λ e. pieces element from (suc len) more h (omega arith) (omega arith) (none_more from len none e))

  elements : (element more : ℕ) → 1 ≤ item.width → element + more ≤ item.elements → All (IsPiece line procs) (element_words mem number (pieces_from cut 0 1 (item.width - 1)) element more)
  elements element zero some h = All-nil (IsPiece line procs)
  elements element (suc more) some h =
      All-append (IsPiece line procs) (map (word_of mem number element) (pieces_from cut 0 1 (item.width - 1))) (element_words mem number (pieces_from cut 0 1 (item.width - 1)) (suc element) more)
      (pieces element 0 1 (item.width - 1) (omega arith) (omega arith) (omega arith) (none_of_one 0))
      (elements (suc element) more some (omega arith))

  item_pieces : 1 ≤ item.width → All (IsPiece line procs) (item_words (writer_of line procs) mem number item)
  unfolding cut
  item_pieces some = elements 0 item.elements some (omega arith)

one_pieces : (line : Line) (procs : List Proc) (number : ℕ) (item : Item) (t : Bool) → t ≡ ltb number line.vars → slice_get line.items number ≡ Some item → 1 ≤ item.width
    → All (IsPiece line procs) (if t then item_words (writer_of line procs) false number item else item_words (writer_of line procs) true (number - line.vars) item)
one_pieces line procs number item true e at some = item_pieces line procs false number item (in_vars line number item at (ltb-true number line.vars (sym e))) some
one_pieces line procs number item false e at some = item_pieces line procs true (number - line.vars) item (in_mems line number item at (ltb-false number line.vars (sym e))) some

items_pieces : (line : Line) (procs : List Proc) (number : ℕ) (rest : List Item) → list_all is_near rest ≡ true → ((j : ℕ) → slice_get line.items (number + j) ≡ slice_get rest j)
    → All (IsPiece line procs) (words_from (writer_of line procs) line.vars number rest)
items_pieces line procs number [] near at = All-nil (IsPiece line procs)
items_pieces line procs number (item ∷ more) near at =
    let n = and_parts (is_near item) (list_all is_near more) near in
    let z : number + 0 ≡ number = omega arith in
    let here : slice_get line.items number ≡ Some item = sym (ap (λ (k : ℕ). slice_get line.items k) z) ∙ at 0 in
    All-append (IsPiece line procs) (if nat_lt number line.vars then item_words (writer_of line procs) false number item else item_words (writer_of line procs) true (number - line.vars) item) (words_from (writer_of line procs) line.vars (suc number) more)
    (one_pieces line procs number item (ltb number line.vars) refl here (near_width item n.0))
    (items_pieces line procs (suc number) more n.1 (λ j. let s : suc number + j ≡ number + suc j = omega arith in ap (λ (k : ℕ). slice_get line.items k) s ∙ at (suc j)))

pub all_pieces : (line : Line) (procs : List Proc) → list_all is_near line.items ≡ true → All (IsPiece line procs) (pieces_in line procs)
all_pieces line procs near = items_pieces line procs 0 line.items near (λ j. let z : 0 + j ≡ j = omega arith in ap (λ (k : ℕ). slice_get line.items k) z)
