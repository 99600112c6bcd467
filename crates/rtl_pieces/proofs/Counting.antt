-- The words of a layout, as they are added one after another.
use Rattle.std.proofs.Common.{◌≡◌, ℕ, suc, ◌+◌, ◌-◌, ◌<◌, ◌≤◌, Bool, true, false, ltb, List, [], ◌∷◌, ◌++◌, map, length, drop, get_or, Option, refl, sym, ap, ◌∙◌, arith, append_assoc, length-append}
use Rattle.std.specs.Prelude.{if◌then◌else◌}
use Rattle.std.proofs.Math.Seq.{drop-cons}
use Rattle.std.proofs.lemmas.List.{get_or_append_left, length-map}
use Rattle.rtl_ir.specs.declared.design.Proc.{Proc}
use Rattle.rtl_pieces.specs.declared.fault.CutFault.{CutFault}
use Rattle.rtl_pieces.specs.declared.fault.CutFault.TheVariants.{NoMemory, TooMany}
use Rattle.rtl_pieces.specs.declared.item.Item.{Item}
use Rattle.rtl_pieces.specs.declared.layout.Word.{Word}
use Rattle.rtl_pieces.specs.declared.pieces.Piece.{Piece}
use Rattle.rtl_pieces.specs.Layouts.{ManyIf}
use Rattle.rtl_pieces.specs.declared.bit.BitRef.{BitRef}
use Rattle.rtl_pieces.specs.Line.{Line, first_bit, place_of}
use Rattle.rtl_pieces.specs.Words.{word_of, element_words, item_words, words_from, writer_of, is_clocked, shadow_if, shadows_of}

pub many_weaker : {P Q : Type 0} → (P → Q) → (fault : CutFault) → ManyIf P fault → ManyIf Q fault
many_weaker f (NoMemory error) h = tt
many_weaker f TooMany h = f h

-- with what is left to add, the list is whole: after one step of it
pub step : (mid new this left whole all : List Word) → new ≡ mid ++ this → whole ≡ this ++ left → mid ++ whole ≡ all → new ++ left ≡ all
step mid new this left whole all e f g =
    ap (λ (ws : List Word). ws ++ left) e ∙ append_assoc mid this left ∙ sym (ap (λ (ws : List Word). mid ++ ws) f) ∙ g

-- where this step has too many, so has the whole
pub step_many : (top : ℕ) (mid this left whole start rest : List Word) → whole ≡ this ++ left → mid ++ whole ≡ start ++ rest → top < length mid + length this → top < length start + length rest
step_many top mid this left whole start rest f g h =
    let a = ap length f ∙ length-append this left in
    let b = sym (length-append mid whole) ∙ ap length g ∙ length-append start rest in
    omega arith

pub element_next : (mem : Bool) (k : ℕ) (ps : List Piece) (e n : ℕ) → e < n → element_words mem k ps e (n - e) ≡ map (word_of mem k e) ps ++ element_words mem k ps (e + 1) (n - (e + 1))
element_next mem k ps e n h =
    let m : n - e ≡ suc (n - (e + 1)) = omega arith in
    let s : suc e ≡ e + 1 = omega arith in
    ap (element_words mem k ps e) m ∙ ap (λ (i : ℕ). map (word_of mem k e) ps ++ element_words mem k ps i (n - (e + 1))) s

-- where the pieces of an element are too many, so are those of all
pub elements_many : (top : ℕ) (mem : Bool) (k : ℕ) (ps : List Piece) (e n : ℕ) (mid start : List Word) → e < n → mid ++ element_words mem k ps e (n - e) ≡ start ++ element_words mem k ps 0 n
    → top < length mid + length ps → top < length start + length (element_words mem k ps 0 n)
elements_many top mem k ps e n mid start h g t =
    step_many top mid (map (word_of mem k e) ps) (element_words mem k ps (e + 1) (n - (e + 1))) (element_words mem k ps e (n - e)) start (element_words mem k ps 0 n)
    (element_next mem k ps e n h) g (omega (arith, length-map ps (word_of mem k e)))

-- the shadow of the word at a number, and those of the words after it
pub shadow_next : (line : Line) (procs : List Proc) (words : List Word) (n : ℕ) (word : Word) (writer : Option ℕ) → n < length words → word ≡ get_or words n word
    → writer ≡ writer_of line procs (place_of line word.holds)
    → shadows_of line procs (drop n words) ≡ shadow_if (is_clocked procs writer) word ++ shadows_of line procs (drop (n + 1) words)
shadow_next line procs words n word writer h is e =
    let s : suc n ≡ n + 1 = omega arith in
    ap (shadows_of line procs) (drop-cons words n word h ∙ ap (λ (w : Word). w ∷ drop (suc n) words) (sym is))
    ∙ ap (λ (o : Option ℕ). shadow_if (is_clocked procs o) word ++ shadows_of line procs (drop (suc n) words)) (sym e)
    ∙ ap (λ (i : ℕ). shadow_if (is_clocked procs writer) word ++ shadows_of line procs (drop i words)) s

-- the word at a number is still the one that was there at first
pub same_front : (words start left all : List Word) (n : ℕ) (d : Word) → n < length start → length start ≤ length words → words ++ left ≡ start ++ all → get_or words n d ≡ get_or start n d
same_front words start left all n d h k e = sym (get_or_append_left words left d n (omega arith)) ∙ ap (λ (ws : List Word). get_or ws n d) e ∙ get_or_append_left start all d n h

-- where one word more is too many, so are all the pieces
pub pieces_many : (top : ℕ) (word : Piece → Word) (mid start : List Word) (rest all : List Piece) → 1 ≤ length rest → mid ++ map word rest ≡ start ++ map word all → top < length mid + 1 → top < length start + length all
pieces_many top word mid start rest all h e k =
    let a = sym (length-append mid (map word rest)) ∙ ap length e ∙ length-append start (map word all) in
    omega (arith, length-map rest word, length-map all word)

-- the words of the item at a number
item_next : (writer : ℕ → Option ℕ) (line : Line) (number : ℕ) (item : Item) (t : Bool) (lowest : BitRef) → t ≡ ltb number line.vars
    → lowest ≡ (if t then record { mem = false; item = number; element = 0; bit = 0 } else record { mem = true; item = number - line.vars; element = 0; bit = 0 })
    → (if t then item_words writer false number item else item_words writer true (number - line.vars) item) ≡ item_words writer lowest.mem lowest.item item
item_next writer line number item true lowest e is = ap (λ (b : BitRef). item_words writer b.mem b.item item) (sym is)
item_next writer line number item false lowest e is = ap (λ (b : BitRef). item_words writer b.mem b.item item) (sym is)

-- where those of an item are too many, so are those of all
pub items_many : (top : ℕ) (writer : ℕ → Option ℕ) (line : Line) (number : ℕ) (rest : List Item) (d : Item) (lowest : BitRef) (mid start all : List Word) → 1 ≤ length rest
    → lowest ≡ first_bit line number → mid ++ words_from writer line.vars number rest ≡ start ++ all
    → top < length mid + length (item_words writer lowest.mem lowest.item (get_or rest 0 d)) → top < length start + length all
items_many top writer line number [] d lowest mid start all h low g t = absurd (omega arith)
items_many top writer line number (item ∷ more) d lowest mid start all h low g t =
    step_many top mid (item_words writer lowest.mem lowest.item item) (words_from writer line.vars (suc number) more) (words_from writer line.vars number (item ∷ more)) start all
    (ap (λ (ws : List Word). ws ++ words_from writer line.vars (suc number) more) (item_next writer line number item (ltb number line.vars) lowest refl low))
    g t
