-- The words of a design: how its variables and the elements of its memories are cut into pieces with one writer each.
use Rattle.std.specs.Prelude.{ℕ, zero, suc, ◌+◌, ◌-◌, ◌%◌, ◌<◌, ◌≤◌, ◌≡◌, Bool, true, false, ◌||◌, if◌then◌else◌, ◌==◌, nat_lt, List, [], ◌∷◌, ◌++◌, map, length, Option, Some, None, slice_get}
use Rattle.vs_base.specs.declared.limits.TheConstants.{WORD}
use Rattle.rtl_ir.specs.declared.design.Proc.{Proc}
use Rattle.rtl_ir.specs.declared.design.ProcKind.{ProcKind}
use Rattle.rtl_ir.specs.declared.design.ProcKind.TheVariants.{Comb, Clocked}
use Rattle.rtl_pieces.specs.declared.item.Item.{Item}
use Rattle.rtl_pieces.specs.declared.pieces.Piece.{Piece}
use Rattle.rtl_pieces.specs.declared.layout.Word.{Word}
use Rattle.rtl_pieces.specs.Line.{Line, items_in, is_bit, place_in, place_of}
use Rattle.rtl_pieces.specs.Bits.{writes}

-- ---- the writer of a bit: the first process that writes it, of so many from a number on

abbrev pub first_writer : (ℕ → ℕ → Bool) → ℕ → ℕ → ℕ → Option ℕ
first_writer writes number zero b = None
first_writer writes number (suc more) b = if writes number b then Some number else first_writer writes (suc number) more b

abbrev pub writer_of : Line → List Proc → ℕ → Option ℕ
writer_of line procs b = first_writer (writes line procs) 0 (length procs) b

-- what a list of writers tells of a place; past its end there is none
abbrev pub flat : Option (Option ℕ) → Option ℕ
flat (Some writer) = writer
flat None = None

abbrev pub noted : List (Option ℕ) → ℕ → Option ℕ
noted writers b = flat (slice_get writers b)

abbrev pub in_list : List (Option ℕ) → ℕ → Bool
in_list writers b = nat_lt b (length writers)

-- a process is noted where it writes and no other is noted
abbrev pub noted_also : Option ℕ → Bool → ℕ → Option ℕ
noted_also (Some before) writes p = Some before
noted_also None writes p = if writes then Some p else None

abbrev pub same_writer : Option ℕ → Option ℕ → Bool
same_writer (Some p) (Some q) = p == q
same_writer None None = true
same_writer _ _ = false

-- ---- pieces: the neighbouring bits of an element with one writer, or none, cut from their low end on where a piece has WORD bits

-- how many bits of the element directly below a bit have its writer; the lowest bit of the element stands at this place
abbrev pub same_below : (ℕ → Option ℕ) → ℕ → ℕ → ℕ
same_below writer first zero = 0
same_below writer first (suc bit) = if same_writer (writer (first + suc bit)) (writer (first + bit)) then suc (same_below writer first bit) else 0

-- the element is cut below a bit: it is the lowest one, or has another writer than the bit below it, or the piece below it is full
abbrev pub begins : (ℕ → Option ℕ) → ℕ → ℕ → Bool
begins writer first bit = same_below writer first bit % WORD == 0

-- so is one of so many elements from a number on
abbrev pub is_cut : (ℕ → Option ℕ) → Item → ℕ → ℕ → ℕ → Bool
is_cut writer item bit element zero = false
is_cut writer item bit element (suc more) = begins writer (place_in item element 0) bit || is_cut writer item bit (suc element) more

-- whether a bit is marked in a list of marks; past its end none is
abbrev pub or_false : Option Bool → Bool
or_false (Some mark) = mark
or_false None = false

abbrev pub marked : List Bool → ℕ → Bool
marked marks b = or_false (slice_get marks b)

-- the piece that begins at a bit and has so many bits up to here, and the pieces of so many bits after it
abbrev pub pieces_from : (ℕ → Bool) → ℕ → ℕ → ℕ → List Piece
pieces_from cut from len zero = record { bit = from; len = len } ∷ []
pieces_from cut from len (suc more) = if cut (from + len) then record { bit = from; len = len } ∷ pieces_from cut (from + len) 1 more else pieces_from cut from (suc len) more

-- the piece from a bit up to another, where the element is cut there
abbrev pub piece_if : Bool → ℕ → ℕ → List Piece
piece_if true from bit = record { bit = from; len = bit - from } ∷ []
piece_if false from bit = []

-- all elements of a memory are cut at the same places, namely wherever one of them is
abbrev pub pieces_of : (ℕ → Option ℕ) → Item → List Piece
pieces_of writer item = pieces_from (λ bit. is_cut writer item bit 0 item.elements) 0 1 (item.width - 1)

-- ---- words

abbrev pub word_of : Bool → ℕ → ℕ → Piece → Word
word_of mem item element piece = record { holds = record { mem = mem; item = item; element = element; bit = piece.bit }; len = piece.len; shadow = false }

-- of so many elements from a number on, each with its pieces
abbrev pub element_words : Bool → ℕ → List Piece → ℕ → ℕ → List Word
element_words mem item pieces element zero = []
element_words mem item pieces element (suc more) = map (word_of mem item element) pieces ++ element_words mem item pieces (suc element) more

abbrev pub item_words : (ℕ → Option ℕ) → Bool → ℕ → Item → List Word
item_words writer mem number item = element_words mem number (pieces_of writer item) 0 item.elements

-- of the variables and the memories from a number on, where there are so many variables
abbrev pub words_from : (ℕ → Option ℕ) → ℕ → ℕ → List Item → List Word
words_from writer vars number [] = []
words_from writer vars number (item ∷ more) =
    (if nat_lt number vars then item_words writer false number item else item_words writer true (number - vars) item) ++ words_from writer vars (suc number) more

-- it belongs to the table, and holds no bit
abbrev pub table_word : Word
table_word = record { holds = record { mem = false; item = 0; element = 0; bit = 0 }; len = 0; shadow = false }

-- ---- shadows: one for each word that a clocked process writes

abbrev pub is_clocked_kind : ProcKind → Bool
is_clocked_kind Comb = false
is_clocked_kind (Clocked events) = true

abbrev pub is_clocked_proc : Option Proc → Bool
is_clocked_proc (Some p) = is_clocked_kind p.kind
is_clocked_proc None = false

abbrev pub is_clocked : List Proc → Option ℕ → Bool
is_clocked procs (Some p) = is_clocked_proc (slice_get procs p)
is_clocked procs None = false

abbrev pub shadow_of : Word → Word
shadow_of word = record { holds = word.holds; len = word.len; shadow = true }

-- the shadow of a word, where there is one
abbrev pub shadow_if : Bool → Word → List Word
shadow_if true word = shadow_of word ∷ []
shadow_if false word = []

abbrev pub shadows_of : Line → List Proc → List Word → List Word
shadows_of line procs [] = []
shadows_of line procs (word ∷ more) =
    shadow_if (is_clocked procs (writer_of line procs (place_of line word.holds))) word ++ shadows_of line procs more

-- ---- the layout: word 0, the pieces, the shadows

abbrev pub pieces_in : Line → List Proc → List Word
pieces_in line procs = words_from (writer_of line procs) line.vars 0 line.items

abbrev pub words_in : Line → List Proc → List Word
words_in line procs = table_word ∷ (pieces_in line procs ++ shadows_of line procs (pieces_in line procs))

-- ---- what the pieces are: they stand one behind the other, from a place on and up to another, so each bit is in exactly one

abbrev pub Tiles : Line → ℕ → ℕ → List Word → Type 0
Tiles line from to [] = from ≡ to
Tiles line from to (word ∷ more) = (place_of line word.holds ≡ from) × (1 ≤ word.len) × Tiles line (from + word.len) to more

-- a piece lies in one element and has no more bits than a word, and its bits have one writer, or none
pub record IsPiece (line : Line) (procs : List Proc) (word : Word) : Type 0 where
  pub there : is_bit line word.holds ≡ true
  pub short : word.len ≤ WORD
  pub within : word.holds.bit + word.len ≤ (items_in line word.holds.mem word.holds.item).width
  pub one_writer : (b : ℕ) → b < word.len → writer_of line procs (place_of line word.holds + b) ≡ writer_of line procs (place_of line word.holds)
