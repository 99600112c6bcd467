-- The words of a layout together.
use Rattle.std.proofs.Common.{◌≡◌, ℕ, suc, ◌+◌, ◌-◌, ◌*◌, ◌<◌, ◌≤◌, Bool, true, false, List, [], ◌∷◌, ◌++◌, length, drop, Option, ap, ◌∙◌, arith, length-append}
use Rattle.std.specs.List.{All, list_all}
use Rattle.std.proofs.Math.Path.{fun_ext}
use Rattle.std.proofs.lemmas.List.Elements.{All-nil, All-cons, All-append}
use Rattle.vs_base.specs.declared.limits.TheConstants.{WORD, WORDS}
use Rattle.rtl_ir.specs.declared.design.Proc.{Proc}
use Rattle.rtl_pieces.specs.declared.layout.Word.{Word}
use Rattle.rtl_pieces.specs.Near.{is_near}
use Rattle.rtl_pieces.specs.Line.{Line, Placed, place_of}
use Rattle.rtl_pieces.specs.Words.{noted, words_from, table_word, writer_of, is_clocked, shadow_of, shadow_if, shadows_of, pieces_in, words_in, IsPiece}
use Rattle.rtl_pieces.proofs.Tiling.{Short, short_length, pieces_tile}
use Rattle.rtl_pieces.proofs.Uncut.{all_pieces}

-- ---- no word has more bits than a word may have

abbrev IsShort : Word → Type 0
IsShort word = word.len ≤ WORD

short_pieces : (line : Line) (procs : List Proc) (words : List Word) → All (IsPiece line procs) words → All IsShort words
short_pieces line procs words all i d h = (all i d h).short

short_if : (t : Bool) (word : Word) → word.len ≤ WORD → All IsShort (shadow_if t word)
short_if true word h = All-cons IsShort (shadow_of word) [] h (All-nil IsShort)
short_if false word h = All-nil IsShort

short_shadows : (line : Line) (procs : List Proc) (words : List Word) → All IsShort words → All IsShort (shadows_of line procs words)
short_shadows line procs [] all = All-nil IsShort
short_shadows line procs (word ∷ more) all =
    let shadow = shadow_if (is_clocked procs (writer_of line procs (place_of line word.holds))) word in
    All-append IsShort shadow (shadows_of line procs more)
    (short_if (is_clocked procs (writer_of line procs (place_of line word.holds))) word (all 0 word (omega arith)))
    (short_shadows line procs more (λ i d h. all (suc i) d (omega arith)))

pub short_words : (line : Line) (procs : List Proc) → list_all is_near line.items ≡ true → All (λ (word : Word). word.len ≤ WORD) (words_in line procs)
short_words line procs near =
    let pieces = short_pieces line procs (pieces_in line procs) (all_pieces line procs near) in
    All-cons IsShort table_word (pieces_in line procs ++ shadows_of line procs (pieces_in line procs)) (omega arith)
    (All-append IsShort (pieces_in line procs) (shadows_of line procs (pieces_in line procs)) pieces (short_shadows line procs (pieces_in line procs) pieces))

short_list : (words : List Word) → All IsShort words → Short WORD words
short_list [] all = tt
short_list (word ∷ more) all = (all 0 word (omega arith), short_list more (λ i d h. all (suc i) d (omega arith)))

length_words : (line : Line) (procs : List Proc) → length (words_in line procs) ≡ 1 + (length (pieces_in line procs) + length (shadows_of line procs (pieces_in line procs)))
length_words line procs = let e = length-append (pieces_in line procs) (shadows_of line procs (pieces_in line procs)) in omega arith

-- so many bits are too many words
pub bits_many : (line : Line) (procs : List Proc) → Placed line → list_all is_near line.items ≡ true → 65535 * 64 < line.bits → WORDS < length (words_in line procs)
bits_many line procs placed near h =
    let short = short_list (pieces_in line procs) (short_pieces line procs (pieces_in line procs) (all_pieces line procs near)) in
    let s : line.bits ≤ 0 + length (pieces_in line procs) * WORD = short_length line WORD 0 line.bits (pieces_in line procs) (pieces_tile line procs placed near) short in
    omega (arith, length_words line procs)

-- ---- the words, as they are added: the table's, the pieces, the shadows

module _ (line : Line) (procs : List Proc) (writers : List (Option ℕ)) (same : (b : ℕ) → noted writers b ≡ writer_of line procs b) where
  pieces_same : words_from (noted writers) line.vars 0 line.items ≡ pieces_in line procs
  pieces_same = ap (λ (w : ℕ → Option ℕ). words_from w line.vars 0 line.items) (fun_ext same)

  after_pieces : (first second : List Word) → first ≡ table_word ∷ [] → second ≡ first ++ words_from (noted writers) line.vars 0 line.items → second ≡ table_word ∷ pieces_in line procs
  after_pieces first second e f = f ∙ ap (λ (ws : List Word). ws ++ words_from (noted writers) line.vars 0 line.items) e ∙ ap (λ (ws : List Word). table_word ∷ ws) pieces_same

  pub whole : (first second third : List Word) → first ≡ table_word ∷ [] → second ≡ first ++ words_from (noted writers) line.vars 0 line.items
      → third ≡ second ++ shadows_of line procs (drop 1 second) → third ≡ words_in line procs
  whole first second third e f g = g ∙ ap (λ (ws : List Word). ws ++ shadows_of line procs (drop 1 ws)) (after_pieces first second e f)

  pub many_pieces : (first : List Word) → first ≡ table_word ∷ [] → WORDS < length first + length (words_from (noted writers) line.vars 0 line.items) → WORDS < length (words_in line procs)
  many_pieces first e h =
      let a = ap length e in
      let b = ap length pieces_same in
      omega (arith, length_words line procs)

  pub many_shadows : (first second : List Word) → first ≡ table_word ∷ [] → second ≡ first ++ words_from (noted writers) line.vars 0 line.items
      → WORDS < length second + length (shadows_of line procs (drop 1 second)) → WORDS < length (words_in line procs)
  many_shadows first second e f h =
      let g = after_pieces first second e f in
      let a = ap length g in
      let b = ap (λ (ws : List Word). length (shadows_of line procs (drop 1 ws))) g in
      omega (arith, length_words line procs)
