-- The words of a design, and what they keep.
use Rattle.std.specs.Prelude.{◌≡◌, ◌≤◌, ◌+◌, ℕ, List, [], ◌∷◌, length}
use Rattle.std.specs.List.{All}
use Rattle.std.proofs.Props.{props}
use Rattle.vs_base.specs.declared.limits.TheConstants.{WORDS}
use Rattle.rtl_ir.specs.declared.whole.Design.{Design}
use Rattle.rtl_pieces.specs.declared.layout.Word.{Word}
use Rattle.rtl_pieces.specs.Line.{Line}
use Rattle.rtl_pieces.specs.Bits.{line_in}
use Rattle.rtl_pieces.specs.Words.{words_in, pieces_in, IsPiece, Tiles}

-- the words that a design is cut into
abbrev pub words_of : Design → List Word
words_of design = words_in (line_in design) design.procs

pub record IsCut (design : Design) (words : List Word) : Type 0 where
  pub words_are : words ≡ words_of design
  pub few : length words ≤ WORDS
  -- the bits of a piece have one writer or none
  pub pieces : All (IsPiece (line_in design) design.procs) (pieces_in (line_in design) design.procs)
  -- they cover the line of bits, one behind the other
  pub tiles : Tiles (line_in design) 0 (line_in design).bits (pieces_in (line_in design) design.procs)

-- ---- what stands in the type of a model is a fact

tiles_is_fact : (line : Line) (from to : ℕ) (words : List Word) → IsProp (Tiles line from to words)
tiles_is_fact line from to [] = hlevel props
tiles_is_fact line from to (word ∷ more) = hlevel (props, tiles_is_fact line (from + word.len) to more)

pub cut_is_fact : (design : Design) (words : List Word) → IsProp (IsCut design words)
cut_is_fact design words = hlevel (props, tiles_is_fact (line_in design) 0 (line_in design).bits (pieces_in (line_in design) design.procs))
