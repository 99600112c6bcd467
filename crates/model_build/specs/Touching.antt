-- The words that processes touch: a word is read where a bit of it is, and written where a bit of it is.
use Rattle.std.specs.Prelude.{◌≡◌, ℕ, suc, Bool, ◌&&◌, nat_lt, List, length, slice_index}
use Rattle.std.specs.List.{list_any}
use Rattle.rtl_ir.specs.declared.design.Proc.{Proc}
use Rattle.rtl_pieces.specs.declared.range.BitRange.{BitRange}
use Rattle.rtl_pieces.specs.Line.{Line, has}
use Rattle.rtl_pieces.specs.Bits.{reads, writes}
use Rattle.logic_graph.specs.declared.ranges.WordRange.{WordRange}
use Rattle.logic_graph.specs.declared.ranges.Touched.{Touched}
use Rattle.logic_graph.specs.Reading.{has_word}

-- word w, which stands from its place up to the next one, has a bit of a range
abbrev pub is_in : List ℕ → ℕ → BitRange → Bool
is_in places w r = nat_lt (suc w) (length places) && (nat_lt r.from r.to && (nat_lt (slice_index places w) r.to && nat_lt r.from (slice_index places (suc w))))

-- these ranges have the words with a bit that passes a test, where the bits are told in ranges
pub record WordsAre (places : List ℕ) (bits : ℕ → Bool) (words : List WordRange) : Type 0 where
  pub ranges : List BitRange
  pub same_bits : (b : ℕ) → has b ranges ≡ bits b
  pub same_words : (w : ℕ) → list_any (has_word w) words ≡ list_any (is_in places w) ranges

-- what process p touches
pub record IsTouched (line : Line) (procs : List Proc) (places : List ℕ) (p : ℕ) (t : Touched) : Type 0 where
  pub read : WordsAre places (reads line procs p) t.reads
  pub written : WordsAre places (writes line procs p) t.writes
