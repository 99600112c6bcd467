-- Spans: ranges in which other ranges lie.
use Rattle.std.specs.Prelude.{◌≡◌, ℕ, ◌<◌, min, max, fold, nat_le, Bool, true, ◌&&◌, List, length, slice_index_or}
use Rattle.std.specs.List.{list_any, list_all}
use Rattle.logic_graph.specs.declared.ranges.WordRange.{WordRange}
use Rattle.logic_graph.specs.declared.ranges.Touched.{Touched}
use Rattle.logic_graph.specs.Reading.{meets}

-- a range lies within another
abbrev pub is_within : WordRange → WordRange → Bool
is_within span r = nat_le span.first r.first && nat_le r.end span.end

abbrev pub covers : WordRange → List WordRange → Bool
covers span ranges = list_all (is_within span) ranges

-- a span with a range more, and that of some ranges
abbrev pub widened : WordRange → WordRange → WordRange
widened span r = record { first = min span.first r.first; end = max span.end r.end }

abbrev pub span_of : List WordRange → WordRange
span_of ranges = fold widened (record { first = 4294967295; end = 0 }) ranges

-- some of these ranges meets one
abbrev pub meets_some : List WordRange → WordRange → Bool
meets_some some r = list_any (λ s. meets s r) some

-- the span of each node covers what it writes
pub record Cover (touched : List Touched) (spans : List WordRange) : Type 0 where
  pub len : length spans ≡ length touched
  pub each : (i : ℕ) (t : Touched) (s : WordRange) → i < length touched → covers (slice_index_or spans i s) (slice_index_or touched i t).writes ≡ true
