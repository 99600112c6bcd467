use Rattle.std.proofs.Common.{◌≡◌, ◌++◌, true, map, length}
use Rattle.std.specs.List.{list_all}
use Rattle.rtl_pieces.specs.Line.{is_bit, place_of}
use Rattle.rtl_pieces.specs.Bits.{places_in}
use Rattle.rtl_pieces.specs.Ranges.{AllBelow}
use Rattle.rtl_pieces.proofs.expand.bits_of.Given as goal

abbrev pub invariant-loop-rest : goal.invariant-loop-rest
invariant-loop-rest l =
    (map (place_of l.line) l.bits.items ++ places_in l.rest ≡ places_in l.ranges)
    × (list_all (is_bit l.line) l.bits.items ≡ true)
    × AllBelow l.line.bits l.rest

abbrev pub decreases-loop-rest : goal.decreases-loop-rest
decreases-loop-rest l = length l.rest
