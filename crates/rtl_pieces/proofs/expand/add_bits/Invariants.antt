use Rattle.std.proofs.Common.{◌≡◌, ◌++◌, ◌-◌, true, map}
use Rattle.std.specs.List.{list_all}
use Rattle.rtl_pieces.specs.Line.{is_bit, place_of}
use Rattle.rtl_pieces.specs.Bits.{places_from}
use Rattle.rtl_pieces.proofs.expand.add_bits.Given as goal

abbrev pub invariant-loop-place : goal.invariant-loop-place
invariant-loop-place l =
    (map (place_of l.line) l.bits.items ++ places_from l.place (l.fn.range.to - l.place) ≡ map (place_of l.line) l.initial.bits.items ++ places_from l.fn.range.from (l.fn.range.to - l.fn.range.from))
    × (list_all (is_bit l.line) l.bits.items ≡ true)
