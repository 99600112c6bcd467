use Rattle.std.proofs.Common.{◌≡◌, drop, map}
use Rattle.rtl_pieces.specs.Line.{items_in}
use Rattle.rtl_pieces.specs.Reads.{in_order}
use Rattle.rtl_pieces.specs.Writes.{target_writes}
use Rattle.rtl_pieces.proofs.writes.add_place.Given as goal

abbrev pub invariant-loop-target : goal.invariant-loop-target
invariant-loop-target l = in_order (map (target_writes (items_in l.line)) (drop l.target-index l.place.parts)) l.found.items ≡ in_order (map (target_writes (items_in l.line)) l.place.parts) l.initial.found.items
