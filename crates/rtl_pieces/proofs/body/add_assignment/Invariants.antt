use Rattle.std.proofs.Common.{◌≡◌, drop, map}
use Rattle.rtl_pieces.specs.Line.{items_in}
use Rattle.rtl_pieces.specs.Reads.{in_order, target_indices}
use Rattle.rtl_pieces.proofs.body.add_assignment.Given as goal

abbrev pub invariant-loop-target : goal.invariant-loop-target
invariant-loop-target l = in_order (map (target_indices (items_in l.line)) (drop l.target-index l.place.parts)) l.found.items ≡ in_order (map (target_indices (items_in l.line)) l.place.parts) l.initial.found.items
