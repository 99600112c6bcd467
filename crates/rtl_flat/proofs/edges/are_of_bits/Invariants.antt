use Rattle.std.proofs.Common.{◌≡◌, take, true}
use Rattle.std.specs.List.{list_all}
use Rattle.rtl_flat.specs.Edges.{is_of_bit}
use Rattle.rtl_flat.proofs.edges.are_of_bits.Given as goal

abbrev pub invariant-loop-event : goal.invariant-loop-event
invariant-loop-event l = list_all (is_of_bit l.vars) (take l.event-index l.events) ≡ true
