use Rattle.std.proofs.Common.{◌≡◌, ◌+◌, length}
use Rattle.vcd_out.specs.Changes.{rooms, widths_of_vars}
use Rattle.vcd_out.proofs.change.room_for.Given as goal

abbrev pub invariant-places : goal.invariant-places
invariant-places l = l.room + rooms (widths_of_vars l.vars) l.rest ≡ 22 + rooms (widths_of_vars l.vars) l.order

abbrev pub decreases-places : goal.decreases-places
decreases-places l = length l.rest
