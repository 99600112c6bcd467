use Rattle.std.proofs.Common.{◌≡◌, ◌+◌, length}
use Rattle.vcd_out.specs.Changes.{widths_of_vars}
use Rattle.sim_session.specs.Rooms.{outputs_room}
use Rattle.sim_session.proofs.rooms.line_room.Given as goal

abbrev pub invariant-ports : goal.invariant-ports
invariant-ports l = l.room + outputs_room l.vars (widths_of_vars l.vars) l.rest ≡ 21 + outputs_room l.vars (widths_of_vars l.vars) l.ports

abbrev pub decreases-ports : goal.decreases-ports
decreases-ports l = length l.rest
