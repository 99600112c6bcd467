use Rattle.std.proofs.Common.{◌≡◌, ◌≤◌, ◌+◌, ◌++◌, length, vec_len}
use Rattle.std.specs.Prelude.{vec_capacity}
use Rattle.sim_session.specs.Lines.{outputs_text}
use Rattle.vcd_out.specs.Changes.{widths_of}
use Rattle.sim_session.specs.Rooms.{outputs_room}
use Rattle.sim_session.proofs.line.put_outputs.Given as goal

abbrev pub invariant-ports : goal.invariant-ports
invariant-ports l = record {
  written : l.text.items ++ outputs_text l.vars l.values l.rest ≡ l.fn.text.items ++ outputs_text l.vars l.values l.ports;
  most : vec_len l.text + outputs_room l.vars (widths_of l.values) l.rest ≤ vec_len l.fn.text + outputs_room l.vars (widths_of l.values) l.ports;
  room : vec_len l.text + outputs_room l.vars (widths_of l.values) l.rest ≤ vec_capacity l.text;
  capacity : vec_capacity l.fn.text ≤ vec_capacity l.text;
}

abbrev pub decreases-ports : goal.decreases-ports
decreases-ports l = length l.rest
