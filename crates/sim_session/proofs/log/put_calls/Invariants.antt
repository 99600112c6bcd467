use Rattle.std.proofs.Common.{◌≡◌, ◌≤◌, ◌+◌, ◌++◌, length, vec_len}
use Rattle.std.specs.Prelude.{vec_capacity}
use Rattle.sim_session.specs.CallLines.{call_lines}
use Rattle.sim_session.specs.Rooms.{longest, lines_room}
use Rattle.sim_session.proofs.log.put_calls.Given as goal

abbrev pub invariant-calls : goal.invariant-calls
invariant-calls l = record {
  written : l.text.items ++ call_lines l.imports l.number l.rest ≡ call_lines l.imports l.number l.calls;
  room : vec_len l.text + lines_room (longest l.imports) l.rest ≤ vec_capacity l.text;
  capacity : vec_capacity l.fn.text ≤ vec_capacity l.text;
}

abbrev pub decreases-calls : goal.decreases-calls
decreases-calls l = length l.rest
