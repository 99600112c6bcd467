use Rattle.std.proofs.Common.{◌≡◌, ◌≤◌, ◌+◌, ◌++◌, length, vec_len}
use Rattle.std.specs.Prelude.{vec_capacity}
use Rattle.sim_session.specs.Inputs.{inputs_at}
use Rattle.sim_session.proofs.eval.gather.Given as goal

abbrev pub invariant-ports : goal.invariant-ports
invariant-ports l = record {
  gathered : l.inputs.items ++ inputs_at l.ports l.set ≡ inputs_at l.fn.ports l.fn.set;
  room : vec_len l.inputs + length l.ports ≤ vec_capacity l.inputs;
  capacity : vec_capacity l.inputs ≡ vec_capacity l.fn.inputs;
}

abbrev pub decreases-ports : goal.decreases-ports
decreases-ports l = length l.ports
