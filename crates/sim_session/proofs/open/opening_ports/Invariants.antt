use Rattle.std.proofs.Common.{◌≡◌, take}
use Rattle.sim_session.specs.Inputs.{opening_ports}
use Rattle.sim_session.proofs.open.opening_ports.Given as goal

abbrev pub invariant-loop-port : goal.invariant-loop-port
invariant-loop-port l = l.values.items ≡ opening_ports l.vars (take l.port-index l.ports)
