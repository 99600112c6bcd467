use Rattle.std.proofs.Common.{length, ◌≡◌, ◌++◌}
use Rattle.rtl_flat.specs.Ports.{further_ports, listed_ports}
use Rattle.rtl_flat.proofs.ports.listed_ports.Given as goal

abbrev pub invariant-loop-rest : goal.invariant-loop-rest
invariant-loop-rest l = l.all ++ further_ports l.names l.last l.rest ≡ listed_ports l.names l.list

abbrev pub decreases-loop-rest : goal.decreases-loop-rest
decreases-loop-rest l = length l.rest
