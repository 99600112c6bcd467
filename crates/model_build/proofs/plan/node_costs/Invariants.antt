use Rattle.std.proofs.Common.{◌≡◌, map, take}
use Rattle.model_build.specs.Costs.{node_cost}
use Rattle.model_build.proofs.plan.node_costs.Given as goal

abbrev pub invariant-loop-node : goal.invariant-loop-node
invariant-loop-node l = l.costs ≡ map (node_cost l.serial.procs.now l.serial.codes.now) (take l.node-index l.nodes)
